-- Read, then written back: of any calls of Cursor::step and any calls that write, as long as each meets its promise.
use Prim.Native.Nat.{ℕ, zero, suc, ◌+◌, ◌≤◌, ◌<◌}
use mathlib.Core.Path.{◌≡◌, refl, ap, sym, ◌∙◌}
use mathlib.Core.Bool.{Bool, true, false}
use mathlib.Core.List.{List, [], ◌∷◌}
use native.Mathlib.Omega.{arith}
use lib.Dec.{ltb}
use lib.ListN.{length, take, drop, length-drop, drop_of_length-le}
use lib.Seq.{drop-drop, take_at}
use borrow.Author.Tests.{ltb-true, ltb-false}
use Rattle.num.specs.Answer.{Answer, gives}
use Rattle.num.specs.declared.Order.{Order}
use Rattle.num.proofs.Laws.{Bytes}
use Rattle.lay.specs.Splice.{splice}
use Rattle.frame.specs.Ahead.{ahead_of}
use Rattle.frame.specs.Frames.{frames}
use Rattle.frame.specs.declared.Ahead.{Ahead}
use Rattle.frame.specs.declared.Ahead.TheVariants.{Chunk}
use Rattle.frame.proofs.Frames.{frames-nil, frames-chunk}
use Rattle.frame.proofs.Looks.{is-chunk, is-end, ahead-by}
use Rattle.reader.specs.Item.{Item, end, is_end, item_said}
use Rattle.reader.specs.Items.{items_from, items}
use Rattle.reader.specs.Part.{body_at}
use Rattle.reader.specs.Reading.{ahead}
use Rattle.reader.specs.Step.{Step, new_cursor, step_by, step_of, after, Fit}
use Rattle.reader.specs.declared.Cursor.{Cursor}
use Rattle.reader.specs.declared.Item.TheVariants as Item
use Rattle.reader.proofs.Laws.{step-ahead, gives-other, gives-on, chunk-ends}
use Rattle.reader.proofs.Parts.{body-within}
use Rattle.reader.proofs.Theorems.{new-fit, step-keeps-fit, one}
use Rattle.writer.specs.Records.{Record, records_of, Each, Ran, write_all}
use Rattle.ending.proofs.Calls.{NewCall, new-met, StepCall}
use Rattle.ending.proofs.Runs.{Run, run-is-step}
use Rattle.accepted.specs.Sound.{sound, SoundItem, record_in}
use Rattle.accepted.specs.Writing.{Writing, place_at, held_at, WriteRun, WroteStream}
use Rattle.accepted.proofs.Back.{sound-written-back}
use Rattle.accepted.proofs.Runs.{first_of, records_to, all-written, all-accepted}

-- ---- a step that gives a sound chunk, and one that gives End

-- a step gives the first of the items ahead of a cursor, and the record of the first frame
record Steps (o : Order) (s : List ℕ) (c : Cursor) (t : Step) : Type 0 where
  pub within : t.cursor.place ≤ length s
  pub item : Item
  pub given : t.item ≡ gives item
  pub items : ahead o s c ≡ record { item = item; shown = t.shown } ∷ ahead o s t.cursor
  pub records : records_of (frames o (drop c.place s)) ≡ record_in s t.item ∷ records_of (frames o (drop t.cursor.place s))

module _ (o : Order) (s : List ℕ) (c : Cursor) (h : c.place ≤ length s) (f : Fit c) where
  sound-by : (a : Ahead) → sound (step_by o (drop c.place s) c a).item ≡ true → (code : ℕ) × (size : ℕ) × (a ≡ Chunk code size)
  sound-by =
      ahead-by (λ (a : Ahead). sound (step_by o (drop c.place s) c a).item ≡ true → (code : ℕ) × (size : ℕ) × (a ≡ Chunk code size))
      (λ code size e. (code, size, refl))
      (λ a n e.
      let g = gives-other o (drop c.place s) c a n in
      let z : false ≡ true = rw (g.1, g.2) at e in
      let q : ◌≡◌ {A = ℕ} 0 1 = cc in absurd (omega arith))

  -- a chunk is ahead where the step gives a sound one
  sound-ahead : sound (step_of o s c).item ≡ true → (code : ℕ) × (size : ℕ) × (ahead_of o (drop c.place s) ≡ Chunk code size)
  sound-ahead e = sound-by (ahead_of o (drop c.place s)) (rw (step-ahead o s c h f) at e)

  chunk-steps : (code size : ℕ) → ahead_of o (drop c.place s) ≡ Chunk code size → Steps o s c (step_of o s c)
  unfolding records_of
  chunk-steps code size a =
      let p = c.place in
      let sh = is-chunk o (drop p s) code size a in
      let m = chunk-ends o s p code size sh in
      let st : step_of o s c ≡ step_by o (drop p s) c (Chunk code size) = step-ahead o s c h f ∙ rw a in
      let b : take size (drop 12 (drop p s)) ≡ body_at s p size = sym (body-within s p size m ∙ rw (← drop-drop 12 p s)) in
      let u = rw st at (one o s c (omega arith) f) in
      rw st (record { within = m; item = _; given = refl; items = u; records = rw (frames-chunk o s p (omega arith) code size sh, b) })

  sound-steps : sound (step_of o s c).item ≡ true → Steps o s c (step_of o s c)
  sound-steps e = let a = sound-ahead e in chunk-steps a.0 a.1 a.2

  -- no byte is ahead where the step gives End
  end-ahead : (step_of o s c).item ≡ gives end → (b : Bool) → ltb c.place (length s) ≡ b → drop c.place s ≡ []
  end-ahead e false l = drop_of_length-le s {i = c.place} (ltb-false c.place (length s) l)
  end-ahead e true l =
      let g = gives-on o (drop c.place s) c (ahead_of o (drop c.place s)) (λ q. omega (arith, is-end o (drop c.place s) q, ltb-true c.place (length s) l, length-drop c.place s)) in
      let w : ◌≡◌ {A = Answer Item} (gives end) (gives g.0) = sym e ∙ ap (λ (x : Step). x.item) (step-ahead o s c h f) ∙ g.1 in
      let i : end ≡ g.0 = cc in
      let z : true ≡ false = ap is_end i ∙ g.2 in
      let q : ◌≡◌ {A = ℕ} 0 1 = cc in absurd (omega arith)

-- ---- n steps that give sound chunks, and then one that gives End: all that is ahead of the cursor

-- records that are the same by their numbers are the same list
first-same : (n : ℕ) (rs qs : ℕ → Record) → ((k : ℕ) → k < n → rs k ≡ qs k) → first_of n rs ≡ first_of n qs
unfolding first_of
first-same zero rs qs h = refl
first-same (suc n) rs qs h = rw (h 0 (omega arith), first-same n (λ k. rs (suc k)) (λ k. qs (suc k)) (λ k l. h (suc k) (omega arith)))

module _ (o : Order) (s : List ℕ) where
  -- the records that the steps from a cursor give
  abbrev given : Cursor → ℕ → Record
  given c k = record_in s (step_of o s (after k o s c)).item

  sound-on : (n : ℕ) (c : Cursor) → c.place ≤ length s → Fit c → ((k : ℕ) → k < n → sound (step_of o s (after k o s c)).item ≡ true) → (step_of o s (after n o s c)).item ≡ gives end →
      Each SoundItem (ahead o s c) × (records_of (frames o (drop c.place s)) ≡ first_of n (given c))
  unfolding first_of after items_from records_of
  sound-on zero c h f k e =
      let d = end-ahead o s c h f e (ltb c.place (length s)) refl in
      rw (d, frames-nil o) (tt, refl)
  sound-on (suc n) c h f k e =
      let i = k 0 (omega arith) in
      let t = sound-steps o s c h f i in
      let g = sound-on n (step_of o s c).cursor t.within (step-keeps-fit o s c f) (λ j l. k (suc j) (omega arith)) e in
      (rw t.items (rw t.given at i, g.0), rw (t.records, g.1))

-- ---- a stream that is read from a new cursor to its end, and written

-- n steps from a new cursor, each of which gives a chunk that is refused with none of 11 to 15, and then one that gives End
pub record ReadSound (o : Order) (s : List ℕ) (n : ℕ) (start : NewCall) (calls : ℕ → StepCall) : Type 0 where
  pub run : Run (suc n) o s start.result calls
  pub chunks : (k : ℕ) → k < n → sound (item_said (calls k).result.item) ≡ true
  pub last : (calls n).result.item ≡ Item.End

-- the record that each call is to write is that of the chunk that the step of its number gave
abbrev pub WritesRead : ℕ → List ℕ → (ℕ → StepCall) → (ℕ → Writing) → Type 0
WritesRead n s calls writes = (k : ℕ) → k < n → (writes k).wrote ≡ record_in s (item_said (calls k).result.item)

module _ (o : Order) (s : List ℕ) (n : ℕ) (start : NewCall) (calls : ℕ → StepCall) (r : ReadSound o s n start calls) where
  step-is : (k : ℕ) → k < suc n → item_said (calls k).result.item ≡ (step_of o s (after k o s new_cursor)).item
  step-is k h = (run-is-step (suc n) o s new_cursor calls (rw (new-met start) at r.run) k h).item

  all-sound : Each SoundItem (items o s) × (records_of (frames o s) ≡ first_of n (given o s new_cursor))
  all-sound =
      sound-on o s n new_cursor (omega arith) new-fit (λ k h. rw (← step-is k (omega arith)) (r.chunks k h))
      (sym (step-is n (omega arith)) ∙ ap item_said r.last)

  module _ (g : Bytes s) (d : List ℕ) (f : length s ≤ length d) (writes : ℕ → Writing) (w : WriteRun n o d 0 writes) (same : WritesRead n s calls writes) where
    back : write_all o (records_to n writes) d 0 ≡ record { slice = splice d 0 s; place = gives (length s) }
    back =
        let e = first-same n (λ k. (writes k).wrote) (given o s new_cursor) (λ k h. same k h ∙ ap (record_in s) (step-is k (omega arith))) in
        let q : records_to n writes ≡ records_of (frames o s) = e ∙ sym all-sound.1 in
        rw q (sound-written-back o s d g all-sound.0 f)

    -- Where the steps over a stream give chunks that are refused with none of 11 to 15, and then End, calls that write each chunk's type and
    -- body, as step and body_of give them, in turn from place 0 on of a slice with room for the stream, are all accepted and write the stream.
    -- That the stream's elements are bytes is so of every slice of u8.
    pub read-written-back : WroteStream n d s writes
    read-written-back =
        let a = all-accepted n o d 0 writes (length s) w (ap (λ (x : Ran). x.place) back) in
        let t = sym (all-written n o d 0 writes w a) ∙ back in
        let q : ◌≡◌ {A = Answer ℕ} (gives (place_at 0 writes n)) (gives (length s)) = ap (λ (x : Ran). x.place) t in
        let p : place_at 0 writes n ≡ length s = cc in
        let l : held_at d writes n ≡ splice d 0 s = ap (λ (x : Ran). x.slice) t in
        record { accepted = a; place = p; slice = l; bytes = rw (p, l) (take_at s (drop (0 + length s) d) (length s) refl) }
