-- A recording that grows, of any calls that meet the promise of Cursor::step: on a stream, and on the stream with more bytes
-- appended.
use Prim.Native.Nat.{ℕ, zero, suc, ◌+◌, ◌≤◌, ◌<◌}
use mathlib.Core.Path.{◌≡◌, refl, ap, sym, ◌∙◌}
use mathlib.Core.Bool.{true, false}
use mathlib.Core.List.{List, [], ◌∷◌, ◌++◌, flatten}
use mathlib.Core.Logic.{⊎_elim}
use native.Mathlib.Omega.{arith}
use lib.ListN.{length}
use Rattle.num.specs.Choice.{pick}
use Rattle.num.specs.declared.Order.{Order}
use Rattle.frame.specs.declared.Ahead.{Ahead}
use Rattle.frame.specs.declared.Ahead.TheVariants.{End, Stretch, Cut, Chunk}
use Rattle.reader.specs.Item.{is_chunk, item_said}
use Rattle.reader.specs.Items.{Given, items}
use Rattle.reader.specs.Step.{Step, step_by, step_of, after}
use Rattle.reader.specs.IsStep.{IsStep}
use Rattle.reader.specs.Reading.{told, reading, ahead}
use Rattle.reader.specs.declared.Cause.{Cause}
use Rattle.reader.specs.declared.Cursor.{Cursor}
use Rattle.reader.specs.declared.Item.TheVariants.{Skipped}
use Rattle.reader.specs.declared.Stepped.{Stepped}
use Rattle.reader.proofs.Laws.{step-ahead}
use Rattle.reader.proofs.Told.{item-told}
use Rattle.ending.proofs.Calls.{NewCall, new-met, StepCall, StepOn, step-met}
use Rattle.ending.proofs.Runs.{came, Run, run-after, run-is-step, run_items, run-reads}
use Rattle.reading.specs.Ends.{Sound}
use Rattle.reading.proofs.Next.{Next, Done, stands, new-sound}
use Rattle.growing.specs.Settled.{settled, chunks_of}
use Rattle.growing.specs.Held.{waits, held_by, held, by_parts}
use Rattle.growing.proofs.Steps.{bytes_ahead, ahead_at, sound-more, skipped-longer}
use Rattle.growing.proofs.Appended.{ahead-end, ahead-cut, appended, appended-cursor}
use Rattle.growing.proofs.Parts.{held-sound, parts-whole}

-- two answers that are the same
pub record Same (a b : Stepped) : Type 0 where
  pub item : a.item ≡ b.item
  pub shown : a.shown ≡ b.shown
  pub cursor : a.cursor ≡ b.cursor

-- two runs of calls from one cursor: m on s, n on s with t appended
module _ (o : Order) (s t : List ℕ) (c : Cursor) (h : Sound s c) (m n : ℕ) (calls others : ℕ → StepCall) (r : Run m o s c calls) (q : Run n o (s ++ t) c others) where
  -- their answers up to the last chunk, that chunk included
  pub same-answers : (k : ℕ) → k < length (settled (ahead o s c)) → k < m → k < n → Same (calls k).result (others k).result
  same-answers k l i j =
      let a = run-is-step m o s c calls r k i in
      let b : IsStep (others k).result (step_of o s (after k o s c)) = rw ((appended o s t c h).steps k l) at (run-is-step n o (s ++ t) c others q k j) in
      record {
        item = item-told (calls k).result.item (others k).result.item (a.item ∙ sym b.item);
        shown = a.shown ∙ sym b.shown;
        cursor = a.cursor ∙ sym b.cursor;
      }

  -- and the cursors up to the one after it
  pub same-cursors : (k : ℕ) → k ≤ length (settled (ahead o s c)) → k ≤ m → k ≤ n → came c calls k ≡ came c others k
  same-cursors k l i j = run-after m o s c calls r k i ∙ sym (appended-cursor o s t c h k l) ∙ sym (run-after n o (s ++ t) c others q k j)

-- Two calls from one cursor, one on s and one on s with t appended: a stretch that the first skips, the second skips too, for the
-- same cause, and no less of it.
pub call-longer : (o : Order) (s t : List ℕ) (c : Cursor) (a b : StepCall) → StepOn o s c a → StepOn o (s ++ t) c b → (p n : ℕ) (cause : Cause) → a.result.item ≡ Skipped p n cause →
    (m : ℕ) × (n ≤ m) × (b.result.item ≡ Skipped p m cause)
call-longer o s t c a b on over p n cause e =
    let w = skipped-longer o s t c p n cause (sym (step-met o s c a on).item ∙ ap item_said e) in
    (w.0, w.1, item-told b.result.item (Skipped p w.0 cause) ((step-met o (s ++ t) c b over).item ∙ w.2))

-- ---- following

-- n calls that give chunks and skipped stretches, and one more, at whose answer a reader that follows stops
pub record Follows (o : Order) (s : List ℕ) (c : Cursor) (n : ℕ) (calls : ℕ → StepCall) : Type 0 where
  pub run : Run (suc n) o s c calls
  pub on : (k : ℕ) → k < n → waits (item_said (calls k).result.item) ≡ false
  pub stop : waits (item_said (calls n).result.item) ≡ true

module _ (o : Order) (s : List ℕ) where
  -- the same of the rules
  record Goes (c : Cursor) (n : ℕ) : Type 0 where
    on : (k : ℕ) → k < n → waits (step_of o s (after k o s c)).item ≡ false
    stop : waits (step_of o s (after n o s c)).item ≡ true

  goes : (c : Cursor) (n : ℕ) (calls : ℕ → StepCall) → Follows o s c n calls → Goes c n
  goes c n calls f = record {
    on = λ k l. rw (← (run-is-step (suc n) o s c calls f.run k (omega arith)).item) (f.on k l);
    stop = rw (← (run-is-step (suc n) o s c calls f.run n (omega arith)).item) f.stop;
  }

  goes-on : (c : Cursor) (n : ℕ) → Goes c (suc n) → Goes (step_of o s c).cursor n
  unfolding after
  goes-on c n g = record { on = λ k l. g.on (suc k) (omega arith); stop = g.stop }

  -- a step that does not stop leaves the end behind
  moved : (c : Cursor) → Sound s c → waits (step_of o s c).item ≡ false → Next o s c
  moved c h e = ⊎_elim (λ (n : Next o s c). n) (λ (d : Done o s c). let q = rw d.step at e in let z : ◌≡◌ {A = ℕ} 0 1 = cc in absurd (omega arith)) (stands o s c h)

  held-after : (f n : ℕ) (c : Cursor) → Sound s c → length s ≤ c.place + f → Goes c n → held_by f o s c ≡ after n o s c
  unfolding held_by after
  held-after zero zero c h l g = refl
  held-after (suc f) zero c h l g = rw g.stop
  held-after zero (suc n) c h l g = let w = moved c h (g.on 0 (omega arith)) in absurd (omega (arith, w.spans.from, w.spans.to, w.spans.some, w.sound.within))
  held-after (suc f) (suc n) c h l g =
      let e = g.on 0 (omega arith) in
      let w = moved c h e in
      rw e (held-after f n (step_of o s c).cursor w.sound (omega (arith, w.spans.from, w.spans.to, w.spans.some)) (goes-on c n g))

  -- where a reader stops, no chunk is ahead
  stop-chunks : (c : Cursor) → Sound s c → (a : Ahead) → ahead_at o s c ≡ a → waits (step_by o (bytes_ahead s c) c a).item ≡ true →
      let t : Step = step_by o (bytes_ahead s c) c a in
      chunks_of (told t.item t.shown []) ≡ chunks_of (ahead o s c)
  unfolding chunks_of
  stop-chunks c h End e w = rw (ahead-end o s c h e)
  stop-chunks c h Cut e w = let k = ahead-cut o s c h e in rw (k.2, k.1)
  stop-chunks c h (Stretch stray) e w = let z : ◌≡◌ {A = ℕ} 0 1 = cc in absurd (omega arith)
  stop-chunks c h (Chunk code size) e w = let z : ◌≡◌ {A = ℕ} 0 1 = cc in absurd (omega arith)

  -- the chunks among what the steps give are those ahead
  given-chunks : (n : ℕ) (c : Cursor) → Sound s c → Goes c n → chunks_of (reading (suc n) o s c) ≡ chunks_of (ahead o s c)
  unfolding reading after chunks_of
  given-chunks zero c h g =
      let e = step-ahead o s c h.within h.fit in
      rw e (stop-chunks c h (ahead_at o s c) refl (rw e at g.stop))
  given-chunks (suc n) c h g =
      let w = moved c h (g.on 0 (omega arith)) in
      let r = given-chunks n (step_of o s c).cursor w.sound (goes-on c n g) in
      rw (w.gives.item, w.gives.shown, w.gives.some, w.rest) (ap (λ (gs : List Given). pick (is_chunk w.given.item) (w.given ∷ gs) gs) r)

module _ (o : Order) (s : List ℕ) (c : Cursor) (h : Sound s c) (n : ℕ) (calls : ℕ → StepCall) (f : Follows o s c n calls) where
  -- The cursor before the call at which a reader stops is the one that the rules say is held,
  pub follows-held : came c calls n ≡ held o s c
  follows-held = run-after (suc n) o s c calls f.run n (omega arith) ∙ sym (held-after o s (length s) n c h (omega arith) (goes o s c n calls f))

  -- and the chunks among the answers are those that are ahead of c.
  pub follows-chunks : chunks_of (run_items (suc n) calls) ≡ chunks_of (ahead o s c)
  follows-chunks = ap chunks_of (run-reads (suc n) o s c calls f.run) ∙ given-chunks o s n c h (goes o s c n calls f)

-- The chunks gs that calls give as the stream grows: those among the calls on s from c on; then, part by part, those among the
-- calls from the cursor before the one at which they stopped.
pub data Grown : Order → List ℕ → Cursor → List (List ℕ) → List Given → Type 0 where
  last : (o : Order) (s : List ℕ) (c : Cursor) (n : ℕ) (calls : ℕ → StepCall) → Follows o s c n calls → Grown o s c [] (chunks_of (run_items (suc n) calls))
  more : (o : Order) (s : List ℕ) (c : Cursor) (n : ℕ) (calls : ℕ → StepCall) → Follows o s c n calls → (t : List ℕ) (ts : List (List ℕ)) (gs : List Given) →
      Grown o (s ++ t) (came c calls n) ts gs → Grown o s c (t ∷ ts) (chunks_of (run_items (suc n) calls) ++ gs)

grown-parts : (o : Order) (s : List ℕ) (c : Cursor) (ts : List (List ℕ)) (gs : List Given) → Grown o s c ts gs → Sound s c → gs ≡ by_parts o s c ts
unfolding by_parts
grown-parts _ _ _ _ _ (last o s c n calls f) h = follows-chunks o s c h n calls f
grown-parts _ _ _ _ _ (more o s c n calls f t ts gs g) h =
    let e = follows-held o s c h n calls f in
    let k : Sound (s ++ t) (came c calls n) = rw e (sound-more o s t (held o s c) (held-sound o s c h)) in
    let r = grown-parts o (s ++ t) (came c calls n) ts gs g k in
    rw (follows-chunks o s c h n calls f, r, e)

-- They are the chunks of the whole.
pub grown-whole : (o : Order) (s : List ℕ) (c : Cursor) (ts : List (List ℕ)) (gs : List Given) → Grown o s c ts gs → Sound s c → gs ≡ chunks_of (ahead o (s ++ flatten ts) c)
grown-whole o s c ts gs g h = grown-parts o s c ts gs g h ∙ parts-whole ts o s c h

-- From a cursor that a call of Cursor::new gave, they are the chunks of the stream.
pub grown-items : (o : Order) (s : List ℕ) (start : NewCall) (ts : List (List ℕ)) (gs : List Given) → Grown o s start.result ts gs → gs ≡ chunks_of (items o (s ++ flatten ts))
grown-items o s start ts gs g =
    let e = new-met start in
    let h : Sound s start.result = rw e (new-sound s) in
    grown-whole o s start.result ts gs g h ∙ rw e
