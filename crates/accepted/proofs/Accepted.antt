-- Records that were all accepted are read back: the premise is the answer alone.
use Prim.Native.Nat.{ℕ, ◌+◌, ◌≤◌}
use mathlib.Core.Path.{◌≡◌, refl, ap, sym, ◌∙◌}
use mathlib.Core.List.{List, [], ◌∷◌, ◌++◌, map}
use native.Mathlib.Omega.{arith}
use lib.ListN.{length, take, drop, length-append, length-drop}
use lib.Seq.{take_at, drop_at, drop-drop}
use Rattle.num.specs.Answer.{Answer, gives, refuses}
use Rattle.num.specs.declared.Order.{Order}
use Rattle.lay.specs.Splice.{splice}
use Rattle.lay.proofs.Splice.{length-splice}
use Rattle.frame.specs.Place.{shows}
use Rattle.frame.specs.Frames.{chunk_bytes, frames}
use Rattle.frame.specs.declared.At.TheVariants.{Complete}
use Rattle.frame.specs.declared.Ahead.TheVariants.{Chunk}
use Rattle.frame.proofs.Frames.{chunk-shows, frames-nil}
use Rattle.reader.specs.Items.{items_from, items}
use Rattle.reader.specs.Part.{body_at}
use Rattle.reader.specs.Reading.{told, ahead}
use Rattle.reader.specs.Step.{Step, new_cursor, step_by, step_of, Fit}
use Rattle.reader.specs.declared.Cursor.{Cursor}
use Rattle.reader.proofs.Laws.{step-end, step-accepts, chunk-ends}
use Rattle.reader.proofs.Parts.{body-within}
use Rattle.reader.proofs.Theorems.{new-fit, step-keeps-fit, one}
use Rattle.writer.specs.Write.{write_of, laid_by}
use Rattle.writer.specs.Records.{Record, chunk_of, Each, Taken, Typed, written_all, Ran, then_next, write_all}
use Rattle.writer.proofs.Laws.{taken-size, written, next-given}
use Rattle.writer.proofs.Theorems.{chunk-length, behind-header, written-one-by-one, read-back}
use Rattle.accepted.specs.Read.{ReadAs, behind, AllRead, StepsRead}

-- the next place is the one behind the record
pub next-behind : (o : Order) (r : Record) (whole place next : ℕ) → write_of o r.code r.body whole place ≡ gives next → next ≡ behind place r
next-behind o r whole place next e =
    let g = next-given o r.code r.body whole place next e in
    let w : ◌≡◌ {A = Answer ℕ} (gives next) (gives (behind place r)) = sym e ∙ written o r.code r.body whole place g.0 g.1 in
    cc

-- ---- what a run says of its records where it does not end in a refusal

module _ (o : Order) (r : Record) (rs : List Record) (d : List ℕ) (place n : ℕ) where
  first-by : (a : Answer ℕ) → write_of o r.code r.body (length d) place ≡ a →
      let d' : List ℕ = laid_by a d place (chunk_bytes o r.code r.body) in
      (then_next a d' (λ next. write_all o rs d' next)).place ≡ gives n →
      (next : ℕ) × (write_of o r.code r.body (length d) place ≡ gives next) × ((write_all o rs (splice d place (chunk_bytes o r.code r.body)) next).place ≡ gives n)
  first-by (gives next) e h = (next, e, h)
  first-by (refuses k) e h = let z : ◌≡◌ {A = ℕ} 0 1 = cc in absurd (omega arith)

  -- its first record is accepted, and then the others are
  pub first-next : (write_all o (r ∷ rs) d place).place ≡ gives n →
      (next : ℕ) × (write_of o r.code r.body (length d) place ≡ gives next) × ((write_all o rs (splice d place (chunk_bytes o r.code r.body)) next).place ≡ gives n)
  unfolding write_all
  first-next h = first-by (write_of o r.code r.body (length d) place) refl h

-- each of its records may be written, and there is room for all
room : (o : Order) (rs : List Record) (d : List ℕ) (place n : ℕ) → place ≤ length d → (write_all o rs d place).place ≡ gives n →
    Each (Taken o) rs × (place + length (written_all o rs) ≤ length d)
unfolding written_all
room o [] d place n h e = (tt, omega arith)
room o (r ∷ rs) d place n h e =
    let c = chunk_bytes o r.code r.body in
    let b = first-next o r rs d place n e in
    let g = next-given o r.code r.body (length d) place b.0 b.1 in
    let q = next-behind o r (length d) place b.0 b.1 in
    let m : length c ≡ 12 + length r.body = chunk-length o r.code r.body in
    let l : length (splice d place c) ≡ length d = length-splice d place c (omega (arith, g.1)) in
    let t = room o rs (splice d place c) b.0 n (omega (arith, g.1)) b.2 in
    ((g.0, t.0), omega (arith, length-append c (written_all o rs), t.1))

-- ---- what a cursor gives that stands at the bytes of some records

module _ (o : Order) (s : List ℕ) where
  -- a record's chunk at the cursor's place, which the step accepts
  record-here : (r : Record) (w : List ℕ) (c : Cursor) → drop c.place s ≡ chunk_bytes o r.code r.body ++ w → Fit c → Taken o r → Typed r →
      (step_of o s c ≡ step_by o (drop c.place s) c (Chunk r.code (length r.body)))
      × (body_at s c.place (length r.body) ≡ r.body)
      × (behind c.place r ≤ length s)
      × (drop (behind c.place r) s ≡ w)
  record-here r w c e f k t =
      let n = length r.body in
      let b = chunk_bytes o r.code r.body in
      let p = c.place in
      let sh : shows o (drop p s) ≡ Complete r.code n = rw e (chunk-shows o r.code r.body w (omega (arith, t)) (taken-size o r.code r.body k)) in
      let h = chunk-ends o s p r.code n sh in
      let q : p + 12 + n ≡ p + (12 + n) = omega arith in
      let d : drop (p + 12) s ≡ r.body ++ w = sym (drop-drop 12 p s) ∙ ap (drop 12) e ∙ behind-header o r.code r.body w in (
        step-accepts o s c r.code n (omega arith) f sh,
        body-within s p n h ∙ rw d (take_at r.body w n refl),
        h,
        rw q (sym (drop-drop (12 + n) p s) ∙ ap (drop (12 + n)) e ∙ drop_at b w (12 + n) (chunk-length o r.code r.body)),
      )

  -- its steps give the records and then End, and so do the items ahead of it
  read-on : (rs : List Record) (c : Cursor) → drop c.place s ≡ written_all o rs → c.place ≤ length s → Fit c → Each (Taken o) rs → Each Typed rs →
      StepsRead o s c c.place rs × AllRead s c.place rs (ahead o s c)
  unfolding written_all items_from
  read-on [] c e h f k t =
      let n : length (drop c.place s) ≡ 0 = ap length e in
      let q : c.place ≡ length s = omega (arith, length-drop c.place s) in
      (ap (λ (x : Step). x.item) (step-end o s c q f), rw (e, frames-nil o) tt)
  read-on (r ∷ rs) c e h f k t =
      let a = record-here r (written_all o rs) c e f k.0 t.0 in
      let x = step_by o (drop c.place s) c (Chunk r.code (length r.body)) in
      let g = read-on rs x.cursor a.3 a.2 (rw a.0 at (step-keeps-fit o s c f)) k.1 t.1 in
      let u : ahead o s c ≡ told x.item x.shown (ahead o s x.cursor) = rw a.0 at (one o s c (omega (arith, a.2)) f) in
      let i : ReadAs s c.place r _ = record { says = _; item = refl; body = a.1 } in
      (rw a.0 (i, g.0), rw u (i, g.1))

module _ (o : Order) (rs : List Record) (d : List ℕ) (n : ℕ) (e : (write_all o rs d 0).place ≡ gives n) where
  taken : Each (Taken o) rs
  taken = (room o rs d 0 n (omega arith) e).0

  fits : length (written_all o rs) ≤ length d
  fits = omega (arith, (room o rs d 0 n (omega arith) e).1)

  count : n ≡ length (written_all o rs)
  count =
      let w : ◌≡◌ {A = Answer ℕ} (gives n) (gives (length (written_all o rs))) = sym e ∙ ap (λ (x : Ran). x.place) (written-one-by-one o rs d taken fits) in
      cc

  -- Where records were written one after the other from place 0 on and each call gave a next place, the bytes before the last
  -- place are those of the records.
  pub accepted-bytes : take n (write_all o rs d 0).slice ≡ written_all o rs
  accepted-bytes =
      let w = written_all o rs in
      rw (count, written-one-by-one o rs d taken fits) (take_at w (drop (0 + length w) d) (length w) refl)

  module _ (t : Each Typed rs) where
    -- Read over exactly these bytes, the frames are the records' chunks, in order and nothing else.
    pub accepted-frames : frames o (take n (write_all o rs d 0).slice) ≡ map chunk_of rs
    accepted-frames = rw accepted-bytes (read-back o rs taken t)

    both_read : let s : List ℕ = take n (write_all o rs d 0).slice in StepsRead o s new_cursor 0 rs × AllRead s 0 rs (items o s)
    both_read = read-on o (take n (write_all o rs d 0).slice) rs new_cursor accepted-bytes (omega arith) new-fit taken t

    -- So are the items: one to one the records, each of its type, size and body.
    pub accepted-items : let s : List ℕ = take n (write_all o rs d 0).slice in AllRead s 0 rs (items o s)
    accepted-items = both_read.1

    -- And so are the steps of a reader from its start: as many as records, and then comes End.
    pub accepted-steps : let s : List ℕ = take n (write_all o rs d 0).slice in StepsRead o s new_cursor 0 rs
    accepted-steps = both_read.0
