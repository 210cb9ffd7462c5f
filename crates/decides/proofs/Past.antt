-- A run of steps moves the cursor past as many frames.
use Prim.Native.Nat.{ℕ, zero, suc, ◌+◌, ◌≤◌, ◌<◌}
use mathlib.Core.Path.{◌≡◌, refl, ap, sym, ◌∙◌}
use mathlib.Core.Bool.{Bool, true, false}
use mathlib.Core.List.{List, [], ◌∷◌, foldl}
use native.Mathlib.Omega.{arith}
use lib.Dec.{ltb}
use lib.ListN.{length, take, drop, length-drop, drop_of_length-le}
use lib.Seq.{take-nil, length-take-le}
use borrow.Author.Tests.{ltb-true, ltb-false}
use Rattle.num.specs.declared.Order.{Order}
use Rattle.frame.specs.Frames.{Frame, chunk, skipped, unfinished, frames}
use Rattle.frame.specs.Place.{gap}
use Rattle.frame.specs.Ahead.{ahead_of}
use Rattle.frame.specs.declared.Ahead.{Ahead}
use Rattle.frame.specs.declared.Ahead.TheVariants.{End, Stretch, Cut, Chunk}
use Rattle.frame.proofs.Looks.{is-chunk, is-cut, is-end}
use Rattle.frame.proofs.Frames.{gap-le, frames-nil, frames-chunk, frames-cut, frames-skip}
use Rattle.reader.specs.Step.{Step, step_by, step_of, after, Fit}
use Rattle.reader.specs.declared.Cursor.{Cursor}
use Rattle.reader.proofs.Laws.{step-end, step-ahead, chunk-size}
use Rattle.reader.proofs.Theorems.{step-keeps-fit, goes}
use Rattle.decides.specs.Past.{past}

-- a step moves the cursor past the first frame that is ahead, and the others are ahead of where it stands then
record Passes (o : Order) (s : List ℕ) (c d : Cursor) : Type 0 where
  frame : Frame
  ahead : frames o (drop c.place s) ≡ frame ∷ frames o (drop d.place s)
  stands : d ≡ past o c frame

module _ (o : Order) (s : List ℕ) (c : Cursor) (h : c.place < length s) where
  passes-by : (a : Ahead) → ahead_of o (drop c.place s) ≡ a → Passes o s c (step_by o (drop c.place s) c a).cursor
  passes-by (Chunk code size) e =
      let k = is-chunk o (drop c.place s) code size e in
      let n = chunk-size o s c.place code size k in
      let q : c.place + (12 + length (take size (drop 12 (drop c.place s)))) ≡ c.place + 12 + size = omega arith in
      record { frame = chunk code (take size (drop 12 (drop c.place s))); ahead = frames-chunk o s c.place h code size k; stands = rw q }
  passes-by Cut e = record { frame = unfinished (drop c.place s); ahead = frames-cut o s c.place h (is-cut o (drop c.place s) e); stands = refl }
  passes-by (Stretch stray) e = record {
    frame = skipped stray (take (gap o (drop c.place s)) (drop c.place s));
    ahead = frames-skip o s c.place h stray e;
    stands = rw (length-take-le (gap o (drop c.place s)) (drop c.place s) (gap-le o (drop c.place s)));
  }
  passes-by End e = absurd (omega (arith, is-end o (drop c.place s) e, length-drop c.place s))

  passes : Fit c → Passes o s c (step_of o s c).cursor
  passes f = rw (step-ahead o s c (omega arith) f) (passes-by (ahead_of o (drop c.place s)) refl)

after-by : (k : ℕ) (o : Order) (s : List ℕ) (c : Cursor) (b : Bool) → ltb c.place (length s) ≡ b → Fit c → c.place ≤ length s →
    ((d : Cursor) → Fit d → d.place ≤ length s → after k o s d ≡ foldl (past o) d (take k (frames o (drop d.place s)))) →
    after (suc k) o s c ≡ foldl (past o) c (take (suc k) (frames o (drop c.place s)))
unfolding after
after-by k o s c true e f h r =
    let q = ltb-true c.place (length s) e in
    let d = (step_of o s c).cursor in
    let p = passes o s c q f in
    r d (step-keeps-fit o s c f) (goes o s c f q).within
    ∙ ap (λ (x : Cursor). foldl (past o) x (take k (frames o (drop d.place s)))) p.stands
    ∙ sym (ap (λ (fs : List Frame). foldl (past o) c (take (suc k) fs)) p.ahead)
after-by k o s c false e f h r =
    let q = ltb-false c.place (length s) e in
    let d : drop c.place s ≡ [] = drop_of_length-le s {i = c.place} q in
    let n : frames o (drop c.place s) ≡ [] = ap (frames o) d ∙ frames-nil o in
    ap (λ (t : Step). after k o s t.cursor) (step-end o s c (omega arith) f)
    ∙ r c f h
    ∙ rw (n, take-nil k)

-- From a cursor within the stream for which number 3 is not due, so many steps move it past so many of the frames ahead of it.
pub after-past : (k : ℕ) (o : Order) (s : List ℕ) (c : Cursor) → Fit c → c.place ≤ length s → after k o s c ≡ foldl (past o) c (take k (frames o (drop c.place s)))
unfolding after
after-past zero o s c f h = refl
after-past (suc k) o s c f h = after-by k o s c (ltb c.place (length s)) refl f h (λ d. after-past k o s d)
