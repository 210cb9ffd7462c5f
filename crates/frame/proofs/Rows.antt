-- How many frames some bytes have at most, counted in thirteens: a chunk takes twelve bytes at least and a skipped stretch one, no
-- skipped stretch follows another, and an unfinished end is the last.
use Prim.Native.Nat.{ℕ, zero, suc, ◌+◌, ◌-◌, ◌*◌, ◌≤◌}
use mathlib.Core.Path.{◌≡◌, refl}
use mathlib.Core.Bool.{Bool, true, false}
use mathlib.Core.List.{List, [], ◌∷◌}
use native.Mathlib.Omega.{arith}
use lib.Dec.{ltb}
use lib.ListN.{length, drop, length-drop}
use borrow.Author.Tests.{lt-ltb, ltb-true, ltb-false}
use Rattle.num.specs.declared.Order.{Order}
use Rattle.frame.specs.declared.At.{At}
use Rattle.frame.specs.declared.At.TheVariants.{NoSync, Bad, Unfinished, Complete}
use Rattle.frame.specs.Place.{shows, stops, gap}
use Rattle.frame.specs.Frames.{width, first, frames_by, frames}
use Rattle.frame.proofs.Frames.{complete, first-takes, width-complete, width-cut, width-skip}
use Rattle.frame.proofs.Theorems.{search-stopped}

module _ (o : Order) where
  -- n frames are not too many for the bytes l: at most 2·k for 13·k bytes, one frame more for one byte more, and two frames more for
  -- up to twelve bytes more, or only one where a search stops at the first byte
  pub record Rows (l : List ℕ) (n : ℕ) : Type 0 where
    pub none : (k : ℕ) → length l ≤ 13 * k → n ≤ 2 * k
    pub one : (k : ℕ) → length l ≤ 13 * k + 1 → n ≤ 2 * k + 1
    pub more : (k : ℕ) → length l ≤ 13 * k + 12 → n ≤ 2 * k + 2
    pub stopped : stops (shows o l) ≡ true → (k : ℕ) → length l ≤ 13 * k + 12 → n ≤ 2 * k + 1

  -- behind a skipped stretch a search stops, or nothing is left
  behind : (l : List ℕ) (n : ℕ) (b : Bool) → ltb (gap o l) (length l) ≡ b → Rows (drop (gap o l) l) n →
      (k : ℕ) → length (drop (gap o l) l) ≤ 13 * k + 12 → n ≤ 2 * k + 1
  behind l n true e r k h =
      let q = ltb-true (gap o l) (length l) e in
      let z : 0 + gap o l ≡ gap o l = omega arith in
      r.stopped (search-stopped o l 0 (gap o l) (rw (z, lt-ltb (gap o l) (length l) q))).here k h
  behind l n false e r k h = omega (arith, r.none 0 (omega (arith, length-drop (gap o l) l, ltb-false (gap o l) (length l) e)))

  passed : (x : ℕ) (l : List ℕ) (n : ℕ) → stops (shows o (x ∷ l)) ≡ false → Rows (drop (width (first o (x ∷ l))) (x ∷ l)) n → Rows (x ∷ l) (suc n)
  passed x l n h r =
      let g = gap o (x ∷ l) in
      let w = width-skip o (x ∷ l) h in
      let t = (first-takes o x l).some in
      let d = length-drop g (x ∷ l) in
      let q : Rows (drop g (x ∷ l)) n = rw w at r in
      let b = behind (x ∷ l) n (ltb g (length (x ∷ l))) refl q in
      record {
        none = λ k i. omega (arith, b (k - 1) (omega arith));
        one = λ k i. omega (arith, q.none k (omega arith));
        more = λ k i. omega (arith, b k (omega arith));
        stopped = λ s k i. absurd cc;
      }

  rows-cons : (x : ℕ) (l : List ℕ) (n : ℕ) (a : At) → shows o (x ∷ l) ≡ a → Rows (drop (width (first o (x ∷ l))) (x ∷ l)) n → Rows (x ∷ l) (suc n)
  rows-cons x l n (Complete t m) e r =
      let w = width-complete o (x ∷ l) t m e in
      let f = (complete o (x ∷ l) t m e).fits in
      let d = length-drop (width (first o (x ∷ l))) (x ∷ l) in
      record {
        none = λ k i. omega (arith, r.one (k - 1) (omega arith));
        one = λ k i. omega (arith, r.none k (omega arith));
        more = λ k i. omega (arith, r.none k (omega arith));
        stopped = λ s k i. omega (arith, r.none k (omega arith));
      }
  rows-cons x l n Unfinished e r =
      let w = width-cut o (x ∷ l) e in
      let d = length-drop (width (first o (x ∷ l))) (x ∷ l) in
      let z = r.none 0 (omega arith) in
      record { none = λ k i. omega arith; one = λ k i. omega arith; more = λ k i. omega arith; stopped = λ s k i. omega arith }
  rows-cons x l n NoSync e r = passed x l n (rw e) r
  rows-cons x l n (Bad b) e r = passed x l n (rw e) r

  no-rows : (l : List ℕ) → Rows l 0
  no-rows l = record { none = λ k i. omega arith; one = λ k i. omega arith; more = λ k i. omega arith; stopped = λ s k i. omega arith }

  rows-by : (f : ℕ) (l : List ℕ) → length l ≤ f → Rows l (length (frames_by f o l))
  unfolding frames_by
  rows-by zero l h = no-rows l
  rows-by (suc f) [] h = no-rows []
  rows-by (suc f) (x ∷ l) h =
      let w = width (first o (x ∷ l)) in
      let k = (first-takes o x l).some in
      rows-cons x l (length (frames_by f o (drop w (x ∷ l)))) (shows o (x ∷ l)) refl (rows-by f (drop w (x ∷ l)) (omega (arith, length-drop w (x ∷ l))))

  -- the frames of a stream are not too many for it
  pub rows : (s : List ℕ) → Rows s (length (frames o s))
  rows s = rows-by (length s) s (omega arith)
