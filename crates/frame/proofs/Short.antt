-- When one to three bytes are an unfinished end: where they are the first bytes of the sync word. And that a chunk which breaks off
-- within its header is an unfinished end, however few of its bytes are there.
use Prim.Native.Nat.{ℕ, ◌+◌, ◌-◌, ◌≤◌, ◌<◌}
use mathlib.Core.Path.{◌≡◌, refl, ap, sym, ◌∙◌}
use mathlib.Core.Bool.{Bool, true, false}
use mathlib.Core.List.{List, [], ◌∷◌, ◌++◌}
use mathlib.Core.Logic.{◌↔◌}
use native.Mathlib.Omega.{arith}
use lib.Dec.{ltb}
use lib.ListN.{length, drop, take, take-append-drop}
use lib.Seq.{length-take-le, take-append_seam, take-append-le, take-append-add}
use borrow.Author.Tests.{ltb-true, ltb-false}
use Rattle.num.specs.Choice.{pick}
use Rattle.num.specs.declared.Order.{Order}
use Rattle.frame.specs.declared.At.{At}
use Rattle.frame.specs.declared.At.TheVariants.{NoSync, Unfinished}
use Rattle.frame.specs.Place.{sync_bytes, starts, begun, shows}
use Rattle.frame.proofs.Laws.{starts-short, starts-split, starts-self, sync-length, begun-is, shows-begun, shows-cut}

begun-only : (o : Order) (l : List ℕ) → begun o l ≡ true → (0 < length l) × (l ≡ take (length l) (sync_bytes o))
begun-only o [] h = absurd cc
begun-only o (x ∷ l) h =
    let n = length (x ∷ l) in
    (omega arith, sym (ap (take n) (starts-split (x ∷ l) (sync_bytes o) h) ∙ take-append_seam (x ∷ l) (drop n (sync_bytes o))))

-- some bytes begin the sync word
pub begun-exactly : (o : Order) (l : List ℕ) → (begun o l ≡ true) ↔ ((0 < length l) × (l ≡ take (length l) (sync_bytes o)))
begun-exactly o l = (
  begun-only o l,
  λ h.
      let r = drop (length l) (sync_bytes o) in
      let w : sync_bytes o ≡ l ++ r = sym (take-append-drop (length l) (sync_bytes o)) ∙ ap (λ (m : List ℕ). m ++ r) (sym h.1) in
      begun-is o l h.0 ∙ ap (starts l) w ∙ starts-self l r,
)

cut-by : (b : Bool) → ◌≡◌ {A = At} (pick b Unfinished NoSync) Unfinished → b ≡ true
cut-by true e = refl
cut-by false e = absurd cc

-- fewer bytes than the sync word's are an unfinished end
pub short-end-exactly : (o : Order) (l : List ℕ) → length l < 4 → (shows o l ≡ Unfinished) ↔ ((0 < length l) × (l ≡ take (length l) (sync_bytes o)))
short-end-exactly o l h =
    let e = shows-begun o l (starts-short (sync_bytes o) l (omega (arith, sync-length o))) in
    let k = begun-exactly o l in
    (λ u. k.0 (cut-by (begun o l) (sym e ∙ u)), λ w. e ∙ rw (k.1 w))

-- the first bytes of a chunk, one at least and not its whole header, are an unfinished end
module _ (o : Order) (rest : List ℕ) (m : ℕ) (some : 0 < m) (few : m < 12) (there : m ≤ length (sync_bytes o ++ rest)) where
  begins-by : (b : Bool) → ltb m 4 ≡ b → shows o (take m (sync_bytes o ++ rest)) ≡ Unfinished
  begins-by true e =
      let h = ltb-true m 4 e in
      let w = sync_bytes o in
      let n : length (take m w) ≡ m = length-take-le m w (omega (arith, sync-length o)) in
      rw (take-append-le m w rest (omega (arith, sync-length o))) ((short-end-exactly o (take m w) (omega arith)).1 (omega arith, rw n))
  begins-by false e =
      let w = sync_bytes o in
      let k : length w + (m - 4) ≡ m = omega (arith, sync-length o, ltb-false m 4 e) in
      let q : take m (w ++ rest) ≡ w ++ take (m - 4) rest = ap (λ (i : ℕ). take i (w ++ rest)) (sym k) ∙ take-append-add w rest (m - 4) in
      shows-cut o (take m (w ++ rest)) (ap (starts w) q ∙ starts-self w (take (m - 4) rest)) (omega (arith, length-take-le m (w ++ rest) there))

  pub header-cut : shows o (take m (sync_bytes o ++ rest)) ≡ Unfinished
  header-cut = begins-by (ltb m 4) refl
