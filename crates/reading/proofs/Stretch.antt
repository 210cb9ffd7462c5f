-- A stretch that a search passes over: it ends where the search stops or where the stream does, and only there.
use Prim.Native.Nat.{ℕ, zero, suc, ◌+◌, ◌≤◌, ◌<◌}
use mathlib.Core.Path.{◌≡◌, refl, sym, ◌∙◌}
use mathlib.Core.Bool.{Bool, true, false}
use mathlib.Core.List.{List}
use mathlib.Core.Logic.{◌⊎◌, inl, inr, ⊎_elim}
use native.Mathlib.Omega.{arith}
use native.Mathlib.Nat.{add-zero, lt_of_not-le}
use lib.Dec.{ltb}
use lib.ListN.{length, drop, length-drop}
use borrow.Author.Tests.{ltb-false}
use Rattle.std.specs.Prelude.{None}
use Rattle.num.specs.declared.Order.{Order}
use Rattle.frame.specs.Place.{stops, gap, search_from}
use Rattle.frame.proofs.Laws.{gap-step, gap-stop, shows-end}
use Rattle.frame.proofs.Frames.{gap-le}
use Rattle.frame.proofs.Theorems.{search-stopped, search-nothing}
use Rattle.reading.specs.Due.{shows_at}

module _ (o : Order) (s : List ℕ) where
  -- a search stops within the stream
  pub stop-within : (q : ℕ) → stops (shows_at o s q) ≡ true → q < length s
  stop-within q e =
      lt_of_not-le
      (λ h.
      let n : stops (shows_at o s q) ≡ false = rw (shows-end o s q h) in
      let w : true ≡ false = sym e ∙ n in
      let z : ◌≡◌ {A = ℕ} 0 1 = cc in absurd (omega arith))

  -- n places that it passes over
  abbrev pub Passed : ℕ → ℕ → Type 0
  Passed p n = (k : ℕ) → p ≤ k → k < p + n → stops (shows_at o s k) ≡ false

  -- they end where it stops, or at the end
  abbrev pub Reaches : ℕ → Type 0
  Reaches q = (q ≡ length s) ⊎ (stops (shows_at o s q) ≡ true)

  pub reaches-within : (q : ℕ) → Reaches q → q ≤ length s
  reaches-within q e = ⊎_elim (λ h. omega arith) (λ h. omega (arith, stop-within q h)) e

  reaches-gap : (q : ℕ) → Reaches q → gap o (drop q s) ≡ 0
  reaches-gap q e = ⊎_elim (λ h. omega (arith, gap-le o (drop q s), length-drop q s)) (λ h. gap-stop o (drop q s) h) e

  passed-gap : (p n : ℕ) → Passed p n → p + n ≤ length s → gap o (drop p s) ≡ n + gap o (drop (p + n) s)
  passed-gap p zero h l = rw (add-zero p) (omega arith)
  passed-gap p (suc n) h l =
      let q : p + suc n ≡ p + n + 1 = omega arith in
      let w = passed-gap p n (λ k i j. h k i (omega arith)) (omega arith) in
      rw q (omega (arith, w, gap-step o s (p + n) (omega arith) (h (p + n) (omega arith) (omega arith))))

  -- so its length is fixed
  pub stretch-only : (p n : ℕ) → Passed p n → Reaches (p + n) → gap o (drop p s) ≡ n
  stretch-only p n h e = omega (arith, passed-gap p n h (reaches-within (p + n) e), reaches-gap (p + n) e)

  stretch-by : (p : ℕ) (b : Bool) → p ≤ length s → ltb (p + gap o (drop p s)) (length s) ≡ b → Passed p (gap o (drop p s)) × Reaches (p + gap o (drop p s))
  stretch-by p true l e =
      let w = search-stopped o s p (p + gap o (drop p s)) (rw e) in
      (λ k i j. w.before k i j, inr w.here)
  stretch-by p false l e =
      let n : search_from o s p ≡ None = rw e in
      let q : p + gap o (drop p s) ≡ length s = omega (arith, ltb-false (p + gap o (drop p s)) (length s) e, gap-le o (drop p s), length-drop p s) in
      (λ k i j. search-nothing o s p k n i (omega arith), inl q)

  -- the places before the gap's end are passed over, and it ends where the search stops, or at the end
  pub stretch : (p : ℕ) → p ≤ length s → Passed p (gap o (drop p s)) × Reaches (p + gap o (drop p s))
  stretch p l = stretch-by p (ltb (p + gap o (drop p s)) (length s)) l refl
