-- Values of a layout: they look only at the numbers that lie inside, and which they are.
use Prim.Native.Nat.{ℕ, zero, suc, ◌+◌, ◌*◌, ◌≤◌, ◌<◌}
use mathlib.Core.Path.{◌≡◌, refl, sym}
use mathlib.Core.Bool.{Bool, true, false}
use mathlib.Core.List.{List, [], ◌∷◌}
use native.Mathlib.Omega.{arith}
use lib.Dec.{eqb, leb}
use lib.ListN.{length, get_or, take, get_or-append}
use lib.Seq.{take-suc, get_or-append-add, append_snoc}
use borrow.Author.Tests.{le-leb, leb-true, eqb-true, eqb-false}
use Rattle.num.specs.Choice.{each}
use Rattle.copy.specs.Samples.{place_of, i_of, q_of, pairs_of, reals_of, inside, pairs_fit}
use Rattle.copy.proofs.Fits.{pair-inside}
use Rattle.copy.proofs.Laws.{length-pairs}
use Rattle.samples.specs.Layout.{values_of}
use Rattle.samples.specs.Inner.Plan.{number_bytes, lies}
use Rattle.samples.specs.declared.Layout.{Layout}

-- both numbers of a pair
pub in-pair : (iq : Bool) (p m : ℕ) → 2 * p + 1 < m → (i_of iq p < m) × (q_of iq p < m)
in-pair true p m h = (omega arith, omega arith)
in-pair false p m h = (omega arith, omega arith)

module _ {A : Type 0} (f g : ℕ → A) (m : ℕ) (same : (k : ℕ) → k < m → f k ≡ g k) where
  pairs-same : (iq : Bool) (first step n : ℕ) → ((j : ℕ) → j < n → 2 * place_of first step j + 1 < m) → pairs_of f iq first step n ≡ pairs_of g iq first step n
  unfolding pairs_of
  pairs-same iq first step zero h = refl
  pairs-same iq first step (suc n) h =
      let b = in-pair iq (place_of first step n) m (h n (omega arith)) in
      rw (pairs-same iq first step n (λ j l. h j (omega arith)), same (i_of iq (place_of first step n)) b.0, same (q_of iq (place_of first step n)) b.1)

  reals-same : (n : ℕ) → n ≤ m → reals_of f n ≡ reals_of g n
  unfolding reals_of
  reals-same zero h = refl
  reals-same (suc n) h = rw (reals-same n (omega arith), same n (omega arith))

  -- a pair that lies inside m numbers
  pair-below : (float : Bool) (p : ℕ) → (p + 1) * (2 * number_bytes float) ≤ m * number_bytes float → 2 * p + 1 < m
  pair-below true p h = omega arith
  pair-below false p h = omega arith

  real-below : (float : Bool) (n : ℕ) → n * number_bytes float ≤ m * number_bytes float → n ≤ m
  real-below true n h = omega arith
  real-below false n h = omega arith

  same-by : (float : Bool) (l : Layout) (b : Bool) → l.pairs ≡ b → lies (number_bytes float) (m * number_bytes float) l ≡ true → values_of f l ≡ values_of g l
  same-by float l true p h =
      let q : each (λ j. inside (number_bytes float) (m * number_bytes float) (place_of l.first l.step j)) l.count ≡ true = rw p at h in
      let fits : pairs_fit (number_bytes float) (m * number_bytes float) l.first l.step l.count (2 * l.count) ≡ true = rw q (le-leb (2 * l.count) (2 * l.count) (omega arith)) in
      rw p (pairs-same l.iq l.first l.step l.count (λ j i. pair-below float (place_of l.first l.step j) (pair-inside (number_bytes float) (m * number_bytes float) l.first l.step l.count (2 * l.count) fits j i)))
  same-by float l false p h =
      let q : leb (l.count * number_bytes float) (m * number_bytes float) ≡ true = rw p at h in
      rw p (reals-same l.count (real-below float l.count (leb-true (l.count * number_bytes float) (m * number_bytes float) q)))

  -- Numbers that agree below m give the same values, where the layout lies inside m numbers.
  pub values-same : (float : Bool) (l : Layout) → lies (number_bytes float) (m * number_bytes float) l ≡ true → values_of f l ≡ values_of g l
  values-same float l h = same-by float l l.pairs refl h

-- ---- which numbers they are

module _ {A : Type 0} (xs : List A) (d : A) where
  -- all numbers in order
  pub reals-list : (n : ℕ) → n ≤ length xs → reals_of (λ k. get_or xs k d) n ≡ take n xs
  unfolding reals_of
  reals-list zero h = refl
  reals-list (suc n) h = rw (reals-list n (omega arith)) (sym (take-suc xs n d (omega arith)))

  pub pairs-list : (n : ℕ) → 2 * n ≤ length xs → pairs_of (λ k. get_or xs k d) true 0 1 n ≡ take (2 * n) xs
  unfolding pairs_of
  pairs-list zero h = refl
  pairs-list (suc n) h =
      let p : 0 + n * 1 ≡ n = omega arith in
      let a : 2 * n + 1 ≡ suc (2 * n) = omega arith in
      let b : 2 * suc n ≡ suc (suc (2 * n)) = omega arith in
      rw (pairs-list n (omega arith), p, a, b, take-suc xs (suc (2 * n)) d (omega arith), take-suc xs (2 * n) d (omega arith)) (sym (append_snoc (take (2 * n) xs) (get_or xs (2 * n) d) (get_or xs (suc (2 * n)) d ∷ [])))

module _ {A : Type 0} (value : ℕ → A) (iq : Bool) (first step : ℕ) (d : A) where
  at-by : (n j : ℕ) (b : Bool) → eqb j n ≡ b → j < suc n →
      let l : List A = pairs_of value iq first step (suc n) in
      (j < n → (get_or (pairs_of value iq first step n) (2 * j) d ≡ value (i_of iq (place_of first step j))) × (get_or (pairs_of value iq first step n) (2 * j + 1) d ≡ value (q_of iq (place_of first step j)))) →
      (get_or l (2 * j) d ≡ value (i_of iq (place_of first step j))) × (get_or l (2 * j + 1) d ≡ value (q_of iq (place_of first step j)))
  unfolding pairs_of
  at-by n j true e h i =
      let q : j ≡ n = eqb-true j n e in
      let xs = pairs_of value iq first step n in
      let m = length-pairs value iq first step n in
      let a : 2 * n ≡ length xs + 0 = omega arith in
      let b : 2 * n + 1 ≡ length xs + 1 = omega arith in
      (rw (q, a) (get_or-append-add xs _ 0 d), rw (q, b) (get_or-append-add xs _ 1 d))
  at-by n j false e h i =
      let q = eqb-false j n e in
      let k : j < n = omega arith in
      let xs = pairs_of value iq first step n in
      let m = length-pairs value iq first step n in
      (rw (get_or-append xs _ d (2 * j) (omega arith)) (i k).0, rw (get_or-append xs _ d (2 * j + 1) (omega arith)) (i k).1)

  -- pair j: its I, then its Q
  pub pair-at : (n j : ℕ) → j < n →
      (get_or (pairs_of value iq first step n) (2 * j) d ≡ value (i_of iq (place_of first step j)))
      × (get_or (pairs_of value iq first step n) (2 * j + 1) d ≡ value (q_of iq (place_of first step j)))
  pair-at zero j h = absurd (omega arith)
  pair-at (suc n) j h = at-by n j (eqb j n) refl h (pair-at n j)
