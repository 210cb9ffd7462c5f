-- Laws of copied samples: the numbers in order, and values laid one by one.
use Prim.Native.Nat.{ℕ, zero, suc, ◌+◌, ◌*◌, ◌≤◌, ◌<◌}
use mathlib.Core.Path.{◌≡◌, refl, sym, ◌∙◌}
use mathlib.Core.Bool.{Bool, true, false}
use mathlib.Core.List.{List, [], ◌∷◌, ◌++◌, append_assoc, append-nil}
use native.Mathlib.Omega.{arith}
use native.Mathlib.Numerals.{add-one}
use native.Mathlib.Nat.{add-zero, zero-add, add-suc, suc-add, add-mul}
use borrow.Author.Tests.{eqb-true, eqb-false}
use lib.Dec.{eqb}
use lib.ListN.{length, get_or, take, drop, set, length-append, length-drop}
use lib.Seq.{drop-cons, drop-drop, set_at, append_snoc, take_at, drop_at, get_or-set_same, get_or-set_other}
use Rattle.copy.specs.Samples.{place_of, i_of, q_of, pairs_of, reals_of, front_filled}

module _ {A : Type 0} where
  -- one value more is laid
  pub filled-next : (xs : List A) (x : A) (out : List A) (n : ℕ) → length xs ≡ n → n < length out → set (front_filled xs out) n x ≡ front_filled (xs ++ (x ∷ [])) out
  filled-next xs x out n e h =
      let l : length (xs ++ (x ∷ [])) ≡ suc n = omega (arith, length-append xs (x ∷ [])) in
      rw (e, l, drop-cons out n x, set_at xs (get_or out n x) (drop (suc n) out) x n e, append_snoc)

  pub filled-length : (xs out : List A) → length xs ≤ length out → length (front_filled xs out) ≡ length out
  filled-length xs out h = simp (length-append, length-drop) (omega arith)

module _ {A : Type 0} (value : ℕ → A) (iq : Bool) (first step : ℕ) where
  pub length-pairs : (n : ℕ) → length (pairs_of value iq first step n) ≡ 2 * n
  unfolding pairs_of
  length-pairs zero = refl
  length-pairs (suc n) = rw (length-append, length-pairs n) (omega arith)

  -- one pair more: its I, then its Q
  pub pairs-next : (out : List A) (j : ℕ) → 2 * j + 1 < length out →
      set (set (front_filled (pairs_of value iq first step j) out) (2 * j) (value (i_of iq (place_of first step j)))) (2 * j + 1) (value (q_of iq (place_of first step j)))
      ≡ front_filled (pairs_of value iq first step (j + 1)) out
  unfolding pairs_of
  pairs-next out j h =
      let xs = pairs_of value iq first step j in
      let a = value (i_of iq (place_of first step j)) in
      let b = value (q_of iq (place_of first step j)) in
      let e = length-pairs j in
      let l : length (xs ++ (a ∷ [])) ≡ 2 * j + 1 = omega (arith, length-append xs (a ∷ [])) in
      rw (filled-next xs a out (2 * j) e (omega arith), filled-next (xs ++ (a ∷ [])) b out (2 * j + 1) l h, append_assoc xs (a ∷ []) (b ∷ []), add-one j)

  -- the first places of the slice hold the pairs, and the others what they held
  pub pairs-front : (out : List A) (n : ℕ) → take (2 * n) (front_filled (pairs_of value iq first step n) out) ≡ pairs_of value iq first step n
  pairs-front out n = take_at (pairs_of value iq first step n) _ (2 * n) (length-pairs n)

  pub pairs-rest : (out : List A) (n : ℕ) → drop (2 * n) (front_filled (pairs_of value iq first step n) out) ≡ drop (2 * n) out
  pairs-rest out n = rw (drop_at (pairs_of value iq first step n) _ (2 * n) (length-pairs n), length-pairs n)

module _ {A : Type 0} where
  -- a store behind a front
  set-behind : (front back : List A) (k : ℕ) (x : A) → set (front ++ back) (length front + k) x ≡ front ++ set back k x
  set-behind [] back k x = rw (zero-add k)
  set-behind (y ∷ front) back k x = rw (suc-add (length front) k, set-behind front back k x)

  -- where each of the first k elements is as wanted, so are they with one more
  module _ (Wanted : ℕ → A → Type 0) (xs : List A) (k : ℕ) (x d : A) (h : k < length xs) where
    wanted_by : (m : ℕ) (b : Bool) → eqb m k ≡ b → m < k + 1 → Wanted k x → (m < k → Wanted m (get_or xs m d)) → Wanted m (get_or (set xs k x) m d)
    wanted_by m true e l w r = let i : m ≡ k = eqb-true m k e in rw (i, get_or-set_same xs k x d h) w
    wanted_by m false e l w r = let i = eqb-false m k e in rw (get_or-set_other xs k m x d i) (r (omega arith))

    pub wanted-next : Wanted k x → ((m : ℕ) → m < k → Wanted m (get_or xs m d)) → (m : ℕ) → m < k + 1 → Wanted m (get_or (set xs k x) m d)
    wanted-next w r m l = wanted_by m (eqb m k) refl l w (r m)

module _ {A : Type 0} (value : ℕ → A) (iq : Bool) (first step : ℕ) where
  -- pairs, and then those that follow them
  pairs-more : (j n : ℕ) → pairs_of value iq first step j ++ pairs_of value iq (place_of first step j) step n ≡ pairs_of value iq first step (j + n)
  unfolding pairs_of
  pairs-more j zero = rw (add-zero j) (append-nil (pairs_of value iq first step j))
  pairs-more j (suc n) =
      let e : first + j * step + n * step ≡ first + (j + n) * step = omega (arith, add-mul j n step) in
      rw (add-suc j n, e, ← append_assoc, pairs-more j n)

  -- pairs laid behind those before them
  pub pairs-behind : (out : List A) (j n : ℕ) →
      let front = front_filled (pairs_of value iq first step j) out in
      take (2 * j) front ++ front_filled (pairs_of value iq (place_of first step j) step n) (drop (2 * j) front) ≡ front_filled (pairs_of value iq first step (j + n)) out
  pairs-behind out j n =
      let l : length (pairs_of value iq (place_of first step j) step n) ≡ 2 * n = length-pairs value iq (place_of first step j) step n in
      let m : length (pairs_of value iq first step (j + n)) ≡ 2 * j + 2 * n = omega (arith, length-pairs value iq first step (j + n)) in
      rw (pairs-front value iq first step out j, pairs-rest value iq first step out j, l, m, drop-drop, ← append_assoc, pairs-more j n)

module _ {A : Type 0} (value : ℕ → A) where
  pub length-reals : (n : ℕ) → length (reals_of value n) ≡ n
  unfolding reals_of
  length-reals zero = refl
  length-reals (suc n) = rw (length-append, length-reals n) (omega arith)

  -- one number more
  pub reals-next : (out : List A) (j : ℕ) → j < length out → set (front_filled (reals_of value j) out) j (value j) ≡ front_filled (reals_of value (j + 1)) out
  unfolding reals_of
  reals-next out j h = rw (add-one j) (filled-next (reals_of value j) (value j) out j (length-reals j) h)

  -- one value more behind a front of n values
  pub reals-behind : (front back : List A) (n i : ℕ) → length front ≡ n → i < length back → set (front ++ front_filled (reals_of value i) back) (n + i) (value i) ≡ front ++ front_filled (reals_of value (i + 1)) back
  reals-behind front back n i e h = rw (← e, set-behind front, reals-next back i h)

  pub reals-length : (out : List A) (n : ℕ) → n ≤ length out → length (front_filled (reals_of value n) out) ≡ length out
  reals-length out n h = filled-length (reals_of value n) out (omega (arith, length-reals n))

-- pairs that stand one after the other, I first, are the numbers as they stand
module _ {A : Type 0} (value : ℕ → A) where
  pub pairs-reals : (first n : ℕ) → pairs_of value true first 1 n ≡ reals_of (λ k. value (2 * first + k)) (2 * n)
  unfolding pairs_of reals_of
  pairs-reals first zero = refl
  pairs-reals first (suc n) =
      let e : 2 * suc n ≡ suc (suc (2 * n)) = omega arith in
      let a : 2 * (first + n * 1) ≡ 2 * first + 2 * n = omega arith in
      let b : 2 * first + 2 * n + 1 ≡ 2 * first + suc (2 * n) = omega arith in
      rw (e, a, b, pairs-reals first n) (sym (append_assoc (reals_of (λ k. value (2 * first + k)) (2 * n)) (value (2 * first + 2 * n) ∷ []) (value (2 * first + suc (2 * n)) ∷ [])))

  -- from place 0 on
  reals-same : (f : ℕ → ℕ) → ((k : ℕ) → f k ≡ k) → (n : ℕ) → reals_of (λ k. value (f k)) n ≡ reals_of value n
  unfolding reals_of
  reals-same f e zero = refl
  reals-same f e (suc n) = rw (reals-same f e n, e n)

  pub pairs-first : (n : ℕ) → pairs_of value true 0 1 n ≡ reals_of value (2 * n)
  pairs-first n = pairs-reals 0 n ∙ reals-same (λ k. 2 * 0 + k) (λ k. omega arith) (2 * n)
