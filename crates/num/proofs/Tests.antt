-- Laws of tests put together: two of them, and one of every number below a bound.
use Prim.Native.Nat.{ℕ, zero, suc, ◌+◌, ◌<◌}
use mathlib.Core.Path.{◌≡◌, refl}
use mathlib.Core.Bool.{Bool, true, false}
use native.Mathlib.Numerals.{add-one}
use native.Mathlib.Omega.{arith}
use lib.Dec.{eqb}
use borrow.Author.Tests.{eqb-true, eqb-false}
use Rattle.num.specs.Choice.{both, each}

-- ---- two tests

pub both-left : (a b : Bool) → both a b ≡ true → a ≡ true
both-left true b h = refl
both-left false b h = h

pub both-right : (a b : Bool) → both a b ≡ true → b ≡ true
both-right true b h = h
both-right false b h = let z : ◌≡◌ {A = ℕ} 0 1 = cc in absurd (omega arith)

pub both-true : (a b : Bool) → both a b ≡ true → (a ≡ true) × (b ≡ true)
both-true a b h = (both-left a b h, both-right a b h)

pub both-hold : (a b : Bool) → a ≡ true → b ≡ true → both a b ≡ true
both-hold a b h k = rw (h, k)

pub both-whole : (b : Bool) → both b true ≡ b
both-whole true = refl
both-whole false = refl

pub both-false : (b : Bool) → both b false ≡ false
both-false true = refl
both-false false = refl

-- ---- every number below n

module _ (test : ℕ → Bool) where
  pub each-none : each test 0 ≡ true
  unfolding each
  each-none = refl

  pub each-next : (n : ℕ) → each test n ≡ true → test n ≡ true → each test (n + 1) ≡ true
  unfolding each
  each-next n h k = rw (add-one n, h) k

  -- the verdict on one number more
  pub each-more : (n : ℕ) (a b : Bool) → a ≡ each test n → b ≡ test n → both a b ≡ each test (n + 1)
  unfolding each
  each-more n a b h k = rw (add-one n, h, k)

  pub each-all : (n : ℕ) → ((k : ℕ) → k < n → test k ≡ true) → each test n ≡ true
  unfolding each
  each-all zero h = refl
  each-all (suc n) h = rw (each-all n (λ k l. h k (omega arith))) (h n (omega arith))

  at-by : (n k : ℕ) (b : Bool) → eqb k n ≡ b → k < suc n → test n ≡ true → (k < n → test k ≡ true) → test k ≡ true
  at-by n k true e l h r = let i : k ≡ n = eqb-true k n e in rw i h
  at-by n k false e l h r = let i = eqb-false k n e in r (omega arith)

  pub each-at : (n k : ℕ) → each test n ≡ true → k < n → test k ≡ true
  unfolding each
  each-at zero k h l = absurd (omega arith)
  each-at (suc n) k h l =
      at-by n k (eqb k n) refl l (both-right (each test n) (test n) h) (each-at n k (both-left (each test n) (test n) h))

  stop-by : (n k : ℕ) (b : Bool) → each test n ≡ b → k < n → test k ≡ false → each test n ≡ false
  stop-by n k true e l h =
      let t = each-at n k e l in
      let z : ◌≡◌ {A = ℕ} 0 1 = cc in absurd (omega arith)
  stop-by n k false e l h = e

  -- one that fails decides
  pub each-stop : (n k : ℕ) → k < n → test k ≡ false → each test n ≡ false
  each-stop n k l h = stop-by n k (each test n) refl l h

module _ (test other : ℕ → Bool) where
  -- two tests that are alike below n
  pub each-same : (n : ℕ) → ((k : ℕ) → k < n → test k ≡ other k) → each test n ≡ each other n
  unfolding each
  each-same zero h = refl
  each-same (suc n) h = rw (each-same n (λ k l. h k (omega arith)), h n (omega arith))

  split-by : (a b c d : Bool) → both (both a b) (both c d) ≡ both (both a c) (both b d)
  split-by true b true d = refl
  split-by true b false d = both-false b
  split-by false b c d = refl

  -- both tests hold of every number where each of the two does
  pub each-both : (n : ℕ) → each (λ k. both (test k) (other k)) n ≡ both (each test n) (each other n)
  unfolding each
  each-both zero = refl
  each-both (suc n) = rw (each-both n) (split-by (each test n) (each other n) (test n) (other n))
