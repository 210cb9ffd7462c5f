-- Laws of lists of up to 16 values: places filled one by one, and what stands in each.
use Prim.Native.Nat.{ℕ, zero, suc, ◌+◌, ◌<◌, ◌≤◌}
use mathlib.Core.Path.{◌≡◌, refl}
use mathlib.Core.List.{List}
use native.Mathlib.Omega.{arith}
use lib.Dec.{ltb}
use lib.ListN.{length, set, get_or, replicate}
use borrow.Author.Tests.{lt-ltb, le-ltb}
use Rattle.num.specs.Choice.{pick}
use Rattle.body.specs.Lists.{upto}

module _ {A : Type 0} (f : ℕ → A) (d : A) where
  pub upto-none : (i k : ℕ) → replicate k d ≡ upto f d 0 i k
  unfolding upto
  upto-none i zero = refl
  upto-none i (suc k) = rw (le-ltb i 0 (omega arith), upto-none (suc i) k)

  upto-past : (n m i k : ℕ) → n ≤ i → m ≤ i → upto f d n i k ≡ upto f d m i k
  unfolding upto
  upto-past n m i zero h g = refl
  upto-past n m i (suc k) h g = rw (le-ltb i n h, le-ltb i m g, upto-past n m (suc i) k (omega arith) (omega arith))

  upto-set : (n i j k : ℕ) → i + j ≡ n → j < k → set (upto f d n i k) j (f n) ≡ upto f d (n + 1) i k
  unfolding upto
  upto-set n i j zero e h = absurd (omega arith)
  upto-set n i zero (suc k) e h =
      let s : i ≡ n = omega arith in
      rw (lt-ltb i (n + 1) (omega arith), upto-past n (n + 1) (suc i) k (omega arith) (omega arith), s)
  upto-set n i (suc j) (suc k) e h =
      rw (lt-ltb i (n + 1) (omega arith), lt-ltb i n (omega arith), upto-set n (suc i) j k (omega arith) (omega arith))

  -- one place more is filled
  pub upto-next : (n k : ℕ) (l : List A) (v : A) → n < k → l ≡ upto f d n 0 k → v ≡ f n → set l n v ≡ upto f d (n + 1) 0 k
  upto-next n k l v h e q = rw (e, q, upto-set n 0 n k (omega arith) h)

  at-by : (n i j k c : ℕ) (e : A) → i + j ≡ c → j < k → get_or (upto f d n i k) j e ≡ pick (ltb c n) (f c) d
  unfolding upto
  at-by n i j zero c e h g = absurd (omega arith)
  at-by n i zero (suc k) c e h g = let s : i ≡ c = omega arith in rw s
  at-by n i (suc j) (suc k) c e h g = at-by n (suc i) j k c e (omega arith) (omega arith)

  -- what stands in a place
  pub upto-at : (n j k : ℕ) (e : A) → j < k → get_or (upto f d n 0 k) j e ≡ pick (ltb j n) (f j) d
  upto-at n j k e h = at-by n 0 j k j e (omega arith) h

  pub upto-length : (n i k : ℕ) → length (upto f d n i k) ≡ k
  unfolding upto
  upto-length n i zero = refl
  upto-length n i (suc k) = rw (upto-length n (suc i) k)

module _ {A : Type 0} (f g : ℕ → A) (d : A) (n m : ℕ) where
  -- two that have the same in each place
  pub upto-same : (i k : ℕ) → ((c : ℕ) → c < i + k → pick (ltb c n) (f c) d ≡ pick (ltb c m) (g c) d) → upto f d n i k ≡ upto g d m i k
  unfolding upto
  upto-same i zero h = refl
  upto-same i (suc k) h = rw (h i (omega arith), upto-same (suc i) k (λ c l. h c (omega arith)))
