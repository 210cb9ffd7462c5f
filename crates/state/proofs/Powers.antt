-- Laws of the test of a list by powers of two: place k stands for 2 ^ k, and the powers of the places that hold something
-- are added.
use Prim.Native.Nat.{ℕ, zero, suc, ◌+◌, ◌-◌, ◌*◌, ◌%◌, ◌^◌, ◌<◌, ◌≤◌}
use mathlib.Core.Path.{◌≡◌, refl, sym, ap, ◌∙◌}
use mathlib.Core.Bool.{Bool, true, false, not, beq}
use mathlib.Core.List.{List}
use native.Mathlib.Nat.{two-pow-succ, zero-mod, mod-eq_of_lt, add-mul-mod_self_left}
use native.Mathlib.Numerals.{add-one}
use native.Mathlib.Omega.{arith}
use borrow.Author.Tests.{lt-ltb, le-ltb, eq-eqb, ne_eqb, ltb-true, ltb-false, eqb-true, eqb-false}
use lib.Dec.{eqb, ltb}
use lib.ListN.{length, get_or}
use lib.Pow.{pow_pos, pow_mono, pow-add}
use Rattle.num.specs.Choice.{pick, both, either, each}
use Rattle.num.proofs.Tests.{both-whole, both-false, each-same, each-both}
use Rattle.state.specs.Good.{good_from}
use Rattle.state.proofs.Tests.{place_good, from-each}

-- the powers of the places below i of which a test holds, added
unfoldable pub powers : (ℕ → Bool) → ℕ → ℕ
powers f zero = 0
powers f (suc i) = powers f i + pick (f i) (2 ^ i) 0

-- a shift of 32 bits makes the power
pub shifted : (i : ℕ) → i ≤ 16 → 1 * 2 ^ i % 2 ^ 32 ≡ 2 ^ i
shifted i h =
    let m = pow_mono {i = i} {j = 16} h in
    let e : 1 * 2 ^ i ≡ 2 ^ i = omega arith in
    rw e (mod-eq_of_lt {n = 2 ^ i} {m = 2 ^ 32} (omega arith))

module _ (f : ℕ → Bool) where
  pub powers-none : powers f 0 ≡ 0
  unfolding powers
  powers-none = refl

  more : (i a b : ℕ) → a ≡ powers f i → b ≡ pick (f i) (2 ^ i) 0 → a + b ≡ powers f (i + 1)
  unfolding powers
  more i a b e h = rw (add-one i, e, h)

  -- one place more, whose power the code makes by a shift of 32 bits
  pub powers-next : (i a b : ℕ) → i < 16 → a ≡ powers f i → b ≡ pick (f i) (1 * 2 ^ i % 2 ^ 32) 0 → a + b ≡ powers f (i + 1)
  powers-next i a b h e q = more i a b e (q ∙ rw (shifted i (omega arith)))

  below-by : (i a : ℕ) (t : Bool) → a < 2 ^ i → a + pick t (2 ^ i) 0 < 2 ^ suc i
  below-by i a true h = let e = two-pow-succ i in omega arith
  below-by i a false h = let e = two-pow-succ i in omega arith

  pub powers-below : (i : ℕ) → powers f i < 2 ^ i
  unfolding powers
  powers-below zero = omega arith
  powers-below (suc i) = below-by i (powers f i) (f i) (powers-below i)

  -- those of sixteen places have the width of a u32
  pub powers-fit : (i a b : ℕ) → i < 16 → a ≡ powers f i → b ≡ pick (f i) (1 * 2 ^ i % 2 ^ 32) 0 → a + b < 2 ^ 32
  powers-fit i a b h e q =
      let m = pow_mono {i = i + 1} {j = 16} (omega arith) in
      let k = powers-below (i + 1) in
      let n = powers-next i a b h e q in
      omega arith

-- ---- which places hold something

keep-true : (a t : Bool) → a ≡ both a (either t true)
keep-true true true = refl
keep-true true false = refl
keep-true false t = refl

module _ (n i a : ℕ) (b : Bool) (small : a < 2 ^ i) (before : ltb a (2 ^ n) ≡ b) where
  within-by : (t u : Bool) → ltb i n ≡ u → ltb (a + pick t (2 ^ i) 0) (2 ^ n) ≡ both b (either u (not t))
  within-by true true e =
      let k = ltb-true i n e in
      let m = two-pow-succ i in
      let p = pow_mono {i = suc i} {j = n} k in
      let q : b ≡ true = sym before ∙ lt-ltb a (2 ^ n) (omega arith) in
      rw q (lt-ltb (a + 2 ^ i) (2 ^ n) (omega arith))
  within-by true false e =
      let k = ltb-false i n e in
      let p = pow_mono {i = n} {j = i} k in
      le-ltb (a + 2 ^ i) (2 ^ n) (omega arith) ∙ sym (both-false b)
  within-by false u e = let z : a + 0 ≡ a = omega arith in rw z (before ∙ keep-true b u)

-- the powers of the places that hold something are together below 2 ^ n exactly where each of these places is below n
pub powers-within : (f : ℕ → Bool) (n i : ℕ) → ltb (powers f i) (2 ^ n) ≡ each (λ c. either (ltb c n) (not (f c))) i
unfolding powers each
powers-within f n zero = lt-ltb 0 (2 ^ n) (pow_pos n)
powers-within f n (suc i) = within-by n i (powers f i) _ (powers-below f i) (powers-within f n i) (f i) (ltb i n) refl

-- ---- those below m, and two sums of powers

-- where the places below m alone are looked at, the others' powers are a multiple of 2 ^ m
module _ (m i a b : ℕ) (small : a < 2 ^ i) (before : a % 2 ^ m ≡ b) where
  rest-by : (t u : Bool) → ltb i m ≡ u → (a + pick t (2 ^ i) 0) % 2 ^ m ≡ b + pick (both u t) (2 ^ i) 0
  rest-by true true e =
      let k = ltb-true i m e in
      let p = pow_mono {i = suc i} {j = m} k in
      let q = two-pow-succ i in
      let s : a ≡ b = sym (mod-eq_of_lt {n = a} {m = 2 ^ m} (omega arith)) ∙ before in
      mod-eq_of_lt {n = a + 2 ^ i} {m = 2 ^ m} (omega arith) ∙ ap (λ (x : ℕ). x + 2 ^ i) s
  rest-by true false e =
      let k = ltb-false i m e in
      let s : m + (i - m) ≡ i = omega arith in
      let p : 2 ^ i ≡ 2 ^ m * 2 ^ (i - m) = ap (λ (x : ℕ). 2 ^ x) (sym s) ∙ pow-add 2 m (i - m) in
      let z : b ≡ b + 0 = omega arith in
      rw p (add-mul-mod_self_left a (2 ^ m) (2 ^ (i - m))) ∙ before ∙ z
  rest-by false true e = let z : a + 0 ≡ a = omega arith in let y : b ≡ b + 0 = omega arith in rw z (before ∙ y)
  rest-by false false e = let z : a + 0 ≡ a = omega arith in let y : b ≡ b + 0 = omega arith in rw z (before ∙ y)

pub powers-rest : (f : ℕ → Bool) (m i : ℕ) → powers f i % 2 ^ m ≡ powers (λ c. both (ltb c m) (f c)) i
unfolding powers
powers-rest f m zero = zero-mod (2 ^ m)
powers-rest f m (suc i) = rest-by m i (powers f i) _ (powers-below f i) (powers-rest f m i) (f i) (ltb i m) refl

module _ (p a b : ℕ) (d : Bool) (small : a < p) (tiny : b < p) (before : eqb a b ≡ d) where
  equal-by : (t u : Bool) → eqb (a + pick t p 0) (b + pick u p 0) ≡ both d (beq t u)
  equal-by true true = moved p d before
    where
      moved : (x : ℕ) (c : Bool) → eqb a b ≡ c → eqb (a + x) (b + x) ≡ both c true
      moved x true e = let h = eqb-true a b e in eq-eqb (a + x) (b + x) (omega arith)
      moved x false e = let h = eqb-false a b e in ne_eqb (a + x) (b + x) (λ q. h (omega (arith, q)))
  equal-by true false = ne_eqb (a + p) (b + 0) (λ q. omega (arith, q, small, tiny)) ∙ sym (both-false d)
  equal-by false true = ne_eqb (a + 0) (b + p) (λ q. omega (arith, q, small, tiny)) ∙ sym (both-false d)
  equal-by false false = let y : a + 0 ≡ a = omega arith in let z : b + 0 ≡ b = omega arith in rw (y, z) (before ∙ keep-true d true)

-- two sums of powers are equal exactly where the same places are counted
pub powers-equal : (f g : ℕ → Bool) (i : ℕ) → eqb (powers f i) (powers g i) ≡ each (λ c. beq (f c) (g c)) i
unfolding powers each
powers-equal f g zero = refl
powers-equal f g (suc i) = equal-by (2 ^ i) (powers f i) (powers g i) _ (powers-below f i) (powers-below g i) (powers-equal f g i) (f i) (g i)

-- ---- a list

not-not : (b : Bool) → b ≡ not (not b)
not-not true = refl
not-not false = refl

-- of sixteen places, more than sixteen are not used
pub used-by : (c n : ℕ) (t : Bool) → ltb n 16 ≡ t → c < 16 → ltb c n ≡ ltb c (pick t n 16)
used-by c n true e h = refl
used-by c n false e h = let k = ltb-false n 16 e in lt-ltb c n (omega arith) ∙ sym (lt-ltb c 16 h)

module _ {A : Type 0} (ok none : A → Bool) (nothing_ok : (x : A) → none x ≡ true → ok x ≡ true) where
  place-by : (x : A) (t b : Bool) → none x ≡ b → pick t (ok x) b ≡ both (ok x) (either t b)
  place-by x true b e = sym (both-whole (ok x))
  place-by x false true e = sym (rw (nothing_ok x e))
  place-by x false false e = sym (both-false (ok x))

  module _ (n : ℕ) (l : List A) (d : A) where
    -- A list of sixteen places is good where each holds what is allowed in a place that is used, and those that hold something are
    -- among the first n.
    pub list-by : length l ≡ 16 →
        both (each (λ c. ok (get_or l c d)) 16) (ltb (powers (λ c. not (none (get_or l c d))) 16) (2 ^ pick (ltb n 16) n 16)) ≡ good_from ok none n 0 l
    list-by h =
        let m = pick (ltb n 16) n 16 in
        let x : ℕ → A = λ c. get_or l c d in
        let each-place : (c : ℕ) → c < 16 → place_good ok none n l d c ≡ both (ok (x c)) (either (ltb c m) (not (not (none (x c))))) =
        λ c q. place-by (x c) (ltb c n) (none (x c)) refl ∙ rw (used-by c n (ltb n 16) refl q, ← not-not (none (x c))) in
        sym
        (from-each ok none n l d 16 h
        ∙ each-same (place_good ok none n l d) (λ c. both (ok (x c)) (either (ltb c m) (not (not (none (x c)))))) 16 each-place
        ∙ each-both (λ c. ok (x c)) (λ c. either (ltb c m) (not (not (none (x c))))) 16
        ∙ ap (both (each (λ c. ok (x c)) 16)) (sym (powers-within (λ c. not (none (x c))) m 16)))
