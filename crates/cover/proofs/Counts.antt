-- Laws of tests, and of totals that are 0 or 1.
use Prim.Native.Nat.{ℕ, zero, suc, ◌+◌, ◌-◌, ◌<◌, ◌≤◌}
use mathlib.Core.Path.{◌≡◌, refl, sym, ap, ◌∙◌}
use mathlib.Core.Bool.{Bool, true, false, ◌&&◌}
use mathlib.Core.Logic.{◌⊎◌, inl, inr, ⊎_elim}
use native.Mathlib.Omega.{arith}
use native.Mathlib.Nat.{eq-or-lt_of_le, eq-zero-or-pos}
use mathlib.Core.List.{List, [], ◌∷◌}
use lib.Dec.{eqb}
use lib.ListN.{length, get_or}
use Rattle.std.specs.List.{list_all, enumerate_from}
use Rattle.std.specs.Prelude.{count_by, cond, fold, ◌==◌}
use Rattle.num.specs.Choice.{both, each}
use Rattle.num.proofs.Tests.{both-whole}
use Rattle.cover.specs.Cover.{bit, total}

-- ---- tests

-- two tests are one where each holds when the other does
pub agrees : (a b : Bool) → (a ≡ true → b ≡ true) → (b ≡ true → a ≡ true) → a ≡ b
agrees true b h k = sym (h refl)
agrees false true h k = k refl
agrees false false h k = refl

pub bit-true : (b : Bool) → bit b ≡ 1 → b ≡ true
bit-true true h = refl
bit-true false h = absurd (omega arith)

pub bit-zero : (b : Bool) → (b ≡ true → ⊥) → bit b ≡ 0
bit-zero true h = absurd (h refl)
bit-zero false h = refl

pub bit-not : (b : Bool) → b ≡ true → bit b ≡ 0 → ⊥
bit-not b e h = let z : bit b ≡ 1 = ap bit e in omega arith

-- ---- two numbers

pub either : (a b : ℕ) → (a ≡ b) ⊎ (a ≡ b → ⊥)
either a b =
    ⊎_elim
    (λ z. let l : a ≤ b = omega arith in ⊎_elim (λ e. inl e) (λ g. inr (λ e. omega arith)) (eq-or-lt_of_le l))
    (λ p. inr (λ e. omega arith))
    (eq-zero-or-pos (a - b))

last-or : (i n : ℕ) → i < suc n → (i ≡ n) ⊎ (i < n)
last-or i n h = let l : i ≤ n = omega arith in eq-or-lt_of_le l

-- ---- totals

pub total-none : (g : ℕ → ℕ) → total g 0 ≡ 0
unfolding total
total-none g = refl

pub total-next : (g : ℕ → ℕ) (n : ℕ) → total g (suc n) ≡ total g n + g n
unfolding total
total-next g n = refl

-- a total that is 0 has no part that is not
pub zero-at : (g : ℕ → ℕ) (n : ℕ) → total g n ≡ 0 → (i : ℕ) → i < n → g i ≡ 0
unfolding total
zero-at g zero h i hi = absurd (omega arith)
zero-at g (suc n) h i hi = ⊎_elim (λ e. ap g e ∙ omega arith) (λ l. zero-at g n (omega arith) i l) (last-or i n hi)

pub zero-of : (g : ℕ → ℕ) (n : ℕ) → ((i : ℕ) → i < n → g i ≡ 0) → total g n ≡ 0
unfolding total
zero-of g zero h = refl
zero-of g (suc n) h = omega (arith, zero-of g n (λ i l. h i (omega arith)), h n (omega arith))

-- a total that is 1 has one part that is 1, and the others are 0
pub one-at : (g : ℕ → ℕ) (n : ℕ) → total g n ≡ 1 →
    (i : ℕ) × (i < n) × (g i ≡ 1) × ((j : ℕ) → j < n → (j ≡ i → ⊥) → g j ≡ 0)
unfolding total
one-at g zero h = absurd (omega arith)
one-at g (suc n) h =
    ⊎_elim
    (λ z.
    let a = one-at g n (omega arith) in
    (a.0, omega (arith, a.1), a.2, λ j hj k. ⊎_elim (λ e. ap g e ∙ z) (λ l. a.3 j l k) (last-or j n hj)))
    (λ p. (n, omega arith, omega arith, λ j hj k. ⊎_elim (λ e. absurd (k e)) (λ l. zero-at g n (omega arith) j l) (last-or j n hj)))
    (eq-zero-or-pos (g n))

pub one-of : (g : ℕ → ℕ) (n i : ℕ) → i < n → g i ≡ 1 → ((j : ℕ) → j < n → (j ≡ i → ⊥) → g j ≡ 0) → total g n ≡ 1
unfolding total
one-of g zero i hi e k = absurd (omega arith)
one-of g (suc n) i hi e k =
    ⊎_elim
    (λ s. omega (arith, zero-of g n (λ j l. k j (omega arith) (λ q. omega arith)), sym (ap g s) ∙ e))
    (λ l. omega (arith, one-of g n i l e (λ j hj q. k j (omega arith) q), k n (omega arith) (λ q. omega arith)))
    (last-or i n hi)

-- the one number below n that a test holds of
pub is-one : (t : ℕ → Bool) (n i j : ℕ) → ((k : ℕ) → k < n → (k ≡ i → ⊥) → bit (t k) ≡ 0) → j < n → t j ≡ true → j ≡ i
is-one t n i j h hj e = ⊎_elim (λ q. q) (λ q. absurd (bit-not (t j) e (h j hj q))) (either j i)

-- ---- the same parts

pub each-same : (p q : ℕ → Bool) (n : ℕ) → ((i : ℕ) → i < n → p i ≡ q i) → each p n ≡ each q n
unfolding each
each-same p q zero h = refl
each-same p q (suc n) h = rw (each-same p q n (λ i l. h i (omega arith)), h n (omega arith))

pub total-same : (f g : ℕ → ℕ) (n : ℕ) → ((i : ℕ) → i < n → f i ≡ g i) → total f n ≡ total g n
unfolding total
total-same f g zero h = refl
total-same f g (suc n) h = rw (total-same f g n (λ i l. h i (omega arith)), h n (omega arith))

-- ---- a test of every element with its place is one of every place

both-both : (a b c : Bool) → both (both a b) c ≡ both a (both b c)
both-both true b c = refl
both-both false b c = refl

each-first : (p : ℕ → Bool) (n : ℕ) → each p (suc n) ≡ both (p 0) (each (λ i. p (suc i)) n)
unfolding each
each-first p zero = sym (both-whole (p 0))
each-first p (suc n) = rw (each-first p n) (both-both (p 0) (each (λ i. p (suc i)) n) (p (suc n)))

and-both : (a b c : Bool) → b ≡ c → a && b ≡ both a c
and-both true b c e = e
and-both false b c e = refl

placed-from : (test : ℕ → ℕ → Bool) (k : ℕ) (l : List ℕ) → list_all (λ p. test p.0 p.1) (enumerate_from k l) ≡ each (λ c. test (k + c) (get_or l c 0)) (length l)
unfolding each
placed-from test k [] = refl
placed-from test k (x ∷ l) =
    let h : test (k + 0) x ≡ test k x = ap (λ (m : ℕ). test m x) (omega arith) in
    let t : each (λ c. test (k + 1 + c) (get_or l c 0)) (length l) ≡ each (λ c. test (k + suc c) (get_or l c 0)) (length l) =
    each-same _ _ (length l) (λ c q. ap (λ (m : ℕ). test m (get_or l c 0)) (omega arith)) in
    and-both (test k x) _ _ (placed-from test (k + 1) l ∙ t)
    ∙ ap (λ b. both b (each (λ c. test (k + suc c) (get_or l c 0)) (length l))) (sym h)
    ∙ sym (each-first (λ c. test (k + c) (get_or (x ∷ l) c 0)) (length l))

pub placed : (test : ℕ → ℕ → Bool) (l : List ℕ) → list_all (λ p. test p.0 p.1) (enumerate_from 0 l) ≡ each (λ c. test c (get_or l c 0)) (length l)
placed test l = placed-from test 0 l ∙ each-same _ _ (length l) (λ c q. ap (λ (m : ℕ). test m (get_or l c 0)) (omega arith))

-- ---- a count over a list is a total over its places

total-first : (g : ℕ → ℕ) (n : ℕ) → total g (suc n) ≡ g 0 + total (λ i. g (suc i)) n
unfolding total
total-first g zero = omega arith
total-first g (suc n) = omega (arith, total-first g n)

bit-cond : (b : Bool) → cond b 1 0 ≡ bit b
bit-cond true = refl
bit-cond false = refl

counted-from : (v a : ℕ) (l : List ℕ) → fold (λ n x. n + cond (x == v) 1 0) a l ≡ a + total (λ c. bit (eqb (get_or l c 0) v)) (length l)
counted-from v a [] = omega (arith, total-none (λ c. bit (eqb (get_or [] c 0) v)))
counted-from v a (x ∷ l) =
    let t : total (λ c. bit (eqb (get_or (x ∷ l) c 0) v)) (suc (length l)) ≡ bit (eqb x v) + total (λ c. bit (eqb (get_or l c 0) v)) (length l) = total-first _ (length l) in
    omega (arith, t, counted-from v (a + cond (x == v) 1 0) l, bit-cond (eqb x v))

pub counted : (v : ℕ) (l : List ℕ) → count_by (λ o. o == v) l ≡ total (λ c. bit (eqb (get_or l c 0) v)) (length l)
counted v l = omega (arith, counted-from v 0 l)
