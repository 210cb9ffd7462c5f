-- Cover is the same as offsets that are the units 0 to n - 1 in some order: n units of m pairs each for channels in
-- blocks, n of one pair for channels in turn. This is what the code tests.
use Prim.Native.Nat.{ℕ, zero, suc, ◌+◌, ◌*◌, ◌/◌, ◌%◌, ◌<◌, ◌≤◌}
use mathlib.Core.Path.{◌≡◌, refl, sym, ap, ◌∙◌, subst}
use mathlib.Core.Bool.{Bool, true, false}
use mathlib.Core.List.{List}
use mathlib.Core.Logic.{◌⊎◌, inl, inr, ⊎_elim}
use native.Mathlib.Omega.{arith}
use native.Mathlib.Nat.{div-add-mod', div-lt_iff_lt-mul, mod-lt, mul_comm, mul-lt-mul_of_pos_right, mul-suc, mul-le-mul_left, eq-zero-or-pos, zero-div, zero-mod}
use borrow.Author.Tests.{ltb-true, leb-true, eqb-true, lt-ltb, le-leb, eq-eqb, ne_eqb}
use lib.Arith.{digits_lt, digits_div, digits_mod}
use lib.Dec.{eqb, ltb, leb}
use lib.ListN.{length, take, get_or}
use Rattle.std.proofs.lemmas.List.{length-take-le, get_or-take}
use Rattle.num.specs.Choice.{pick, both, each}
use Rattle.num.proofs.Tests.{both-left, both-right, both-hold, each-all, each-at}
use Rattle.cover.specs.Cover.{bit, total, stands_at, hits, inside, once, covers, packs, group_covers}
use Rattle.cover.proofs.Counts.{agrees, bit-true, bit-zero, bit-not, either, zero-at, zero-of, one-at, one-of, is-one, each-same, total-same}

-- Sample j of channel c stands at f c + j * inc, for n channels of m samples each: every place is below P, every pair
-- below P is that of some sample, and of only one.
pub record Covered (n inc m P : ℕ) (f : ℕ → ℕ) : Type 0 where
  pub inside : (c j : ℕ) → c < n → j < m → stands_at (f c) inc j < P
  pub some : (p : ℕ) → p < P → (c : ℕ) × (j : ℕ) × (c < n) × (j < m) × (stands_at (f c) inc j ≡ p)
  pub one : (c j c' j' : ℕ) → c < n → j < m → c' < n → j' < m →
      stands_at (f c) inc j ≡ stands_at (f c') inc j' → (c ≡ c') × (j ≡ j')

-- the n offsets are u times 0 to n - 1, in some order
record Units (n u : ℕ) (f : ℕ → ℕ) : Type 0 where
  pub multiple : (c : ℕ) → c < n → (k : ℕ) × (k < n) × (f c ≡ k * u)
  pub has : (k : ℕ) → k < n → (c : ℕ) × (c < n) × (f c ≡ k * u)
  pub one : (c c' : ℕ) → c < n → c' < n → f c ≡ f c' → c ≡ c'

-- ---- a number of two digits

same-high : (m q r q' r' : ℕ) → r < m → r' < m → q * m + r ≡ q' * m + r' → q ≡ q'
same-high m q r q' r' h h' e = sym (digits_div q h) ∙ ap (λ (x : ℕ). x / m) e ∙ digits_div q' h'

same-low : (m q r q' r' : ℕ) → r < m → r' < m → q * m + r ≡ q' * m + r' → r ≡ r'
same-low m q r q' r' h h' e = sym (digits_mod q h) ∙ ap (λ (x : ℕ). x % m) e ∙ digits_mod q' h'

-- ---- increment 1: channels in blocks

module _ (n m : ℕ) (f : ℕ → ℕ) (hm : 0 < m) where
  blocks-cover : Units n m f → Covered n 1 m (n * m) f
  blocks-cover s = record {
    inside = λ c j hc hj. (let a = s.multiple c hc in omega (arith, digits_lt a.1 hj, a.2));
    some = λ p hp. (
        let h : p / m < n = (div-lt_iff_lt-mul hm).1 hp in
        let a = s.has (p / m) h in
        (a.0, p % m, a.1, mod-lt p hm, omega (arith, a.2, div-add-mod' p m)));
    one = λ c j c' j' hc hj hc' hj' e. (
        let a = s.multiple c hc in
        let b = s.multiple c' hc' in
        let d : a.0 * m + j ≡ b.0 * m + j' = omega (arith, a.2, b.2) in
        let k : a.0 ≡ b.0 = same-high m a.0 j b.0 j' hj hj' d in
        let g : f c ≡ f c' = a.2 ∙ ap (λ (x : ℕ). x * m) k ∙ sym b.2 in
        (s.one c c' hc hc' g, same-low m a.0 j b.0 j' hj hj' d));
  }

  -- an offset inside a block would share its place with the block that starts there
  cover-multiple : Covered n 1 m (n * m) f → (b c : ℕ) → f c < b → c < n → (k : ℕ) × (k < n) × (f c ≡ k * m)
  cover-multiple s zero c h hc = absurd (omega arith)
  cover-multiple s (suc b) c h hc =
      let q = f c / m in
      let r = f c % m in
      let d : q * m + r ≡ f c = div-add-mod' (f c) m in
      let i : f c < n * m = omega (arith, s.inside c 0 hc hm) in
      let hq : q < n = (div-lt_iff_lt-mul hm).1 i in
      (q, hq, low (λ c' h' k'. cover-multiple s b c' h' k') q r d hq (mod-lt (f c) hm))
    where
      low : ((c' : ℕ) → f c' < b → c' < n → (k : ℕ) × (k < n) × (f c' ≡ k * m)) →
          (q r : ℕ) → q * m + r ≡ f c → q < n → r < m → f c ≡ q * m
      low ih q zero d hq hr = omega arith
      low ih q (suc r) d hq hr =
          let p = s.some (q * m) (mul-lt-mul_of_pos_right hq hm) in
          let a = ih p.0 (omega (arith, p.4)) p.2 in
          let j : p.1 ≡ 0 = same-low m a.0 p.1 q 0 p.3 hm (omega (arith, p.4, a.2)) in
          let o = s.one p.0 (suc r) c 0 p.2 hr hc hm (omega (arith, p.4)) in
          omega (arith, o.1)

  cover-blocks : Covered n 1 m (n * m) f → Units n m f
  cover-blocks s = record {
    multiple = λ c hc. cover-multiple s (suc (f c)) c (omega arith) hc;
    has = λ k hk. (
        let p = s.some (k * m) (mul-lt-mul_of_pos_right hk hm) in
        let a = cover-multiple s (suc (f p.0)) p.0 (omega arith) p.2 in
        let j : p.1 ≡ 0 = same-low m a.0 p.1 k 0 p.3 hm (omega (arith, p.4, a.2)) in
        (p.0, p.2, omega (arith, p.4)));
    one = λ c c' hc hc' e. (s.one c 0 c' 0 hc hm hc' hm (omega arith)).0;
  }

-- ---- increment n: channels in turn

module _ (n m : ℕ) (f : ℕ → ℕ) (hn : 0 < n) where
  turns-cover : Units n 1 f → Covered n n m (n * m) f
  turns-cover s = record {
    inside = λ c j hc hj. (
        let a = s.multiple c hc in
        let h : f c < n = omega (arith, a.1, a.2) in
        omega (arith, digits_lt hj h, mul_comm n m));
    some = λ p hp. (
        let h : p / n < m = (div-lt_iff_lt-mul hn).1 (omega (arith, mul_comm n m)) in
        let a = s.has (p % n) (mod-lt p hn) in
        (a.0, p / n, a.1, h, omega (arith, a.2, div-add-mod' p n)));
    one = λ c j c' j' hc hj hc' hj' e. (
        let a = s.multiple c hc in
        let b = s.multiple c' hc' in
        let d : j * n + f c ≡ j' * n + f c' = omega arith in
        let h : f c < n = omega (arith, a.1, a.2) in
        let h' : f c' < n = omega (arith, b.1, b.2) in
        (s.one c c' hc hc' (same-low n j (f c) j' (f c') h h' d), same-high n j (f c) j' (f c') h h' d));
  }

-- the last sample of a channel is below n * m, so its first is below n
cover-below : (n m : ℕ) (f : ℕ → ℕ) → 0 < m → Covered n n m (n * m) f → (c : ℕ) → c < n → f c < n
cover-below n zero f hm s c hc = absurd (omega arith)
cover-below n (suc m) f hm s c hc = omega (arith, s.inside c m hc (omega arith), mul-suc n m, mul_comm n m)

cover-turns : (n m : ℕ) (f : ℕ → ℕ) → 0 < n → 0 < m → Covered n n m (n * m) f → Units n 1 f
cover-turns n m f hn hm s = record {
  multiple = λ c hc. (f c, cover-below n m f hm s c hc, omega arith);
  has = λ k hk. (
      let p = s.some k (omega (arith, mul-le-mul_left n hm)) in
      let low = same-low n p.1 (f p.0) 0 k (cover-below n m f hm s p.0 p.2) hk (omega (arith, p.4)) in
      (p.0, p.2, omega (arith, low)));
  one = λ c c' hc hc' e. (s.one c 0 c' 0 hc hm hc' hm (omega arith)).0;
}

-- ---- the rule as a test says what the record says

module _ (n inc m P : ℕ) (f : ℕ → ℕ) where
  -- the one (c, j) of pair p
  the : (p : ℕ) → hits n inc m f p ≡ 1 →
      (c : ℕ) × (j : ℕ) × (c < n) × (j < m) × (stands_at (f c) inc j ≡ p)
      × ((c' j' : ℕ) → c' < n → j' < m → stands_at (f c') inc j' ≡ p → (c' ≡ c) × (j' ≡ j))
  the p h =
      let at : ℕ → ℕ → Bool = λ c j. eqb (stands_at (f c) inc j) p in
      let a = one-at (λ c. total (λ j. bit (eqb (stands_at (f c) inc j) p)) m) n h in
      let c = a.0 in
      let b = one-at (λ j. bit (at c j)) m a.2 in
      let j = b.0 in (
        c,
        j,
        a.1,
        b.1,
        eqb-true _ _ (bit-true (at c j) b.2),
        λ c' j' hc hj q. (
            let same : c' ≡ c =
            ⊎_elim (λ r. r) (λ r. absurd (bit-not (at c' j') (eq-eqb _ _ q) (zero-at (λ j. bit (at c' j)) m (a.3 c' hc r) j' hj))) (either c' c) in
            (same, is-one (at c) m j j' b.3 hj (eq-eqb _ _ (subst (λ (x : ℕ). stands_at (f x) inc j' ≡ p) same q)))),
      )

  rule-covered : inside n inc m f P ≡ true → once n inc m f P ≡ true → Covered n inc m P f
  rule-covered inn ones =
      let row : ℕ → Bool = λ c. each (λ j. ltb (stands_at (f c) inc j) P) m in
      let within : (c j : ℕ) → c < n → j < m → stands_at (f c) inc j < P =
      λ c j hc hj. ltb-true _ _ (each-at (λ j. ltb (stands_at (f c) inc j) P) m j (each-at row n c inn hc) hj) in
      let hit : (p : ℕ) → p < P → hits n inc m f p ≡ 1 =
      λ p hp. eqb-true _ _ (each-at (λ p. eqb (hits n inc m f p) 1) P p ones hp) in
      record {
        inside = within;
        some = λ p hp. (let t = the p (hit p hp) in (t.0, t.1, t.2, t.3, t.4));
        one = λ c j c' j' hc hj hc' hj' q. (
            let t = the (stands_at (f c) inc j) (hit (stands_at (f c) inc j) (within c j hc hj)) in
            let x = t.5 c j hc hj refl in
            let y = t.5 c' j' hc' hj' (sym q) in
            (x.0 ∙ sym y.0, x.1 ∙ sym y.1));
      }

  module _ (s : Covered n inc m P f) where
    covered-inside : inside n inc m f P ≡ true
    covered-inside =
        each-all (λ c. each (λ j. ltb (stands_at (f c) inc j) P) m) n
        (λ c hc. each-all (λ j. ltb (stands_at (f c) inc j) P) m (λ j hj. lt-ltb (stands_at (f c) inc j) P (s.inside c j hc hj)))

    covered-once : once n inc m f P ≡ true
    covered-once = each-all (λ p. eqb (hits n inc m f p) 1) P (λ p hp. eq-eqb (hits n inc m f p) 1 (hit p (s.some p hp)))
      where
        hit : (p : ℕ) → ((c : ℕ) × (j : ℕ) × (c < n) × (j < m) × (stands_at (f c) inc j ≡ p)) → hits n inc m f p ≡ 1
        hit p t =
            let c = t.0 in
            let j = t.1 in
            let only : (c' j' : ℕ) → c' < n → j' < m → eqb (stands_at (f c') inc j') p ≡ true → (c' ≡ c) × (j' ≡ j) =
            λ c' j' hc hj b. s.one c' j' c j hc hj t.2 t.3 (eqb-true _ _ b ∙ sym t.4) in
            one-of (λ c. total (λ j. bit (eqb (stands_at (f c) inc j) p)) m) n c t.2
            (one-of (λ j. bit (eqb (stands_at (f c) inc j) p)) m j t.3 (ap bit (eq-eqb _ _ t.4))
            (λ j' hj q. bit-zero (eqb (stands_at (f c) inc j') p) (λ b. q (only c j' t.2 hj b).1)))
            (λ c' hc q. zero-of (λ j. bit (eqb (stands_at (f c') inc j) p)) m
            (λ j' hj. bit-zero (eqb (stands_at (f c') inc j') p) (λ b. q (only c' j' hc hj b).0)))

-- n divides P, and the samples cover the P pairs
pub covers-covered : (n inc P : ℕ) (f : ℕ → ℕ) → covers n inc f P ≡ true → (P % n ≡ 0) × Covered n inc (P / n) P f
unfolding covers
covers-covered n inc P f h =
    let m = P / n in
    let t = both-right (eqb (P % n) 0) (both (inside n inc m f P) (once n inc m f P)) h in (
      eqb-true _ _ (both-left (eqb (P % n) 0) (both (inside n inc m f P) (once n inc m f P)) h),
      rule-covered n inc m P f
          (both-left (inside n inc m f P) (once n inc m f P) t)
          (both-right (inside n inc m f P) (once n inc m f P) t),
    )

pub covered-covers : (n inc P : ℕ) (f : ℕ → ℕ) → P % n ≡ 0 → Covered n inc (P / n) P f → covers n inc f P ≡ true
unfolding covers
covered-covers n inc P f z s =
    let m = P / n in
    both-hold (eqb (P % n) 0) (both (inside n inc m f P) (once n inc m f P)) (eq-eqb (P % n) 0 z)
    (both-hold (inside n inc m f P) (once n inc m f P) (covered-inside n inc m P f s) (covered-once n inc m P f s))

-- the rule looks at the first n offsets alone
module _ (n inc m P : ℕ) (f g : ℕ → ℕ) (e : (c : ℕ) → c < n → f c ≡ g c) where
  inside-same : inside n inc m f P ≡ inside n inc m g P
  inside-same = each-same _ _ n (λ c h. ap (λ (x : ℕ). each (λ j. ltb (stands_at x inc j) P) m) (e c h))

  hits-same : (p : ℕ) → hits n inc m f p ≡ hits n inc m g p
  hits-same p = total-same _ _ n (λ c h. ap (λ (x : ℕ). total (λ j. bit (eqb (stands_at x inc j) p)) m) (e c h))

  once-same : once n inc m f P ≡ once n inc m g P
  once-same = each-same _ _ P (λ p h. ap (λ (x : ℕ). eqb x 1) (hits-same p))

covers-same : (n inc P : ℕ) (f g : ℕ → ℕ) → ((c : ℕ) → c < n → f c ≡ g c) → covers n inc f P ≡ covers n inc g P
unfolding covers
covers-same n inc P f g e = rw (inside-same n inc (P / n) P f g e, once-same n inc (P / n) P f g e)

pub front : (n inc P : ℕ) (l : List ℕ) → n ≤ length l → covers (length (take n l)) inc (λ c. get_or (take n l) c 0) P ≡ covers n inc (λ c. get_or l c 0) P
front n inc P l h = rw (length-take-le n l h) (covers-same n inc P (λ c. get_or (take n l) c 0) (λ c. get_or l c 0) (λ c q. get_or-take n l c 0 q))

-- ---- what the code tests, one turn for each channel

-- offset k is a multiple of u and below n of them, and k times u is one offset
abbrev pub unit_at : ℕ → ℕ → (ℕ → ℕ) → ℕ → Bool
unit_at n u f k = both (eqb (f k % u) 0) (both (ltb (f k / u) n) (eqb (total (λ c. bit (eqb (f c) (k * u))) n) 1))

module _ (n u : ℕ) (f : ℕ → ℕ) (k : ℕ) where
  good : f k % u ≡ 0 → f k / u < n → total (λ c. bit (eqb (f c) (k * u))) n ≡ 1 → unit_at n u f k ≡ true
  good a b c = rw (eq-eqb (f k % u) 0 a, lt-ltb (f k / u) n b, eq-eqb (total (λ c. bit (eqb (f c) (k * u))) n) 1 c)

module _ (n u : ℕ) (f : ℕ → ℕ) (hu : 0 < u) where
  test-units : each (unit_at n u f) n ≡ true → Units n u f
  test-units h =
      let at : (k : ℕ) → k < n → unit_at n u f k ≡ true = λ k. each-at (unit_at n u f) n k h in
      let mult : (c : ℕ) → c < n → f c ≡ f c / u * u =
      λ c hc.
      let z : f c % u ≡ 0 = eqb-true _ _ (both-left (eqb (f c % u) 0) _ (at c hc)) in
      omega (arith, div-add-mod' (f c) u) in
      let low : (c : ℕ) → c < n → f c / u < n =
      λ c hc. ltb-true _ _ (both-left (ltb (f c / u) n) _ (both-right (eqb (f c % u) 0) _ (at c hc))) in
      let cnt : (k : ℕ) → k < n → total (λ c. bit (eqb (f c) (k * u))) n ≡ 1 =
      λ k hk. eqb-true _ _ (both-right (ltb (f k / u) n) _ (both-right (eqb (f k % u) 0) _ (at k hk))) in
      record {
        multiple = λ c hc. (f c / u, low c hc, mult c hc);
        has = λ k hk. (
            let a = one-at (λ c. bit (eqb (f c) (k * u))) n (cnt k hk) in
            (a.0, a.1, eqb-true _ _ (bit-true (eqb (f a.0) (k * u)) a.2)));
        one = λ c c' hc hc' e. (
            let k = f c / u in
            let a = one-at (λ c. bit (eqb (f c) (k * u))) n (cnt k (low c hc)) in
            is-one (λ c. eqb (f c) (k * u)) n a.0 c a.3 hc (eq-eqb _ _ (mult c hc))
            ∙ sym (is-one (λ c. eqb (f c) (k * u)) n a.0 c' a.3 hc' (eq-eqb _ _ (sym e ∙ mult c hc))));
      }

  units-test : Units n u f → each (unit_at n u f) n ≡ true
  units-test s = each-all (unit_at n u f) n (λ k hk. at k (s.multiple k hk) (s.has k hk))
    where
      at : (k : ℕ) → ((q : ℕ) × (q < n) × (f k ≡ q * u)) → ((c : ℕ) × (c < n) × (f c ≡ k * u)) → unit_at n u f k ≡ true
      at k a b =
          let z : f k ≡ a.0 * u + 0 = omega (arith, a.2) in
          good n u f k (ap (λ (x : ℕ). x % u) z ∙ digits_mod a.0 hu)
          (omega (arith, a.1, ap (λ (x : ℕ). x / u) z ∙ digits_div a.0 hu))
          (one-of (λ c. bit (eqb (f c) (k * u))) n b.0 b.1 (ap bit (eq-eqb _ _ b.2))
          (λ j hj q. bit-zero (eqb (f j) (k * u)) (λ t. q (s.one j b.0 hj b.1 (eqb-true _ _ t ∙ sym b.2)))))

  -- offsets that are the units in their order pass
  pub in-order-test : each (λ c. eqb (f c) (c * u)) n ≡ true → each (unit_at n u f) n ≡ true
  in-order-test h =
      let at : (c : ℕ) → c < n → f c ≡ c * u = λ c hc. eqb-true _ _ (each-at (λ c. eqb (f c) (c * u)) n c h hc) in
      units-test (record {
        multiple = λ c hc. (c, hc, at c hc);
        has = λ k hk. (k, hk, at k hk);
        one = λ c c' hc hc' e. same-high u c 0 c' 0 hu hu (omega (arith, at c hc, at c' hc'));
      })

-- ---- the rule and the code's test agree

-- what an allowed packing is
pub packed : (n inc : ℕ) → packs n inc ≡ true → (0 < n) × (n ≤ 16) × ((inc ≡ 1) ⊎ (inc ≡ n))
packed n inc h =
    let r = both (leb 1 n) (leb n 16) in
    let i = pick (eqb inc 1) true (eqb inc n) in
    let a = both-left r i h in
    let lo : 1 ≤ n = leb-true 1 n (both-left (leb 1 n) (leb n 16) a) in
    (omega arith, leb-true n 16 (both-right (leb 1 n) (leb n 16) a), by (eqb inc 1) refl (both-right r i h))
  where
    by : (b : Bool) → eqb inc 1 ≡ b → pick b true (eqb inc n) ≡ true → (inc ≡ 1) ⊎ (inc ≡ n)
    by true e k = inl (eqb-true inc 1 e)
    by false e k = inr (eqb-true inc n k)

-- and such a packing is allowed
pub packs-of : (n inc : ℕ) → 0 < n → n ≤ 16 → (inc ≡ 1) ⊎ (inc ≡ n) → packs n inc ≡ true
packs-of n inc lo hi k =
    both-hold (both (leb 1 n) (leb n 16)) (pick (eqb inc 1) true (eqb inc n))
    (both-hold (leb 1 n) (leb n 16) (le-leb 1 n lo) (le-leb n 16 hi))
    (⊎_elim (λ e. rw (eq-eqb inc 1 e)) (λ e. rw (eq-eqb inc n e) (either_way (eqb inc 1))) k)
  where
    either_way : (b : Bool) → pick b true true ≡ true
    either_way true = refl
    either_way false = refl

-- pairs that n divides leave each channel a sample
pub some-each : (n P : ℕ) → P % n ≡ 0 → 0 < P → 0 < P / n
some-each n P z hp =
    ⊎_elim (λ q. absurd (omega (arith, div-add-mod' P n, ap (λ (x : ℕ). x * n) q))) (λ q. q) (eq-zero-or-pos (P / n))

-- and are n times those samples
shares : (n P : ℕ) → P % n ≡ 0 → P ≡ n * (P / n)
shares n P z = omega (arith, div-add-mod' P n, mul_comm n (P / n))

-- with pairs that n divides, the rule is the code's test of every channel
pub verdict : (n inc P : ℕ) (f : ℕ → ℕ) → packs n inc ≡ true → P % n ≡ 0 → 0 < P →
    covers n inc f P ≡ each (unit_at n (pick (eqb inc 1) (P / n) 1) f) n
verdict n inc P f h z hp = ⊎_elim blocks turns (either inc 1)
  where
    hn : 0 < n
    hn = (packed n inc h).0

    hm : 0 < P / n
    hm = some-each n P z hp

    shared : (inc : ℕ) → covers n inc f P ≡ true → Covered n inc (P / n) (n * (P / n)) f
    shared inc c = subst (λ (x : ℕ). Covered n inc (P / n) x f) (shares n P z) (covers-covered n inc P f c).1

    covered : (inc : ℕ) → Covered n inc (P / n) (n * (P / n)) f → covers n inc f P ≡ true
    covered inc s = covered-covers n inc P f z (subst (λ (x : ℕ). Covered n inc (P / n) x f) (sym (shares n P z)) s)

    blocks : inc ≡ 1 → covers n inc f P ≡ each (unit_at n (pick (eqb inc 1) (P / n) 1) f) n
    blocks q =
        rw q (agrees (covers n 1 f P) (each (unit_at n (P / n) f) n)
        (λ c. units-test n (P / n) f hm (cover-blocks n (P / n) f hm (shared 1 c)))
        (λ t. covered 1 (blocks-cover n (P / n) f hm (test-units n (P / n) f hm t))))

    turns : (inc ≡ 1 → ⊥) → covers n inc f P ≡ each (unit_at n (pick (eqb inc 1) (P / n) 1) f) n
    turns q =
        rw (ne_eqb inc 1 q, ⊎_elim (λ r. absurd (q r)) (λ r. r) (packed n inc h).2)
        (agrees (covers n n f P) (each (unit_at n 1 f) n)
        (λ c. units-test n 1 f (omega arith) (cover-turns n (P / n) f hn hm (shared n c)))
        (λ t. covered n (turns-cover n (P / n) f hn (test-units n 1 f (omega arith) t))))

-- where there are no pairs, any offsets cover them
pub nothing : (n inc P : ℕ) (f : ℕ → ℕ) → P ≡ 0 → covers n inc f P ≡ true
nothing n inc P f e =
    let z : P % n ≡ 0 = ap (λ (x : ℕ). x % n) e ∙ zero-mod n in
    let m : P / n ≡ 0 = ap (λ (x : ℕ). x / n) e ∙ zero-div n in
    covered-covers n inc P f z (record {
      inside = λ c j hc hj. absurd (omega arith);
      some = λ p hp. absurd (omega arith);
      one = λ c j c' j' hc hj hc' hj' q. absurd (omega arith);
    })

pub indivisible : (n inc P : ℕ) (f : ℕ → ℕ) → (P % n ≡ 0 → ⊥) → covers n inc f P ≡ false
unfolding covers
indivisible n inc P f h = rw (ne_eqb (P % n) 0 h)

-- the rule of a group is that of cover, once its packing is allowed
pub group-packed : (P n inc : ℕ) (l : List ℕ) → packs n inc ≡ true → group_covers P n inc l ≡ covers n inc (λ c. get_or l c 0) P
unfolding group_covers
group-packed P n inc l h = rw h

pub group-other : (P n inc : ℕ) (l : List ℕ) → packs n inc ≡ false → group_covers P n inc l ≡ false
unfolding group_covers
group-other P n inc l h = rw h

-- Each return of `covers` is a case of the rule: a packing that is not allowed, pairs that n does not divide, no pairs,
-- and the rest.
pub ruleset group_cases = (group-packed, group-other, indivisible, nothing)
