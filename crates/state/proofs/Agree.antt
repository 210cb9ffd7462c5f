-- Laws of the test of the sums: that the sums of the parts pass, and they alone; and the test as the code runs it.
use Prim.Native.Nat.{ℕ, ◌^◌, ◌%◌, ◌<◌}
use mathlib.Core.Path.{◌≡◌, refl, sym, ap, ◌∙◌}
use mathlib.Core.Bool.{Bool, true, false, not, beq}
use native.Mathlib.Omega.{arith}
use borrow.Author.Tests.{lt-ltb, eq-eqb, eqb-true}
use lib.Dec.{T, eqb, ltb}
use lib.Ieee.{Float, nan, inf, fin, binary32, of_bits, to_bits, fits, is_nan}
use lib.Ieee.Bits.{of_bits-to_bits, of_bits-fits}
use lib.Ieee.Fits.{add-fits}
use lib.ListN.{length, get_or}
use lib.Seq.{ext_get_or}
use Rattle.num.specs.Choice.{pick, both, each}
use Rattle.num.proofs.Tests.{both-true, both-whole, both-false, each-all, each-at, each-same, each-both}
use Rattle.body.specs.Levels.{is_finite}
use Rattle.body.specs.Lists.{sixteen}
use Rattle.body.specs.declared.groups.GroupGains.{GroupGains}
use Rattle.body.specs.declared.values.LevelHeld.{LevelHeld}
use Rattle.body.proofs.Lists.{upto-at, upto-length}
use Rattle.state.specs.Sums.{both_parts, sum_at, has_sum, held_sum, sums_of, agrees_at, agree}
use Rattle.state.specs.declared.sums.GainSums.{GainSums}
use Rattle.state.proofs.Powers.{powers, powers-rest, powers-equal, used-by}

-- ---- what passes

same-flag : (b : Bool) → beq b b ≡ true
same-flag true = refl
same-flag false = refl

one-flag : (a b : Bool) → beq a b ≡ true → a ≡ b
one-flag true true h = refl
one-flag true false h = sym h
one-flag false true h = h
one-flag false false h = refl

module _ {A : Type 0} (f : ℕ → A) (d e : A) (c : ℕ) (h : c < 16) where
  place-is : get_or (sixteen f d 16) c e ≡ f c
  place-is = upto-at f d 16 c 16 e h ∙ rw (lt-ltb c 16 h)

module _ (t : LevelHeld) (g : GroupGains) where
  own-at : (c : ℕ) → c < 16 → agrees_at t g (sums_of t g) c ≡ true
  own-at c h =
      rw (place-is (has_sum t g) false false c h, place-is (held_sum t g) (of_bits binary32 0) nan c h, same-flag (has_sum t g c))
      (eq-eqb (to_bits binary32 (held_sum t g c)) (to_bits binary32 (held_sum t g c)) refl)

  -- the sums of the parts agree with them
  pub own-agree : (s : GainSums) → s ≡ sums_of t g → agree t g s ≡ true
  own-agree s e = rw e (each-all (agrees_at t g (sums_of t g)) 16 own-at)

  held-by : (b : Bool) (c : ℕ) → T (fits binary32 (pick b (sum_at t g c) (of_bits binary32 0)))
  held-by true c = add-fits binary32 t.value (get_or g.values c nan)
  held-by false c = of_bits-fits binary32 0

  module _ (s : GainSums) (flags : length s.present ≡ 16) (floats : length s.values ≡ 16)
      (fitting : (c : ℕ) → c < 16 → T (fits binary32 (get_or s.values c nan))) (h : agree t g s ≡ true) where
    abbrev flagAgrees : ℕ → Bool
    flagAgrees c = beq (get_or s.present c false) (has_sum t g c)

    abbrev floatAgrees : ℕ → Bool
    floatAgrees c = eqb (to_bits binary32 (get_or s.values c nan)) (to_bits binary32 (held_sum t g c))

    two : (c : ℕ) → c < 16 → (flagAgrees c ≡ true) × (floatAgrees c ≡ true)
    two c l = both-true (flagAgrees c) (floatAgrees c) (each-at (agrees_at t g s) 16 c h l)

    at_flag : (c : ℕ) → c < 16 → get_or s.present c false ≡ has_sum t g c
    at_flag c l = one-flag (get_or s.present c false) (has_sum t g c) (two c l).0

    at-float : (c : ℕ) → c < 16 → get_or s.values c nan ≡ held_sum t g c
    at-float c l =
        let e = eqb-true (to_bits binary32 (get_or s.values c nan)) (to_bits binary32 (held_sum t g c)) (two c l).1 in
        sym (of_bits-to_bits binary32 (get_or s.values c nan) (fitting c l)) ∙ ap (of_bits binary32) e ∙ of_bits-to_bits binary32 (held_sum t g c) (held-by (has_sum t g c) c)

    -- Only they do: sixteen flags and sixteen floats of 32 bits that agree with the parts are the sums of the parts.
    pub agree-own : s ≡ sums_of t g
    agree-own =
        let p : s.present ≡ sixteen (has_sum t g) false 16 =
        ext_get_or false s.present (sixteen (has_sum t g) false 16) (flags ∙ sym (upto-length (has_sum t g) false 16 0 16))
        (λ c l. let k : c < 16 = omega arith in at_flag c k ∙ sym (place-is (has_sum t g) false false c k)) in
        let q : s.values ≡ sixteen (held_sum t g) (of_bits binary32 0) 16 =
        ext_get_or nan s.values (sixteen (held_sum t g) (of_bits binary32 0) 16) (floats ∙ sym (upto-length (held_sum t g) (of_bits binary32 0) 16 0 16))
        (λ c l. let k : c < 16 = omega arith in at-float c k ∙ sym (place-is (held_sum t g) (of_bits binary32 0) nan c k)) in
        λ i. record { present = p i; values = q i }

-- ---- the test as the code runs it

finite-no-nan : (x : Float) → is_finite x ≡ true → is_nan x ≡ false
unfolding is_nan
finite-no-nan nan h = sym h
finite-no-nan (inf s) h = refl
finite-no-nan (fin s m e) h = refl

zero-no-nan : is_nan (of_bits binary32 0) ≡ false
unfolding is_nan of_bits
zero-no-nan = refl

-- two floats of one pattern, of which the second is no NaN
abbrev pub alike : Float → Float → Bool
alike y x = both (not (is_nan x)) (eqb (to_bits binary32 y) (to_bits binary32 x))

-- what is compared with a held float: the sum where the flag is set, and 0 where it is not
abbrev pub flagged : LevelHeld → GroupGains → GainSums → ℕ → Float
flagged t g s c = pick (get_or s.present c false) (sum_at t g c) (of_bits binary32 0)

abbrev pub alike_at : LevelHeld → GroupGains → GainSums → ℕ → Bool
alike_at t g s c = alike (get_or s.values c nan) (flagged t g s c)

-- where the flag is right, what is compared is what should be held
point : (x z y : Float) (p q u : Bool) → is_finite x ≡ q → is_nan z ≡ false →
    both (alike y (pick p x z)) (beq p (both u q))
    ≡ both (beq p (both u q)) (eqb (to_bits binary32 y) (to_bits binary32 (pick (both u q) x z)))
point x z y true true true e n = rw (finite-no-nan x e) (both-whole (eqb (to_bits binary32 y) (to_bits binary32 x)))
point x z y true false true e n = both-false (alike y x)
point x z y true q false e n = both-false (alike y x)
point x z y false true true e n = both-false (alike y z)
point x z y false false true e n = rw n (both-whole (eqb (to_bits binary32 y) (to_bits binary32 z)))
point x z y false q false e n = rw n (both-whole (eqb (to_bits binary32 y) (to_bits binary32 z)))

pub agree-by : (t : LevelHeld) (g : GroupGains) (s : GainSums) →
    both (each (alike_at t g s) 16)
    (eqb (powers (λ c. get_or s.present c false) 16) (powers (λ c. is_finite (sum_at t g c)) 16 % 2 ^ pick (ltb (both_parts t g) 16) (both_parts t g) 16))
    ≡ agree t g s
agree-by t g s =
    let n = both_parts t g in
    let m = pick (ltb n 16) n 16 in
    let p : ℕ → Bool = λ c. get_or s.present c false in
    let q : ℕ → Bool = λ c. is_finite (sum_at t g c) in
    let r : ℕ → Bool = λ c. both (ltb c m) (q c) in
    let at : (c : ℕ) → c < 16 → both (alike_at t g s c) (beq (p c) (r c)) ≡ agrees_at t g s c =
    λ c h. rw (← used-by c n (ltb n 16) refl h) (point (sum_at t g c) (of_bits binary32 0) (get_or s.values c nan) (p c) (q c) (ltb c n) refl zero-no-nan) in
    ap (both (each (alike_at t g s) 16)) (ap (eqb (powers p 16)) (powers-rest q m 16) ∙ powers-equal p r 16)
    ∙ sym (each-both (alike_at t g s) (λ c. beq (p c) (r c)) 16)
    ∙ each-same (λ c. both (alike_at t g s c) (beq (p c) (r c))) (agrees_at t g s) 16 at
