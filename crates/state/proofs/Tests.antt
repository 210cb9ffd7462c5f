-- Laws of the tests that the code runs: a list's places one after the other, and single values.
use Prim.Native.Nat.{ℕ, zero, suc, ◌-◌, ◌^◌, ◌<◌, ◌≤◌}
use mathlib.Core.Path.{◌≡◌, refl, ap, sym, subst, ◌∙◌}
use mathlib.Core.Bool.{Bool, true, false, not}
use mathlib.Core.List.{List, []}
use native.Mathlib.Nat.{zero-mul, zero-div}
use native.Mathlib.Omega.{arith}
use lib.Dec.{T, eqb, ltb}
use lib.Ieee.{Float, nan, inf, fin, binary32, of_bits, to_bits, eq, fits, is_nan}
use lib.Ieee.Bits.{of_bits-to_bits}
use lib.IntN.{ℤ, pos, negsuc}
use lib.ListN.{length, drop, get_or, drop_of_length-le}
use lib.Seq.{drop-cons}
use mir.Syntax.{w64}
use mir.Val.{SFits, of_z}
use borrow.Author.Tests.{ne_eqb, eqb-true, lt-ltb}
use Rattle.std.specs.Float.{float_is_finite}
use Rattle.num.specs.Choice.{pick, both, each}
use Rattle.num.proofs.Tests.{both-whole, both-false}
use Rattle.body.specs.Levels.{is_finite}
use Rattle.body.proofs.Nans.{unequal-nan}
use Rattle.state.specs.Good.{is_zero, is_plus_zero, is_offset, is_no_offset, good_from}

-- ---- a list, place by place

both-next : (a b r : Bool) → both a (both b r) ≡ both (both a b) r
both-next true b r = refl
both-next false b r = refl

module _ {A : Type 0} (ok none : A → Bool) (n : ℕ) (l : List A) (d : A) where
  abbrev pub place_good : ℕ → Bool
  place_good i = pick (ltb i n) (ok (get_or l i d)) (none (get_or l i d))

  from-step : (i : ℕ) → i < length l → good_from ok none n i (drop i l) ≡ both (place_good i) (good_from ok none n (suc i) (drop (suc i) l))
  unfolding good_from
  from-step i h = rw (drop-cons l i d)

  -- a list is good where its first places are, and those from there on
  from-split : (i : ℕ) → i ≤ length l → good_from ok none n 0 l ≡ both (each place_good i) (good_from ok none n i (drop i l))
  unfolding each
  from-split zero h = refl
  from-split (suc i) h =
      from-split i (omega arith) ∙ rw (from-step i (omega arith)) (both-next (each place_good i) (place_good i) (good_from ok none n (suc i) (drop (suc i) l)))

  -- so where every place is
  pub from-each : (k : ℕ) → length l ≡ k → good_from ok none n 0 l ≡ each place_good k
  unfolding good_from
  from-each k h =
      let m : length l ≤ k = omega arith in
      let e : drop k l ≡ [] = drop_of_length-le l m in
      from-split k (omega arith) ∙ rw e (both-whole (each place_good k))

-- ---- single values

-- a signed number is 0 where its pattern is
pub zero-pattern : (z : ℤ) → SFits w64 z → eqb (of_z w64 z) 0 ≡ is_zero z
zero-pattern (pos n) h = refl
zero-pattern (negsuc n) h = let k : n < 2 ^ 63 = h.sfits in ne_eqb (2 ^ 64 - suc n) 0 (λ e. omega arith)

-- the floats that std calls finite
pub finite-is : (x : Float) → float_is_finite x ≡ is_finite x
unfolding float_is_finite
finite-is nan = refl
finite-is (inf s) = refl
finite-is (fin s m e) = refl

zero-of : (x : Float) → T (fits binary32 x) → to_bits binary32 x ≡ 0 → x ≡ of_bits binary32 0
zero-of x f h = sym (of_bits-to_bits binary32 x f) ∙ ap (of_bits binary32) h

-- 0 for +0 alone
off_plus_zero : Float → ℕ
off_plus_zero nan = 1
off_plus_zero (inf s) = 1
off_plus_zero (fin true m e) = 1
off_plus_zero (fin false m e) = m

-- the pattern 0 is +0's alone
pub plus-zero-pattern : (x : Float) → T (fits binary32 x) → eqb (to_bits binary32 x) 0 ≡ is_plus_zero x
unfolding to_bits off_plus_zero of_bits
plus-zero-pattern nan f = refl
plus-zero-pattern (inf true) f = refl
plus-zero-pattern (inf false) f = refl
plus-zero-pattern (fin true m e) f = ne_eqb (to_bits binary32 (fin true m e)) 0 (λ h. omega (arith, ap off_plus_zero (zero-of (fin true m e) f h)))
plus-zero-pattern (fin false (suc m) e) f = ne_eqb (to_bits binary32 (fin false (suc m) e)) 0 (λ h. omega (arith, ap off_plus_zero (zero-of (fin false (suc m) e) f h)))
plus-zero-pattern (fin false zero e) f = simp (zero-mul, zero-div)

-- what does not equal 0 is not +0
pub unequal-zero : (x : Float) → eq x (of_bits binary32 0) ≡ false → is_plus_zero x ≡ false
unfolding eq of_bits
unequal-zero nan h = refl
unequal-zero (inf s) h = refl
unequal-zero (fin true m e) h = refl
unequal-zero (fin false (suc m) e) h = refl
unequal-zero (fin false zero e) h = simp zero-mul at h

-- ---- what stands for nothing may stand in a place that is used

pub no-offset-small : (x : ℕ) → is_no_offset x ≡ true → is_offset x ≡ true
no-offset-small x h = let z = eqb-true x 0 h in lt-ltb x (2 ^ 31) (omega arith)

pub plus-zero-finite : (x : Float) → is_plus_zero x ≡ true → is_finite x ≡ true
plus-zero-finite nan h = h
plus-zero-finite (inf s) h = h
plus-zero-finite (fin s m e) h = refl

-- ---- two floats with one pattern

pub equal-no-nan-right : (x y : Float) → eq x y ≡ true → T (not (is_nan y))
unfolding eq is_nan
equal-no-nan-right nan y h = absurd (subst T (sym h) tt)
equal-no-nan-right (inf s) nan h = absurd (subst T (sym h) tt)
equal-no-nan-right (inf s) (inf t) h = tt
equal-no-nan-right (inf s) (fin t n d) h = tt
equal-no-nan-right (fin s m e) nan h = absurd (subst T (sym h) tt)
equal-no-nan-right (fin s m e) (inf t) h = tt
equal-no-nan-right (fin s m e) (fin t n d) h = tt

is-true : (b c : Bool) → T b → c ≡ both b c
is-true true c t = refl
is-true false c t = absurd t

pub equal-alike : (x y : Float) → eq x y ≡ true → eqb (to_bits binary32 x) (to_bits binary32 y) ≡ both (not (is_nan y)) (eqb (to_bits binary32 x) (to_bits binary32 y))
equal-alike x y h = is-true (not (is_nan y)) _ (equal-no-nan-right x y h)

nan-is : is_nan nan ≡ true
unfolding is_nan
nan-is = refl

patterns-by : (x y : Float) (b : Bool) → eqb (to_bits binary32 x) (to_bits binary32 y) ≡ b → T (fits binary32 x) → T (fits binary32 y) → eq x y ≡ false → both (not (is_nan y)) b ≡ false
patterns-by x y true e f g h =
    let s : x ≡ y = sym (of_bits-to_bits binary32 x f) ∙ ap (of_bits binary32) (eqb-true _ _ e) ∙ of_bits-to_bits binary32 y g in
    let n : y ≡ nan = unequal-nan y (rw s at h) in
    rw (n, nan-is)
patterns-by x y false e f g h = both-false (not (is_nan y))

-- two that are not equal have two patterns, or the second is a NaN
pub unequal-patterns : (x y : Float) → T (fits binary32 x) → T (fits binary32 y) → eq x y ≡ false → both (not (is_nan y)) (eqb (to_bits binary32 x) (to_bits binary32 y)) ≡ false
unequal-patterns x y f g h = patterns-by x y (eqb (to_bits binary32 x) (to_bits binary32 y)) refl f g h
