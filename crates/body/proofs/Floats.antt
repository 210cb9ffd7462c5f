-- Laws of the patterns of floats.
use Prim.Native.Nat.{ℕ, zero, suc, ◌+◌, ◌<◌, ◌≤◌, ◌/◌, ◌%◌}
use mathlib.Core.Path.{◌≡◌, refl, sym, ◌∙◌}
use mathlib.Core.Bool.{Bool, true, false, not, cond}
use native.Mathlib.Omega.{arith}
use lib.Dec.{T, eqb, ltb, leb}
use lib.Ieee.{Float, nan, inf, binary32, nan_bits, odd, of_fields, of_bits}
use lib.Ieee.Bits.{nan_bits_above}
use mir.Facts.{no_ltb}
use borrow.Author.Tests.{ne_eqb, eq-eqb, ltb-true, ltb-false}
use Rattle.body.specs.Levels.{is_finite}

-- with its sign taken off, a finite float's pattern is below an infinity's, and so it is no NaN's
pub no-nan : (n : ℕ) → n % 2147483648 < 2139095040 → T (not (nan_bits binary32 n))
no-nan n h = rw nan_bits_above (no_ltb {a = 2139095040} {b = n % 2147483648} (omega arith))

odd-finite : (d : ℕ) (s : Bool) (q k l : ℕ) → is_finite (odd d s q k l) ≡ true
unfolding odd
odd-finite d s zero k l = refl
odd-finite d s (suc q) k l = refl

top-or : (b c s : Bool) (y : Float) → is_finite y ≡ true → is_finite (cond b (cond c (inf s) nan) y) ≡ not b
top-or true true s y h = refl
top-or true false s y h = refl
top-or false c s y h = h

fields-finite : (s : Bool) (x t : ℕ) → is_finite (of_fields binary32 s x t) ≡ not (eqb x 255)
unfolding of_fields
fields-finite s zero t = odd-finite 24 s t 0 149
fields-finite s (suc x) t = top-or (eqb (suc x) 255) (eqb t 0) s (odd 24 s (8388608 + t) x 149) (odd-finite 24 s (8388608 + t) x 149)

field-top : (m : ℕ) (b : Bool) → m < 2147483648 → ltb m 2139095040 ≡ b → not (eqb (m / 8388608) 255) ≡ b
field-top m true h e = let k : m < 2139095040 = ltb-true m 2139095040 e in rw (ne_eqb (m / 8388608) 255 (λ q. omega arith))
field-top m false h e = let k : 2139095040 ≤ m = ltb-false m 2139095040 e in rw (eq-eqb (m / 8388608) 255 (omega arith))

pub finite-bits : (n : ℕ) → is_finite (of_bits binary32 n) ≡ ltb (n % 2147483648) 2139095040
unfolding of_bits
finite-bits n = fields-finite (leb 2147483648 n) (n % 2147483648 / 8388608) (n % 8388608) ∙ field-top (n % 2147483648) _ (omega arith) refl

pub finite-small : (n : ℕ) → is_finite (of_bits binary32 n) ≡ true → n % 2147483648 < 2139095040
finite-small n h = ltb-true (n % 2147483648) 2139095040 (sym (finite-bits n) ∙ h)

-- what a float says, by its pattern
pub ruleset finite_patterns = (no-nan, finite-bits)
