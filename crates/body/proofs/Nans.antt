-- A float that is not equal to itself is a NaN, and each NaN has one pattern.
use Prim.Native.Nat.{◌*◌}
use mathlib.Core.Path.{◌≡◌, refl, subst}
use mathlib.Core.Bool.{Bool, true, false, ◌&&◌}
use lib.Dec.{T, eqb, eqb_refl}
use lib.Ieee.{Float, nan, inf, fin, is_nan, eq, up, down, binary32, to_bits}

with-true : (b : Bool) → T b → b && true ≡ false → ⊥
with-true true t h = subst T h tt
with-true false t h = t

pub unequal-nan : (x : Float) → eq x x ≡ false → x ≡ nan
unfolding eq
unequal-nan nan h = refl
unequal-nan (inf true) h = absurd (subst T h tt)
unequal-nan (inf false) h = absurd (subst T h tt)
unequal-nan (fin true m e) h = absurd (with-true (eqb (m * up e * down e) (m * up e * down e)) (eqb_refl (m * up e * down e)) h)
unequal-nan (fin false m e) h = absurd (with-true (eqb (m * up e * down e) (m * up e * down e)) (eqb_refl (m * up e * down e)) h)

-- each NaN has one pattern
pub nan-pattern : (x : Float) → is_nan x ≡ true → 2143289344 ≡ to_bits binary32 x
unfolding is_nan to_bits
nan-pattern nan h = refl
nan-pattern (inf s) h = cc
nan-pattern (fin s m e) h = cc

pub ruleset patterns = (nan-pattern)
