-- Laws of signed numbers and their tests.
use Prim.Native.Nat.{ℕ, suc, ◌-◌, ◌^◌, ◌≤◌, ◌<◌}
use mathlib.Core.Path.{◌≡◌, refl}
use mathlib.Core.Bool.{Bool, true, false}
use native.Mathlib.Omega.{arith}
use lib.Dec.{ltb, eqb}
use lib.IntN.{pos, negsuc, nat_abs}
use lib.Signed.{le_z}
use mir.Syntax.{w32}
use mir.Val.{to_z}
use mir.ValLaws.{to_z_pos}
use Rattle.body.specs.Groups.{is_number}
use borrow.Author.Tests.{le-ltb, ne_eqb, ltb-true, ltb-false}

-- ---- an int32 by its pattern u

pub negative32 : (u : ℕ) → 2 ^ 31 ≤ u → to_z w32 u ≡ negsuc (2 ^ 32 - suc u)
negative32 u h = rw (le-ltb u 2147483648 h)

is-by : (k u : ℕ) (b : Bool) → ltb u 2147483648 ≡ b → k < 2 ^ 31 → is_number k (to_z w32 u) ≡ eqb u k
is-by k u true e h = rw (to_z_pos w32 u (ltb-true u 2147483648 e))
is-by k u false e h = let l = ltb-false u 2147483648 e in rw (negative32 u l, ne_eqb u k (λ q. omega arith))

pub is-pattern : (k u : ℕ) → k < 2 ^ 31 → is_number k (to_z w32 u) ≡ eqb u k
is-pattern k u h = is-by k u (ltb u 2147483648) refl h

natural-by : (u : ℕ) (b : Bool) → ltb u 2147483648 ≡ b → le_z (pos 0) (to_z w32 u) ≡ true → nat_abs (to_z w32 u) ≡ u
natural-by u true e h = rw (to_z_pos w32 u (ltb-true u 2147483648 e))
natural-by u false e h =
    let q = rw (negative32 u (ltb-false u 2147483648 e)) at h in
    let z : ◌≡◌ {A = ℕ} 0 1 = cc in absurd (omega arith)

pub natural-pattern : (u : ℕ) → le_z (pos 0) (to_z w32 u) ≡ true → nat_abs (to_z w32 u) ≡ u
natural-pattern u h = natural-by u (ltb u 2147483648) refl h
