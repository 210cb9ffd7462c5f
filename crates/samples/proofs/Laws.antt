-- Laws of where samples lie.
use Prim.Native.Nat.{ℕ}
use mathlib.Core.Path.{◌≡◌, refl, sym, ap, ◌∙◌}
use native.Mathlib.Omega.{arith}
use lib.Dec.{eqb}
use lib.IntN.{ℤ, pos, negsuc}
use mir.Syntax.{w64}
use mir.Val.{to_z, of_z}
use borrow.Author.Tests.{ne_eqb}
use Rattle.body.specs.Groups.{is_number}

-- a number is 1 where its pattern is
pub one-pattern : (z : ℤ) → to_z w64 (of_z w64 z) ≡ z → eqb (of_z w64 z) 1 ≡ is_number 1 z
one-pattern (pos n) h = refl
one-pattern (negsuc n) h =
    ne_eqb (of_z w64 (negsuc n)) 1 (λ e.
    let q : ◌≡◌ {A = ℤ} (negsuc n) (pos 1) = sym h ∙ ap (to_z w64) e in
    let z : ◌≡◌ {A = ℕ} 0 1 = cc in absurd (omega arith))
