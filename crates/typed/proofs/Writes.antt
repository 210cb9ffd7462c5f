-- Laws of what the raw call promises: of two bodies that are equal, past the end, and of a body that is too large.
use Prim.Native.Nat.{ℕ, ◌≤◌, ◌<◌}
use mathlib.Core.Path.{◌≡◌, refl}
use mathlib.Core.List.{List}
use borrow.Author.Tests.{lt-ltb, le-ltb, lt-leb}
use lib.ListN.{length}
use Rattle.num.specs.Answer.{Answer, refuses}
use Rattle.num.specs.declared.Order.{Order}
use Rattle.writer.specs.Write.{write_of, written_out}

-- the answer a, and what l the slice d holds afterwards, are those of the raw call on a body
abbrev Wrote : Order → ℕ → List ℕ → List ℕ → ℕ → Answer ℕ → List ℕ → Type 0
Wrote o code body d place a l = (a ≡ write_of o code body (length d) place) × (l ≡ written_out o code body d place)

pub same-body : (o : Order) (code : ℕ) (b b' d : List ℕ) (place : ℕ) (a : Answer ℕ) (l : List ℕ) → b ≡ b' → Wrote o code b d place a l → Wrote o code b' d place a l
same-body o code b b' d place a l e h = rw (← e) h

module _ (o : Order) (code : ℕ) (body d : List ℕ) (place : ℕ) where
  pub past-end : length d < place → Wrote o code body d place (refuses 2) d
  past-end h = rw (lt-ltb (length d) place h) (refl, refl)

  pub too-large : place ≤ length d → 69632 < length body → Wrote o code body d place (refuses 32) d
  too-large h k = rw (le-ltb (length d) place h, lt-leb (length body) 69632 k) (refl, refl)
