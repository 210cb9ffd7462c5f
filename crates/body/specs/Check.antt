-- The checks that bodies share, and the numbers at their places.
use Rattle.std.specs.Prelude.{ℕ, Bool, List, eqb, ℤ, length}
use Rattle.std.specs.Int.{w32, w64}
use Rattle.std.proofs.Common.{to_z}
use Rattle.num.specs.Answer.{Answer, gives, refuses}
use Rattle.num.specs.Choice.{pick}
use Rattle.num.specs.Number.{unsigned_at}
use Rattle.num.specs.declared.Order.{Order}

-- the signed numbers at a place of a body
abbrev pub int32 : Order → List ℕ → ℕ → ℤ
int32 o body at = to_z w32 (unsigned_at 4 o body at)

abbrev pub int64 : Order → List ℕ → ℕ → ℤ
int64 o body at = to_z w64 (unsigned_at 8 o body at)

-- number 11 unless the body has exactly k bytes
abbrev pub sized : {A : Type 0} → ℕ → List ℕ → Answer A → Answer A
sized k body a = pick (eqb (length body) k) a (refuses 11)

-- number 12 unless the value is allowed
abbrev pub allowed : {A : Type 0} → Bool → A → Answer A
allowed ok v = pick ok (gives v) (refuses 12)

-- what was given, as it is to be held, or what stands for its absence
abbrev pub or_else : {A B : Type 0} → B → (A → B) → Answer A → B
or_else none hold (gives a) = hold a
or_else none hold (refuses n) = none
