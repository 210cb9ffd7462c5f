-- The bytes of numbers, of those with a sign in two's complement.
use Rattle.std.specs.Prelude.{ℕ, List, ℤ}
use Rattle.std.specs.Int.{w16, w32, w64}
use Rattle.std.proofs.Common.{of_z}
use Rattle.num.specs.Number.{bytes_of}
use Rattle.num.specs.declared.Order.{Order}
use Rattle.lay.specs.Runs.{run_of}

abbrev pub int16 : Order → ℤ → List ℕ
int16 o x = bytes_of o 2 (of_z w16 x)

abbrev pub int32 : Order → ℤ → List ℕ
int32 o x = bytes_of o 4 (of_z w32 x)

abbrev pub int64 : Order → ℤ → List ℕ
int64 o x = bytes_of o 8 (of_z w64 x)

-- the bytes of some numbers of k bytes, one after the other, where the bits of each are known
abbrev pub numbers_of : {A : Type 0} → Order → ℕ → (A → ℕ) → List A → List ℕ
numbers_of o k bits xs = run_of (λ x. bytes_of o k (bits x)) xs
