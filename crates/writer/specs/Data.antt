-- The bodies of the data kinds: a time, then numbers in the order in which they are given.
use Rattle.std.specs.Prelude.{ℕ, List, ◌++◌, ℤ}
use Rattle.num.specs.Number.{bytes_of}
use Rattle.num.specs.declared.Order.{Order}
use Rattle.lay.specs.Numbers.{int16, int64}
use Rattle.lay.specs.Runs.{run_of}

-- signed numbers of 16 bits, and patterns of 32, after an int64 time
abbrev pub short_body : Order → ℤ → List ℤ → List ℕ
short_body o time samples = int64 o time ++ run_of (int16 o) samples

abbrev pub pattern_body : Order → ℤ → List ℕ → List ℕ
pattern_body o time samples = int64 o time ++ run_of (bytes_of o 4) samples
