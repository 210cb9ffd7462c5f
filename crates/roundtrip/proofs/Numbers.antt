-- The numbers of a data chunk, over the width: signed numbers of 16 bits, or 32-bit patterns of floats.
use Prim.Native.Nat.{ℕ, ◌<◌}
use mathlib.Core.Path.{◌≡◌}
use mathlib.Core.Bool.{Bool, true, false}
use mathlib.Core.List.{List, ◌++◌}
use lib.IntN.{ℤ, pos}
use lib.ListN.{length, get_or}
use mir.Syntax.{w16, w32}
use mir.Val.{SFits, Fits, of_z}
use Rattle.num.specs.Number.{bytes_of}
use Rattle.num.specs.declared.Order.{Order}
use Rattle.num.proofs.Laws.{bytes-length, read-written, signed-back}
use Rattle.lay.specs.Numbers.{int16, int64}
use Rattle.lay.specs.Runs.{run_of}
use Rattle.lay.proofs.Values.{run_at}
use Rattle.copy.specs.Samples.{short_at, pattern_at}
use Rattle.samples.specs.Inner.Plan.{number_bytes}

abbrev pub Number : Bool → Type 0
Number true = ℕ
Number false = ℤ

-- what stands in a list past its end
abbrev pub none : (float : Bool) → Number float
none true = 0
none false = pos 0

-- the bytes of a number, and the number at a place of some bytes
abbrev pub bytes_one : (float : Bool) → Order → Number float → List ℕ
bytes_one true o = bytes_of o 4
bytes_one false o = int16 o

abbrev pub value_at : (float : Bool) → Order → List ℕ → ℕ → Number float
value_at true = pattern_at
value_at false = short_at

-- each number has the width
abbrev pub AllFit : (float : Bool) → List (Number float) → Type 0
AllFit true xs = (i : ℕ) → Fits w32 (get_or xs i 0)
AllFit false xs = (i : ℕ) → SFits w16 (get_or xs i (pos 0))

-- the body of a record: its time, then its numbers
abbrev pub body_of : (float : Bool) → Order → ℤ → List (Number float) → List ℕ
body_of float o time xs = int64 o time ++ run_of (bytes_one float o) xs

pub one-length : (float : Bool) (o : Order) (x : Number float) → length (bytes_one float o x) ≡ number_bytes float
one-length true o x = bytes-length o 4 x
one-length false o x = bytes-length o 2 (of_z w16 x)

-- ---- the numbers are read back

-- Number k of the bytes of some numbers is number k of them.
pub numbers-back : (float : Bool) (o : Order) (xs : List (Number float)) → AllFit float xs → (k : ℕ) → k < length xs →
    value_at float o (run_of (bytes_one float o) xs) k ≡ get_or xs k (none float)
numbers-back true o xs f k h = rw (run_at (bytes_of o 4) 4 (one-length true o) 0 xs k h) (read-written o 4 (get_or xs k 0) (f k).fits)
numbers-back false o xs f k h = rw (run_at (int16 o) 2 (one-length false o) (pos 0) xs k h) (signed-back o w16 (get_or xs k (pos 0)) (f k))
