-- Only the promises of private functions use these: a header by itself, and what judges a body.
use Rattle.std.specs.Prelude.{ℕ, List, ◌++◌, ◌≡◌, Result}
use Rattle.num.specs.Answer.{Answer}
use Rattle.num.specs.Number.{bytes_of}
use Rattle.num.specs.declared.Order.{Order}
use Rattle.frame.specs.Place.{sync_bytes}
use Rattle.body.specs.Fault.{read_said}
use Rattle.body.specs.declared.faults.Fault.{Fault}

-- the front of a chunk: sync word, type, size
abbrev pub header_bytes : Order → ℕ → ℕ → List ℕ
header_bytes o code size = sync_bytes o ++ (bytes_of o 4 code ++ bytes_of o 4 size)

-- whatever a call may give says so
abbrev pub Judges : (Result (Unit {0}) Fault → Type 0) → Answer (Unit {0}) → Type 0
Judges may_give judged = (v : Result (Unit {0}) Fault) → may_give v → read_said v ≡ judged
