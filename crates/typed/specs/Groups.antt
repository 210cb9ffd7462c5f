-- The bytes that a group's values make.
use Rattle.std.specs.Prelude.{ℕ, List, ◌++◌, ltb, take}
use Rattle.num.specs.Choice.{pick}
use Rattle.num.specs.Number.{bytes_of}
use Rattle.num.specs.declared.Order.{Order}
use Rattle.body.specs.declared.groups.GroupPacking.{GroupPacking}
use Rattle.body.specs.declared.groups.GroupHertz.{GroupHertz}
use Rattle.body.specs.declared.groups.GroupGains.{GroupGains}
use Rattle.lay.specs.Numbers.{int64}
use Rattle.lay.specs.Runs.{run_of}
use Rattle.typed.specs.Bodies.{float32}

-- n, or the limit where n is above it
abbrev pub at_most : ℕ → ℕ → ℕ
at_most limit n = pick (ltb limit n) limit n

-- The count first. One above 16 has no place for its values: it stands as 17, which the row refuses, and the sixteen
-- values follow.
abbrev pub count_then : Order → ℕ → List ℕ → List ℕ
count_then o n rest = bytes_of o 4 (at_most 17 n) ++ rest

-- GIQP: the count, the packing, the increment, the offsets; one of 2^31 or more stands as a negative number, which the
-- row refuses
unfoldable pub packing_body : Order → GroupPacking → List ℕ
packing_body o g =
    count_then o g.n
    (bytes_of o 4 (pick g.iq 1 0) ++ (bytes_of o 4 g.increment ++ run_of (bytes_of o 4) (take g.n g.offsets)))

-- GCF_: the count, the frequencies
unfoldable pub hertz_body : Order → GroupHertz → List ℕ
hertz_body o g = count_then o g.n (run_of (int64 o) (take g.n g.values))

-- GRG_: the count, the gains; a NaN stands by its one pattern, which the row refuses
unfoldable pub gains_body : Order → GroupGains → List ℕ
gains_body o g = count_then o g.n (run_of (float32 o) (take g.n g.values))
