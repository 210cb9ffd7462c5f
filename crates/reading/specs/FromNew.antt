-- How a cursor came from a new one.
use Rattle.std.specs.Prelude.{ℕ, List}
use Rattle.num.specs.declared.Order.{Order}
use Rattle.reader.specs.Step.{new_cursor, accepted, lost, step_of}
use Rattle.reader.specs.declared.Cursor.{Cursor}

pub data FromNew : Cursor → Type 0 where
  -- it is new
  new : FromNew new_cursor
  -- a step left it, in any order and on any stream, refused or not
  step : (o : Order) (s : List ℕ) (c : Cursor) → FromNew c → FromNew (step_of o s c).cursor
  -- it was moved past a chunk, to any place
  accept : (to : ℕ) (c : Cursor) → FromNew c → FromNew (accepted c to)
  -- it lost step
  lose : (c : Cursor) → FromNew c → FromNew (lost c)
