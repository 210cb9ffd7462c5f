-- The cursor that is held is the same from each turn's cursor on, with the steps that are left.
use Rattle.std.proofs.Common.{◌≡◌, ◌-◌}
use Rattle.growing.specs.Held.{held_by, held}
use Rattle.follow.proofs.read_on.Given as goal

abbrev pub invariant-loop : goal.invariant-loop
invariant-loop g l = held_by (l.end - l.counter) l.order l.s l.at ≡ held l.fn.order l.fn.s l.fn.cursor
