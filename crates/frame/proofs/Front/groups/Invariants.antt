-- No group passed over has such a place.
use Rattle.std.proofs.Common.{◌-◌, ◌≤◌}
use Rattle.frame.specs.Inner.Passes.{Passes}
use Rattle.frame.proofs.Front.groups.Given as goal

abbrev pub invariant-loop-p : goal.invariant-loop-p
invariant-loop-p g l = record { most : l.p ≤ l.to; passed : Passes l.self l.from l.p }

abbrev pub decreases-loop-p : goal.decreases-loop-p
decreases-loop-p g l = l.to - l.p
