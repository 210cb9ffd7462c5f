-- What was passed are whole characters.
use Rattle.std.proofs.Common.{◌-◌}
use Rattle.text.specs.Utf8.{Leads}
use Rattle.text.proofs.characters.Given as goal

abbrev pub invariant-loop-at : goal.invariant-loop-at
invariant-loop-at l = Leads l.s l.at

abbrev pub decreases-loop-at : goal.decreases-loop-at
decreases-loop-at l = l.end - l.at
