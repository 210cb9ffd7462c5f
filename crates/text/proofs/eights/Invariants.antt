-- The groups passed are plain.
use Rattle.std.proofs.Common.{◌-◌, length}
use Rattle.text.specs.Utf8.{PlainFront}
use Rattle.text.proofs.eights.Given as goal

abbrev pub invariant-loop-group : goal.invariant-loop-group
invariant-loop-group l = PlainFront l.s l.n

abbrev pub decreases-loop-group : goal.decreases-loop-group
decreases-loop-group l = length l.s - l.n
