-- What is to be said from the place on, with the items passed, is what was to be said at the start; each turn keeps it.
use Rattle.std.proofs.Common.{length, ◌-◌, ◌≡◌, ◌≤◌}
use Rattle.filecheck.specs.File.{file_ahead}
use Rattle.filecheck.proofs.rest.Given as goal

abbrev pub invariant-loop-reach : goal.invariant-loop-reach
invariant-loop-reach l = record {
  fewer : l.items ≤ l.reach.place;
  within : l.reach.place ≤ length l.s;
  left : file_ahead l.order l.s l.items l.reach.place l.reach.ended ≡ file_ahead l.order l.s 1 l.fn.first.place l.fn.first.ended;
}

abbrev pub decreases-loop-reach : goal.decreases-loop-reach
decreases-loop-reach l = length l.s - l.reach.place
