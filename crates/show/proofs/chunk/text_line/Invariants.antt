-- A piece takes a byte at least and none past the end, so the pieces lead to the end.
use Rattle.std.proofs.Common.{length, ◌-◌, ◌≤◌}
use Rattle.show.proofs.chunk.text_line.Given as goal

abbrev pub invariant-loop-at : goal.invariant-loop-at
invariant-loop-at g l = l.at ≤ length l.s

abbrev pub decreases-loop-at : goal.decreases-loop-at
decreases-loop-at g l = length l.s - l.at
