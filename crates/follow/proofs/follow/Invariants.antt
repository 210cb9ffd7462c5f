-- The bytes that have come are no more than the slice has.
use Rattle.std.proofs.Common.{length, ◌≤◌}
use Rattle.follow.proofs.follow.Given as goal

abbrev pub invariant-loop : goal.invariant-loop
invariant-loop g l = l.n ≤ length l.bytes
