-- The frames passed and the frames ahead are as many as the stream has; an item is had for each.
use Rattle.std.proofs.Common.{◌≡◌, ◌+◌, ◌-◌, ◌≤◌, length, drop}
use Rattle.frame.specs.Frames.{frames}
use Rattle.reader.proofs.count.Given as goal

abbrev pub invariant-loop-place : goal.invariant-loop-place
invariant-loop-place l = record {
  fewer : l.n ≤ l.place;
  within : l.place ≤ length l.s;
  as_many : l.n + length (frames l.order (drop l.place l.s)) ≡ length (frames l.order l.s);
}

abbrev pub decreases-loop-place : goal.decreases-loop-place
decreases-loop-place l = length l.s - l.place
