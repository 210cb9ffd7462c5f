-- The place reached with the gap before the first stop is the same at each turn: a turn passes a place that is no stop, and
-- what follows it up to the next place with the word's first two bytes in front.
use Rattle.std.proofs.Common.{◌+◌, ◌-◌, ◌≡◌, length, drop}
use Rattle.frame.specs.Place.{gap}
use Rattle.frame.proofs.search.Given as goal

abbrev pub invariant-places : goal.invariant-places
invariant-places l = l.place + gap l.order (drop l.place l.s) ≡ l.from + gap l.order (drop l.from l.s)

abbrev pub decreases-places : goal.decreases-places
decreases-places l = length l.s - l.place
