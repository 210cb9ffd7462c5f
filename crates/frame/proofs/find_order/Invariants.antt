-- What is ahead decides the same order at each turn.
use Rattle.std.proofs.Common.{◌≡◌, drop}
use Rattle.frame.specs.Place.{order_of}
use Rattle.frame.proofs.find_order.Given as goal

abbrev pub invariant-loop-place : goal.invariant-loop-place
invariant-loop-place l = order_of (drop l.place l.s) ≡ order_of l.s
