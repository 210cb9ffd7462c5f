-- While no hit is noted, no place passed has the two bytes in front.
use Rattle.std.proofs.Common.{◌+◌, ◌≡◌, false}
use Rattle.frame.specs.Inner.Passes.{Passes}
use Rattle.frame.proofs.Front.none_of.Given as goal

abbrev pub invariant-loop-k : goal.invariant-loop-k
invariant-loop-k g l = l.hit ≡ false → Passes l.self l.p (l.p + l.k)
