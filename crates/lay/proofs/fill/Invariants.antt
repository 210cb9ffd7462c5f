-- After j turns the first j bytes are those of src, in either loop: the second goes on where the first ends.
use Rattle.std.proofs.Common.{◌≡◌, length, take}
use Rattle.lay.proofs.fill.Given as goal

abbrev pub invariant-loop-j : goal.invariant-loop-j
invariant-loop-j l = record {
  long : length l.out ≡ length l.src;
  same : take l.j l.out ≡ take l.j l.src;
}

abbrev pub invariant-loop-j-2 : goal.invariant-loop-j-2
invariant-loop-j-2 l = record {
  long : length l.out ≡ length l.src;
  same : take l.j l.out ≡ take l.j l.src;
}
