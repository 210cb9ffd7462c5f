-- After k turns the first k bytes are those of the number.
use Rattle.std.proofs.Common.{◌≡◌, length, take}
use Rattle.lay.proofs.runs.put.Given as goal

abbrev pub invariant-loop-k : goal.invariant-loop-k
invariant-loop-k g l = record {
  long : length l.out ≡ g.row.N;
  same : take l.k l.out ≡ take l.k l.bytes;
}
