-- After j turns the first j numbers are laid, and all of them at the end.
use Rattle.std.proofs.Common.{◌≡◌, length, take}
use Rattle.lay.specs.Numbers.{numbers_of}
use Rattle.lay.specs.Splice.{splice}
use Rattle.lay.proofs.runs.fill_run.Given as goal

abbrev pub invariant-loop-j : goal.invariant-loop-j
invariant-loop-j g l = record {
  long : length l.out ≡ length l.initial.out;
  laid : l.out ≡ splice l.initial.out 0 (numbers_of l.order g.row.N g.T.Number.bits (take l.j l.xs));
}
