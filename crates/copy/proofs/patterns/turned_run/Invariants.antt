-- After j turns the first j pairs are laid; they stand one after the other, which is step 1.
use Rattle.std.proofs.Common.{false}
use Rattle.num.specs.declared.Order.TheVariants.{Big}
use Rattle.copy.specs.Samples.{pattern_at}
use Rattle.copy.specs.Grown.{Grown}
use Rattle.copy.proofs.patterns.turned_run.Given as goal

abbrev pub invariant-loop-j : goal.invariant-loop-j
invariant-loop-j l = Grown (pattern_at Big l.src) false l.pairs.first 1 l.pairs.count l.fn.out 0 l.out l.j
