-- The loop lays pairs behind the few, sixteen at a time.
use Rattle.std.proofs.Common.{◌+◌, ◌*◌, true}
use Rattle.num.specs.declared.Order.TheVariants.{Big}
use Rattle.copy.specs.Samples.{short_at}
use Rattle.copy.specs.Grown.{Grown}
use Rattle.copy.proofs.shorts.blocks.Given as goal

abbrev pub invariant-loop-b : goal.invariant-loop-b
invariant-loop-b l = Grown (short_at Big l.src) true l.pairs.first 1 l.pairs.count l.fn.out 0 l.out (l.few + l.b * 16)
