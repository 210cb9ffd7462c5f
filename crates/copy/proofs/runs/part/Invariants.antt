-- Up to pair j the pairs are laid; they stand one after the other, which is step 1.
use Rattle.copy.specs.Grown.{Grown}
use Rattle.copy.proofs.runs.part.Given as goal

abbrev pub invariant-loop-j : goal.invariant-loop-j
invariant-loop-j g l = Grown (g.T.Paired.number_at l.order l.src) l.pairs.iq l.pairs.first 1 l.pairs.count l.fn.out l.from l.out l.j
