-- After j turns the first j pairs are laid.
use Rattle.copy.specs.Grown.{Grown}
use Rattle.copy.proofs.runs.steps.Given as goal

abbrev pub invariant-loop-j : goal.invariant-loop-j
invariant-loop-j g l = Grown (g.T.Paired.number_at l.order l.src) l.pairs.iq l.pairs.first l.pairs.step l.pairs.count l.fn.out 0 l.out l.j
