-- A float that equals 0 has a pattern, and the pattern 0 is +0's alone; what does not equal 0 is not +0.
use Rattle.std.proofs.Common.{◌∙◌, sym, rules}
use Rattle.state.proofs.Tests.{plus-zero-pattern, unequal-zero}
use Rattle.state.proofs.good.plus_zero.Goals as goal

pub returns-then-x : goal.returns-then-x
returns-then-x c = plus-zero-pattern c.args.x (search rules)

pub returns-else-x : goal.returns-else-x
returns-else-x c = c.if-x.false ∙ sym (unequal-zero _ c.if-x.false)
