-- Two floats that are equal are no NaN, so they have patterns; two with one pattern are one float, and so equal unless it is a
-- NaN.
use Rattle.std.proofs.Common.{◌∙◌, sym, rules}
use Rattle.state.proofs.Tests.{equal-no-nan-right, equal-alike, unequal-patterns}
use Rattle.state.proofs.good.same.Goals as goal

pub float_to_bits-result-then-x-y : goal.float_to_bits-result-then-x-y
float_to_bits-result-then-x-y c = equal-no-nan-right _ _ c.if-x-y.true

pub returns-then-x-y : goal.returns-then-x-y
returns-then-x-y c = equal-alike c.args.x c.args.y c.if-x-y.true

pub returns-else-x-y : goal.returns-else-x-y
returns-else-x-y c = c.if-x-y.false ∙ sym (unequal-patterns c.args.x c.args.y (search rules) (search rules) c.if-x-y.false)
