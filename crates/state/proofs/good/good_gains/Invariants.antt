-- After i turns: the verdict on the first i places, and the powers of those that hold something, added.
use Rattle.std.proofs.Common.{◌≡◌, not, get_or}
use lib.Ieee.{nan}
use Rattle.num.specs.Choice.{each}
use Rattle.body.specs.Levels.{is_finite}
use Rattle.state.specs.Good.{is_plus_zero}
use Rattle.state.proofs.Powers.{powers}
use Rattle.state.proofs.good.good_gains.Given as goal

abbrev pub invariant-loop-i : goal.invariant-loop-i
invariant-loop-i l = record {
  bounded : l.bounded ≡ each (λ c. is_finite (get_or l.fn.gains.values c nan)) l.i;
  filled : l.filled ≡ powers (λ c. not (is_plus_zero (get_or l.fn.gains.values c nan))) l.i;
}
