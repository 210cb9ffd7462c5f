-- After i turns: the verdict on the first i sums, and the powers of the channels that are flagged, and of those with a finite sum,
-- added.
use Rattle.std.proofs.Common.{◌≡◌, false, get_or}
use lib.Ieee.{nan, binary32, of_bits, add}
use Rattle.num.specs.Choice.{pick, each}
use Rattle.body.specs.Levels.{is_finite}
use Rattle.state.proofs.Powers.{powers}
use Rattle.state.proofs.Agree.{alike}
use Rattle.state.proofs.good.agree.Given as goal

abbrev pub invariant-loop-i : goal.invariant-loop-i
invariant-loop-i l = record {
  same : l.alike
      ≡ each (λ c. alike (get_or l.fn.sums.values c nan) (pick (get_or l.fn.sums.present c false) (add binary32 l.fn.total.value (get_or l.fn.gains.values c nan)) (of_bits binary32 0))) l.i;
  marked : l.marked ≡ powers (λ c. get_or l.fn.sums.present c false) l.i;
  finites : l.finites ≡ powers (λ c. is_finite (add binary32 l.fn.total.value (get_or l.fn.gains.values c nan))) l.i;
}
