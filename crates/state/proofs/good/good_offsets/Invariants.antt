-- After i turns: the verdict on the first i places, and the powers of those that hold something, added.
use Rattle.std.proofs.Common.{◌≡◌, not, get_or}
use Rattle.num.specs.Choice.{each}
use Rattle.state.specs.Good.{is_offset, is_no_offset}
use Rattle.state.proofs.Powers.{powers}
use Rattle.state.proofs.good.good_offsets.Given as goal

abbrev pub invariant-loop-i : goal.invariant-loop-i
invariant-loop-i l = record {
  small : l.small ≡ each (λ c. is_offset (get_or l.fn.group.offsets c 0)) l.i;
  filled : l.filled ≡ powers (λ c. not (is_no_offset (get_or l.fn.group.offsets c 0))) l.i;
}
