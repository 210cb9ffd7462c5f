-- After i turns the powers of the first i places that are not 0 are added.
use Rattle.std.proofs.Common.{◌≡◌, not, get_or}
use lib.IntN.{pos}
use Rattle.state.specs.Good.{is_zero}
use Rattle.state.proofs.Powers.{powers}
use Rattle.state.proofs.good.good_frequencies.Given as goal

abbrev pub invariant-loop-i : goal.invariant-loop-i
invariant-loop-i l = l.filled ≡ powers (λ c. not (is_zero (get_or l.fn.frequencies.values c (pos 0)))) l.i
