-- After i turns the first i channels have their sums; the others are left without.
use Rattle.std.proofs.Common.{◌≡◌, false, get_or}
use lib.Ieee.{nan, binary32, of_bits, add}
use Rattle.num.specs.Choice.{pick}
use Rattle.body.specs.Levels.{is_finite}
use Rattle.body.specs.Lists.{sixteen}
use Rattle.state.proofs.sums.sums_of.Given as goal

abbrev pub invariant-loop-i : goal.invariant-loop-i
invariant-loop-i l = record {
  flags : l.present ≡ sixteen (λ c. is_finite (add binary32 l.fn.total.value (get_or l.fn.gains.values c nan))) false l.i;
  sums : l.values
      ≡ sixteen
      (λ c. pick (is_finite (add binary32 l.fn.total.value (get_or l.fn.gains.values c nan))) (add binary32 l.fn.total.value (get_or l.fn.gains.values c nan)) (of_bits binary32 0))
      (of_bits binary32 0)
      l.i;
}
