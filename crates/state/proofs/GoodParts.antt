-- The three parts in which the code asks the test of a state's values are together the test of every slot and of the sums.
use mathlib.Core.Path.{◌≡◌, refl}
use mathlib.Core.Bool.{Bool, true, false, ◌&&◌}
use lib.Dec.{leb}
use Rattle.body.specs.Levels.{is_finite}
use Rattle.state.specs.Good.{is_zero, is_plus_zero, any_number, is_offset, is_no_offset, good_from, good_head, good_numbers, good_held}
use Rattle.state.specs.Sums.{agree}
use Rattle.state.specs.GoodParts.{good_values, good_lists, good_hertz}
use Rattle.state.specs.declared.Values.{Values}

-- On the left is the order of the code: the numbers, the head of the group packing and the counts of the three lists; then the places
-- of the offsets and of the gains, and the sums; then the places of the frequencies. On the right each list stands with its count.
in-order : (numbers head offset-count frequency-count gain-count offsets gains sums frequencies : Bool) →
    ((numbers && head && offset-count && frequency-count && gain-count) && (offsets && gains && sums) && frequencies)
    ≡ (numbers && (head && (offset-count && offsets)) && (frequency-count && frequencies) && (gain-count && gains) && sums)
in-order false h o f g p q s r = refl
in-order true false o f g p q s r = refl
in-order true true false f g p q s r = refl
in-order true true true false g false q s r = refl
in-order true true true false g true q s r = refl
in-order true true true true false false q s r = refl
in-order true true true true false true q s false = refl
in-order true true true true false true q s true = refl
in-order true true true true true false q s r = refl
in-order true true true true true true false s false = refl
in-order true true true true true true false s true = refl
in-order true true true true true true true false false = refl
in-order true true true true true true true false true = refl
in-order true true true true true true true true false = refl
in-order true true true true true true true true true = refl

pub parts-good : (v : Values) → (good_values v && good_lists v.group v.gains v.total_gain v.sums && good_hertz v.frequencies) ≡ good_held v
unfolding good_values good_lists good_hertz good_held
parts-good v =
    in-order
    (good_numbers v)
    (good_head v.group)
    (leb v.group.n 16)
    (leb v.frequencies.n 16)
    (leb v.gains.n 16)
    (good_from is_offset is_no_offset v.group.n 0 v.group.offsets)
    (good_from is_finite is_plus_zero v.gains.n 0 v.gains.values)
    (agree v.total_gain v.gains v.sums)
    (good_from any_number is_zero v.frequencies.n 0 v.frequencies.values)
