-- The test of a state's values in the three parts in which the code asks it, each short enough for a compiler to inline. That the
-- three together are the test of every slot and of the sums is the law `parts-good`.
use Rattle.std.specs.Prelude.{Bool, ◌&&◌, leb}
use Rattle.body.specs.Levels.{is_finite}
use Rattle.body.specs.declared.groups.GroupPacking.{GroupPacking}
use Rattle.body.specs.declared.groups.GroupHertz.{GroupHertz}
use Rattle.body.specs.declared.groups.GroupGains.{GroupGains}
use Rattle.body.specs.declared.values.LevelHeld.{LevelHeld}
use Rattle.state.specs.Good.{is_zero, is_plus_zero, any_number, is_offset, is_no_offset, good_from, good_head, good_numbers}
use Rattle.state.specs.Sums.{agree}
use Rattle.state.specs.declared.sums.GainSums.{GainSums}
use Rattle.state.specs.declared.Values.{Values}

-- the values that are no lists are good, and so is the head of the group packing; each list has up to 16 channels
unfoldable pub good_values : Values → Bool
good_values v =
    good_numbers v
    && good_head v.group
    && leb v.group.n 16
    && leb v.frequencies.n 16
    && leb v.gains.n 16

-- the places of the offsets and of the gains are good, and the sums agree with their parts
unfoldable pub good_lists : GroupPacking → GroupGains → LevelHeld → GainSums → Bool
good_lists g a total sums =
    good_from is_offset is_no_offset g.n 0 g.offsets
    && good_from is_finite is_plus_zero a.n 0 a.values
    && agree total a sums

-- the places of the frequencies are good
unfoldable pub good_hertz : GroupHertz → Bool
good_hertz h = good_from any_number is_zero h.n 0 h.values
