-- Which states are good: every present value is one that the body table allows, every absent value and every list place
-- that is not used is 0, and the sums agree with their parts. A state that is not good is refused with number 3 where its
-- cursor is in step.
use Rattle.std.specs.Prelude.{ℕ, zero, suc, ◌^◌, Bool, true, false, not, ◌&&◌, List, [], ◌∷◌, eqb, ltb, leb, Float, ℤ, pos, negsuc}
use Rattle.std.specs.Float.{nan, inf, fin, binary32}
use Rattle.std.specs.Float.Ieee.{of_bits, lt}
use Rattle.std.specs.Int.Signed.{le_z}
use Rattle.num.specs.Choice.{pick, both, either}
use Rattle.body.specs.Levels.{is_finite}
use Rattle.body.specs.Table.{Slot, packing, rate, band, group_band, centre, full_scale, total_gain, float_scale, group, frequencies, gains, Value}
use Rattle.body.specs.declared.groups.GroupPacking.{GroupPacking}
use Rattle.body.specs.declared.groups.GroupHertz.{GroupHertz}
use Rattle.body.specs.declared.groups.GroupGains.{GroupGains}
use Rattle.body.specs.declared.values.Held.{Held}
use Rattle.body.specs.declared.values.BandHeld.{BandHeld}
use Rattle.body.specs.declared.values.LevelHeld.{LevelHeld}
use Rattle.state.specs.Sums.{agree}
use Rattle.state.specs.declared.Values.{Values}
use Rattle.state.specs.declared.State.{State}

-- the integer is 0
abbrev pub is_zero : ℤ → Bool
is_zero (pos n) = eqb n 0
is_zero (negsuc n) = false

-- the float is the one whose pattern is 0, which -0 is not
abbrev pub is_plus_zero : Float → Bool
is_plus_zero nan = false
is_plus_zero (inf s) = false
is_plus_zero (fin true m e) = false
is_plus_zero (fin false zero e) = true
is_plus_zero (fin false (suc m) e) = false

-- a number that is absent and 0, or present and allowed
abbrev pub good_number : (ℤ → Bool) → Held → Bool
good_number ok h = pick h.present (ok h.value) (is_zero h.value)

-- a bandwidth of at least 0 with any offset, or both absent
abbrev pub good_band : BandHeld → Bool
good_band b = pick b.present (le_z (pos 0) b.width) (both (is_zero b.width) (is_zero b.offset))

abbrev pub good_level : (Float → Bool) → LevelHeld → Bool
good_level ok x = pick x.present (ok x.value) (is_plus_zero x.value)

-- the values that the kinds allow
abbrev pub zero_or_one : ℤ → Bool
zero_or_one z = both (le_z (pos 0) z) (le_z z (pos 1))

abbrev pub any_number : ℤ → Bool
any_number z = true

abbrev pub is_scale : Float → Bool
is_scale x = both (is_finite x) (lt (of_bits binary32 0) x)

-- from place i of a list on, a place below n is used and holds what is allowed, and the others hold what stands for
-- nothing
unfoldable pub good_from : {A : Type 0} → (A → Bool) → (A → Bool) → ℕ → ℕ → List A → Bool
good_from ok none n i [] = true
good_from ok none n i (x ∷ l) = both (pick (ltb i n) (ok x) (none x)) (good_from ok none n (suc i) l)

-- up to 16 channels, of which there are none where the list is absent
abbrev pub good_list : {A : Type 0} → (A → Bool) → (A → Bool) → ℕ → List A → Bool
good_list ok none n l = both (leb n 16) (good_from ok none n 0 l)

-- an offset is an int32 of at least 0
abbrev pub is_offset : ℕ → Bool
is_offset x = ltb x (2 ^ 31)

abbrev pub is_no_offset : ℕ → Bool
is_no_offset x = eqb x 0

-- where there are channels, the increment is 1 or n; where there are none, it is 0 and the packing too
abbrev pub good_head : GroupPacking → Bool
good_head g =
    pick (eqb g.n 0)
    (both (eqb g.increment 0) (not g.iq))
    (either (eqb g.increment 1) (eqb g.increment g.n))

abbrev pub good_group : GroupPacking → Bool
good_group g = both (good_head g) (good_list is_offset is_no_offset g.n g.offsets)

abbrev pub good_frequencies : GroupHertz → Bool
good_frequencies g = good_list any_number is_zero g.n g.values

abbrev pub good_gains : GroupGains → Bool
good_gains g = good_list is_finite is_plus_zero g.n g.values

-- what a slot may hold: what a well-formed chunk sets there, or what stands for its absence
abbrev pub good_in : (x : Slot) → Value x → Bool
good_in packing h = good_number zero_or_one h
good_in rate h = good_number (le_z (pos 1)) h
good_in band b = good_band b
good_in group_band h = good_number (le_z (pos 0)) h
good_in centre h = good_number any_number h
good_in full_scale x = good_level is_finite x
good_in total_gain x = good_level is_finite x
good_in float_scale x = good_level is_scale x
good_in group g = good_group g
good_in frequencies g = good_frequencies g
good_in gains g = good_gains g

-- every slot that has no list holds what it may
unfoldable pub good_numbers : Values → Bool
good_numbers v =
    good_in packing v.packing
    && good_in rate v.rate
    && good_in band v.band
    && good_in group_band v.group_band
    && good_in centre v.centre
    && good_in full_scale v.full_scale
    && good_in total_gain v.total_gain
    && good_in float_scale v.float_scale

-- every slot holds what it may, and the sums agree with their parts
unfoldable pub good_held : Values → Bool
good_held v =
    good_numbers v
    && good_in group v.group
    && good_in frequencies v.frequencies
    && good_in gains v.gains
    && agree v.total_gain v.gains v.sums

-- a state is good by its values; the mark may be set or not
abbrev pub good_state : State → Bool
good_state s = good_held s.values
