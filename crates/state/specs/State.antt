-- The channel state: a value in each slot, the sums that follow from two of them, and the start mark.
use Rattle.std.specs.Prelude.{◌≡◌, Bool}
use Rattle.body.specs.Table.{Slot, packing, rate, band, group_band, centre, full_scale, total_gain, float_scale, group, frequencies, gains, Value, none}
use Rattle.state.specs.Sums.{sums_of}
use Rattle.state.specs.declared.sums.GainSums.{GainSums}
use Rattle.state.specs.declared.Values.{Values}
use Rattle.state.specs.declared.State.{State}

-- the value in a slot
abbrev pub value_in : (x : Slot) → Values → Value x
value_in packing v = v.packing
value_in rate v = v.rate
value_in band v = v.band
value_in group_band v = v.group_band
value_in centre v = v.centre
value_in full_scale v = v.full_scale
value_in total_gain v = v.total_gain
value_in float_scale v = v.float_scale
value_in group v = v.group
value_in frequencies v = v.frequencies
value_in gains v = v.gains

-- values with another value in one slot; dBTG and the gains bring their sums with them
abbrev pub set_in : (x : Slot) → Value x → Values → Values
set_in packing a v = record {
  packing = a;
  rate = v.rate;
  band = v.band;
  group_band = v.group_band;
  centre = v.centre;
  full_scale = v.full_scale;
  total_gain = v.total_gain;
  float_scale = v.float_scale;
  group = v.group;
  frequencies = v.frequencies;
  gains = v.gains;
  sums = v.sums;
}
set_in rate a v = record {
  packing = v.packing;
  rate = a;
  band = v.band;
  group_band = v.group_band;
  centre = v.centre;
  full_scale = v.full_scale;
  total_gain = v.total_gain;
  float_scale = v.float_scale;
  group = v.group;
  frequencies = v.frequencies;
  gains = v.gains;
  sums = v.sums;
}
set_in band a v = record {
  packing = v.packing;
  rate = v.rate;
  band = a;
  group_band = v.group_band;
  centre = v.centre;
  full_scale = v.full_scale;
  total_gain = v.total_gain;
  float_scale = v.float_scale;
  group = v.group;
  frequencies = v.frequencies;
  gains = v.gains;
  sums = v.sums;
}
set_in group_band a v = record {
  packing = v.packing;
  rate = v.rate;
  band = v.band;
  group_band = a;
  centre = v.centre;
  full_scale = v.full_scale;
  total_gain = v.total_gain;
  float_scale = v.float_scale;
  group = v.group;
  frequencies = v.frequencies;
  gains = v.gains;
  sums = v.sums;
}
set_in centre a v = record {
  packing = v.packing;
  rate = v.rate;
  band = v.band;
  group_band = v.group_band;
  centre = a;
  full_scale = v.full_scale;
  total_gain = v.total_gain;
  float_scale = v.float_scale;
  group = v.group;
  frequencies = v.frequencies;
  gains = v.gains;
  sums = v.sums;
}
set_in full_scale a v = record {
  packing = v.packing;
  rate = v.rate;
  band = v.band;
  group_band = v.group_band;
  centre = v.centre;
  full_scale = a;
  total_gain = v.total_gain;
  float_scale = v.float_scale;
  group = v.group;
  frequencies = v.frequencies;
  gains = v.gains;
  sums = v.sums;
}
set_in total_gain a v = record {
  packing = v.packing;
  rate = v.rate;
  band = v.band;
  group_band = v.group_band;
  centre = v.centre;
  full_scale = v.full_scale;
  total_gain = a;
  float_scale = v.float_scale;
  group = v.group;
  frequencies = v.frequencies;
  gains = v.gains;
  sums = sums_of a v.gains;
}
set_in float_scale a v = record {
  packing = v.packing;
  rate = v.rate;
  band = v.band;
  group_band = v.group_band;
  centre = v.centre;
  full_scale = v.full_scale;
  total_gain = v.total_gain;
  float_scale = a;
  group = v.group;
  frequencies = v.frequencies;
  gains = v.gains;
  sums = v.sums;
}
set_in group a v = record {
  packing = v.packing;
  rate = v.rate;
  band = v.band;
  group_band = v.group_band;
  centre = v.centre;
  full_scale = v.full_scale;
  total_gain = v.total_gain;
  float_scale = v.float_scale;
  group = a;
  frequencies = v.frequencies;
  gains = v.gains;
  sums = v.sums;
}
set_in frequencies a v = record {
  packing = v.packing;
  rate = v.rate;
  band = v.band;
  group_band = v.group_band;
  centre = v.centre;
  full_scale = v.full_scale;
  total_gain = v.total_gain;
  float_scale = v.float_scale;
  group = v.group;
  frequencies = a;
  gains = v.gains;
  sums = v.sums;
}
set_in gains a v = record {
  packing = v.packing;
  rate = v.rate;
  band = v.band;
  group_band = v.group_band;
  centre = v.centre;
  full_scale = v.full_scale;
  total_gain = v.total_gain;
  float_scale = v.float_scale;
  group = v.group;
  frequencies = v.frequencies;
  gains = a;
  sums = sums_of v.total_gain a;
}

-- values given slot by slot, with the sums that follow
abbrev pub built : ((x : Slot) → Value x) → Values
built f = record {
  packing = f packing;
  rate = f rate;
  band = f band;
  group_band = f group_band;
  centre = f centre;
  full_scale = f full_scale;
  total_gain = f total_gain;
  float_scale = f float_scale;
  group = f group;
  frequencies = f frequencies;
  gains = f gains;
  sums = sums_of (f total_gain) (f gains);
}

-- values with other sums
abbrev pub with_sums : Values → GainSums → Values
with_sums v s = record {
  packing = v.packing;
  rate = v.rate;
  band = v.band;
  group_band = v.group_band;
  centre = v.centre;
  full_scale = v.full_scale;
  total_gain = v.total_gain;
  float_scale = v.float_scale;
  group = v.group;
  frequencies = v.frequencies;
  gains = v.gains;
  sums = s;
}

-- the sums are those of their parts
abbrev pub Summed : Values → Type 0
Summed v = v.sums ≡ sums_of v.total_gain v.gains

-- no value is present
abbrev pub emptied : Bool → State
emptied mark = record { values = built none; mark = mark }

-- a state with other values, or with another mark
abbrev pub with_values : State → Values → State
with_values s v = record { values = v; mark = s.mark }

abbrev pub with_mark : State → Bool → State
with_mark s m = record { values = s.values; mark = m }
