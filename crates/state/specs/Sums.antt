-- The total gain of each group channel: dBTG and the channel's gain, added.
use Rattle.std.specs.Prelude.{ℕ, Bool, false, eqb, ltb, Float, get_or, replicate}
use Rattle.std.specs.Bool.{beq}
use Rattle.std.specs.Float.{nan, binary32}
use Rattle.std.specs.Float.Ieee.{of_bits, to_bits, add}
use Rattle.num.specs.Choice.{pick, both, each}
use Rattle.body.specs.Levels.{is_finite}
use Rattle.body.specs.Lists.{sixteen}
use Rattle.body.specs.declared.groups.GroupGains.{GroupGains}
use Rattle.body.specs.declared.values.LevelHeld.{LevelHeld}
use Rattle.state.specs.declared.sums.GainSums.{GainSums}

-- how many channels have both parts: those with a gain, and none where dBTG is absent
abbrev pub both_parts : LevelHeld → GroupGains → ℕ
both_parts total gains = pick total.present gains.n 0

-- the sum of a channel: one addition, rounded once
abbrev pub sum_at : LevelHeld → GroupGains → ℕ → Float
sum_at total gains c = add binary32 total.value (get_or gains.values c nan)

-- it is present where both parts are and it is finite
abbrev pub has_sum : LevelHeld → GroupGains → ℕ → Bool
has_sum total gains c = both (ltb c (both_parts total gains)) (is_finite (sum_at total gains c))

-- an absent one is the float whose pattern is 0
abbrev pub held_sum : LevelHeld → GroupGains → ℕ → Float
held_sum total gains c = pick (has_sum total gains c) (sum_at total gains c) (of_bits binary32 0)

-- the sums of all sixteen channels, from dBTG and the gains
abbrev pub sums_of : LevelHeld → GroupGains → GainSums
sums_of total gains = record {
  present = sixteen (has_sum total gains) false 16;
  values = sixteen (held_sum total gains) (of_bits binary32 0) 16;
}

-- none is present
abbrev pub no_sums : GainSums
no_sums = record { present = replicate 16 false; values = replicate 16 (of_bits binary32 0) }

-- sums that agree with their parts in every bit: for each channel whether it is present, and its pattern
abbrev pub agrees_at : LevelHeld → GroupGains → GainSums → ℕ → Bool
agrees_at total gains s c =
    both (beq (get_or s.present c false) (has_sum total gains c))
    (eqb (to_bits binary32 (get_or s.values c nan)) (to_bits binary32 (held_sum total gains c)))

abbrev pub agree : LevelHeld → GroupGains → GainSums → Bool
agree total gains s = each (agrees_at total gains s) 16
