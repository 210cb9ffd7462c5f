-- Total gains worked out: dBTG and the gains of three channels, by their patterns.
use Rattle.std.specs.Prelude.{ℕ, Bool, true, false, ◌∷◌, replicate}
use Rattle.std.specs.Float.{binary32}
use Rattle.std.specs.Float.Ieee.{of_bits}
use Rattle.body.specs.declared.groups.GroupGains.{GroupGains}
use Rattle.body.specs.declared.values.LevelHeld.{LevelHeld}
use Rattle.state.specs.declared.sums.GainSums.{GainSums}

abbrev pub total : ℕ → LevelHeld
total p = record { present = true; value = of_bits binary32 p }

abbrev pub three : ℕ → ℕ → ℕ → GroupGains
three a b c = record {
  n = 3;
  values = of_bits binary32 a ∷ of_bits binary32 b ∷ of_bits binary32 c ∷ replicate 13 (of_bits binary32 0);
}

-- sums of the first three channels, each by its flag and its pattern
abbrev pub sums : Bool → ℕ → Bool → ℕ → Bool → ℕ → GainSums
sums p a q b r c = record {
  present = p ∷ q ∷ r ∷ replicate 13 false;
  values = of_bits binary32 a ∷ of_bits binary32 b ∷ of_bits binary32 c ∷ replicate 13 (of_bits binary32 0);
}
