-- The values that chunks set: how each stands in the state, absent or present.
use Rattle.std.specs.Prelude.{true, false, Float, ℤ, pos}
use Rattle.std.specs.Float.{binary32}
use Rattle.std.specs.Float.Ieee.{of_bits}
use Rattle.body.specs.declared.levels.Level.{Level}
use Rattle.body.specs.declared.levels.Level.TheVariants.{FullScale, TotalGain, FloatFullScale}
use Rattle.body.specs.declared.numbers.Band.{Band}
use Rattle.body.specs.declared.values.Held.{Held}
use Rattle.body.specs.declared.values.BandHeld.{BandHeld}
use Rattle.body.specs.declared.values.LevelHeld.{LevelHeld}

-- an absent value is 0; for a float, the value whose pattern is 0
abbrev pub no_number : Held
no_number = record { present = false; value = pos 0 }

abbrev pub no_band : BandHeld
no_band = record { present = false; width = pos 0; offset = pos 0 }

abbrev pub no_level : LevelHeld
no_level = record { present = false; value = of_bits binary32 0 }

-- a present one is what was read
abbrev pub number : ℤ → Held
number v = record { present = true; value = v }

-- BW__ sets the offset to 0
abbrev pub centred : ℤ → BandHeld
centred v = record { present = true; width = v; offset = pos 0 }

abbrev pub banded : Band → BandHeld
banded b = record { present = true; width = b.width; offset = b.offset }

abbrev pub amount : Level → Float
amount (FullScale x) = x
amount (TotalGain x) = x
amount (FloatFullScale x) = x

abbrev pub levelled : Level → LevelHeld
levelled l = record { present = true; value = amount l }
