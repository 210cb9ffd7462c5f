-- The bytes of a float32.
use Rattle.std.specs.Prelude.{ℕ, List, Float}
use Rattle.std.specs.Float.{binary32}
use Rattle.std.specs.Float.Ieee.{to_bits}
use Rattle.num.specs.Number.{bytes_of}
use Rattle.num.specs.declared.Order.{Order}

-- those of its pattern; a NaN has one pattern here
abbrev pub float32 : Order → Float → List ℕ
float32 o x = bytes_of o 4 (to_bits binary32 x)
