-- The level kinds: dBFS, dBTG, FFS_.
use Rattle.std.specs.Prelude.{ℕ, Bool, true, false, List, Float}
use Rattle.std.specs.Float.{nan, inf, fin, binary32}
use Rattle.std.specs.Float.Ieee.{of_bits, lt}
use Rattle.num.specs.Answer.{Answer, gives, then}
use Rattle.num.specs.Number.{unsigned_at}
use Rattle.num.specs.declared.Order.{Order}
use Rattle.body.specs.Check.{sized, allowed}
use Rattle.body.specs.declared.levels.Level.{Level}
use Rattle.body.specs.declared.levels.Level.TheVariants.{FullScale, TotalGain, FloatFullScale}

-- the float32 at a place of a body
abbrev pub float32 : Order → List ℕ → ℕ → Float
float32 o body at = of_bits binary32 (unsigned_at 4 o body at)

-- no NaN and no infinity
abbrev pub is_finite : Float → Bool
is_finite nan = false
is_finite (inf s) = false
is_finite (fin s m e) = true

-- a body of one finite float32
abbrev pub finite32 : Order → List ℕ → Answer Float
finite32 o body = sized 4 body (allowed (is_finite (float32 o body 0)) (float32 o body 0))

-- dBFS and dBTG: finite
abbrev pub dbfs : Order → List ℕ → Answer Level
dbfs o body = then (finite32 o body) (λ x. gives (FullScale x))

abbrev pub dbtg : Order → List ℕ → Answer Level
dbtg o body = then (finite32 o body) (λ x. gives (TotalGain x))

-- FFS_: finite and above 0, which neither zero is
abbrev pub ffs : Order → List ℕ → Answer Level
ffs o body = then (finite32 o body) (λ x. allowed (lt (of_bits binary32 0) x) (FloatFullScale x))
