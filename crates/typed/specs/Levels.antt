-- A level's kind.
use Rattle.std.specs.Prelude.{ℕ}
use Rattle.body.specs.Kind.{code_of}
use Rattle.body.specs.declared.kinds.Kind.TheVariants.{DBFS, DBTG, FFS}
use Rattle.body.specs.declared.levels.Level.{Level}
use Rattle.body.specs.declared.levels.Level.TheVariants.{FullScale, TotalGain, FloatFullScale}

abbrev pub level_code : Level → ℕ
level_code (FullScale x) = code_of DBFS
level_code (TotalGain x) = code_of DBTG
level_code (FloatFullScale x) = code_of FFS
