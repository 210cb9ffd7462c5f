-- Why a stretch was skipped: how the reader came to the place where it begins, and what stands there.
use Rattle.std.specs.Prelude.{Bool, true, false}
use Rattle.frame.specs.declared.BadSize.TheVariants.{Large, Uneven}
use Rattle.frame.specs.declared.Stray.{Stray}
use Rattle.frame.specs.declared.Stray.TheVariants.{NoSync, Bad}
use Rattle.reader.specs.declared.Cause.{Cause}

-- a reader that comes searching says so, whatever stands there; one in step says what it met
abbrev pub cause_of : Bool → Stray → Cause
cause_of false stray = Cause.Searching
cause_of true NoSync = Cause.NoSync
cause_of true (Bad Large) = Cause.Large
cause_of true (Bad Uneven) = Cause.Uneven
