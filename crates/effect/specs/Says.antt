-- What the reader says of a chunk that it accepts.
use Rattle.std.specs.Prelude.{ℕ, ℤ}
use Rattle.num.specs.Answer.{Answer, gives, refuses}
use Rattle.body.specs.Fault.{fault_number}
use Rattle.body.specs.declared.sampled.Data.{Data}
use Rattle.effect.specs.declared.Lack.{Lack}
use Rattle.effect.specs.declared.Lack.TheVariants.{Packing, Rate, Scale}
use Rattle.effect.specs.declared.Verdict.{Verdict}
use Rattle.effect.specs.declared.Verdict.TheVariants.{Good, Unknown, Malformed, NotCovered, Waits, Ready}

pub data Says : Type 0 where
  -- well-formed, and no data
  ok : Says
  -- of a type that no kind has
  unknown : Says
  -- malformed, by its number
  bad : ℕ → Says
  -- data that waits, by the number of what it lacks, with its time
  waits : ℕ → ℤ → Says
  -- data that is ready, with its time and the count of its samples
  ready : Data → Says

-- the number of what is said, 0 where nothing is wrong or lacking
abbrev pub says_number : Says → ℕ
says_number ok = 0
says_number unknown = 0
says_number (bad n) = n
says_number (waits n t) = n
says_number (ready d) = 0

-- the number of each lack
abbrev pub lack_number : Lack → ℕ
lack_number Packing = 21
lack_number Rate = 22
lack_number Scale = 23

-- what each case of a verdict says
abbrev pub verdict_said : Verdict → Says
verdict_said Good = ok
verdict_said Unknown = unknown
verdict_said (Malformed f) = bad (fault_number f)
verdict_said NotCovered = bad 16
verdict_said (Waits l t) = waits (lack_number l) t
verdict_said (Ready d) = ready d

-- what is said of a chunk that is no data
abbrev pub judged : {A : Type 0} → Answer A → Says
judged (gives a) = ok
judged (refuses n) = bad n
