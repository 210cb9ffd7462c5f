-- When values are read back from a body as they were given.
use Rattle.std.specs.Prelude.{ℕ, ◌<◌, ◌≡◌, List, ℤ, pos, length, take, drop, get_or}
use Rattle.num.specs.Answer.{gives}
use Rattle.num.specs.declared.Order.{Order}
use Rattle.body.specs.declared.kinds.Kind.{Kind}
use Rattle.body.specs.declared.kinds.Kind.TheVariants.{SSNC, SSNR, SFNC, SFNR, GSNC, GFNC, SIQP, SR, BW, GCBW, BWOF, CF, DBFS, DBTG, FFS, GIQP, GCF, GRG, SOFH, EOFH, IQDC, TEXT, Unknown}
use Rattle.copy.specs.Samples.{short_at, pattern_at}
use Rattle.values.specs.Made.{Timed, Made}
use Rattle.values.specs.Says.{reading, as_read}

-- behind the time stand the numbers, each as it was given
abbrev pub ShortsBehind : Order → List ℕ → Timed ℤ → Type 0
ShortsBehind o body v = (i : ℕ) → i < length v.numbers → short_at o (drop 8 body) i ≡ get_or v.numbers i (pos 0)

abbrev pub PatternsBehind : Order → List ℕ → Timed ℕ → Type 0
PatternsBehind o body v = (i : ℕ) → i < length v.numbers → pattern_at o (drop 8 body) i ≡ get_or v.numbers i 0

-- what stands in a body beside what its reading gives: the bytes of a text, the numbers of samples
abbrev pub Behind : (k : Kind) → Order → List ℕ → Made k → Type 0
Behind SSNC o body v = ShortsBehind o body v
Behind SSNR o body v = ShortsBehind o body v
Behind GSNC o body v = ShortsBehind o body v
Behind SFNC o body v = PatternsBehind o body v
Behind SFNR o body v = PatternsBehind o body v
Behind GFNC o body v = PatternsBehind o body v
Behind SIQP o body x = Unit {0}
Behind SR o body x = Unit {0}
Behind BW o body x = Unit {0}
Behind GCBW o body x = Unit {0}
Behind BWOF o body b = Unit {0}
Behind CF o body x = Unit {0}
Behind DBFS o body x = Unit {0}
Behind DBTG o body x = Unit {0}
Behind FFS o body x = Unit {0}
Behind GIQP o body g = Unit {0}
Behind GCF o body g = Unit {0}
Behind GRG o body g = Unit {0}
Behind SOFH o body x = Unit {0}
Behind EOFH o body v = Unit {0}
Behind IQDC o body v = Unit {0}
Behind TEXT o body t = take (length t) (drop 4 body) ≡ t
Behind Unknown o body v = Unit {0}

-- a body is read back as the values: its reading gives them, and what stands beside that is theirs too
pub record Back (k : Kind) (o : Order) (body : List ℕ) (v : Made k) : Type 0 where
  pub given : reading k o body ≡ gives (as_read k v)
  pub behind : Behind k o body v
