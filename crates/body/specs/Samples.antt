-- The data kinds: a time, then samples.
use Rattle.std.specs.Prelude.{ℕ, ◌-◌, ◌/◌, ◌%◌, List, eqb, leb, length}
use Rattle.num.specs.Answer.{Answer, gives, refuses}
use Rattle.num.specs.Choice.{pick, both}
use Rattle.num.specs.declared.Order.{Order}
use Rattle.body.specs.Check.{int64}
use Rattle.body.specs.declared.sampled.Data.{Data}
use Rattle.body.specs.declared.sampled.Shape.{Shape}
use Rattle.body.specs.declared.sampled.Shape.TheVariants.{ShortPairs, ShortReals, ShortGroup, FloatPairs, FloatReals, FloatGroup}

-- number 11 unless the body has an int64 time, of 8 bytes, and then whole samples of so many bytes each, or none
abbrev pub timed_samples : ℕ → Order → List ℕ → Answer Data
timed_samples width o body =
    pick (both (leb 8 (length body)) (eqb ((length body - 8) % width) 0))
    (gives (record { time = int64 o body 0; samples = (length body - 8) / width }))
    (refuses 11)

-- pairs of int16, reals of int16, pairs of float32, reals of float32; groups have pairs
abbrev pub ssnc : Order → List ℕ → Answer Data
ssnc = timed_samples 4

abbrev pub ssnr : Order → List ℕ → Answer Data
ssnr = timed_samples 2

abbrev pub sfnc : Order → List ℕ → Answer Data
sfnc = timed_samples 8

abbrev pub sfnr : Order → List ℕ → Answer Data
sfnr = timed_samples 4

abbrev pub gsnc : Order → List ℕ → Answer Data
gsnc = timed_samples 4

abbrev pub gfnc : Order → List ℕ → Answer Data
gfnc = timed_samples 8

-- the bytes of a sample, by its shape
abbrev pub sample_bytes : Shape → ℕ
sample_bytes ShortPairs = 4
sample_bytes ShortReals = 2
sample_bytes ShortGroup = 4
sample_bytes FloatPairs = 8
sample_bytes FloatReals = 4
sample_bytes FloatGroup = 8

-- a data body, by the shape of its samples
abbrev pub data_of : Shape → Order → List ℕ → Answer Data
data_of shape = timed_samples (sample_bytes shape)
