-- The body table over values: what each row allows, with what number it refuses the others, and as what the values are
-- read.
use Rattle.std.specs.Prelude.{ℕ, ◌/◌, ◌%◌, ◌^◌, Bool, List, eqb, leb, ltb, pos, length, get_or}
use Rattle.std.specs.Float.{binary32}
use Rattle.std.specs.Float.Ieee.{of_bits}
use Rattle.std.specs.Int.Signed.{le_z}
use Rattle.num.specs.Answer.{Answer, gives, refuses, then}
use Rattle.num.specs.Choice.{pick, both, either, each}
use Rattle.num.specs.declared.Order.{Order}
use Rattle.text.specs.Utf8.{is_utf8}
use Rattle.body.specs.Levels.{is_finite}
use Rattle.body.specs.Lists.{sixteen}
use Rattle.body.specs.Samples.{data_of}
use Rattle.body.specs.Table.{Row, sets, marks, leaves, samples, unknown, row}
use Rattle.body.specs.declared.groups.GroupPacking.{GroupPacking}
use Rattle.body.specs.declared.groups.GroupHertz.{GroupHertz}
use Rattle.body.specs.declared.groups.GroupGains.{GroupGains}
use Rattle.body.specs.declared.kinds.Kind.{Kind}
use Rattle.body.specs.declared.kinds.Kind.TheVariants.{SSNC, SSNR, SFNC, SFNR, GSNC, GFNC, SIQP, SR, BW, GCBW, BWOF, CF, DBFS, DBTG, FFS, GIQP, GCF, GRG, SOFH, EOFH, IQDC, TEXT, Unknown}
use Rattle.body.specs.declared.levels.Level.TheVariants.{FullScale, TotalGain, FloatFullScale}
use Rattle.body.specs.declared.sampled.Data.{Data}
use Rattle.state.specs.Good.{zero_or_one, is_scale, is_offset}
use Rattle.writer.specs.Write.{may_by}
use Rattle.values.specs.Made.{Timed, Made, size_of}

-- ---- what a row allows

-- refused with the number unless the values are allowed
abbrev pub unless : ℕ → Bool → Answer (Unit {0})
unless number ok = pick ok (gives tt) (refuses number)

-- number 13 unless there are 1 to 16 channels
abbrev pub counted : ℕ → Answer (Unit {0}) → Answer (Unit {0})
counted n a = pick (both (leb 1 n) (leb n 16)) a (refuses 13)

-- the increment is 1 or n, and each of n offsets is below 2^31
abbrev pub packing_ok : GroupPacking → Bool
packing_ok g =
    both (either (eqb g.increment 1) (eqb g.increment g.n))
    (each (λ c. is_offset (get_or g.offsets c 0)) g.n)

-- each of n gains is finite
abbrev pub gains_finite : GroupGains → Bool
gains_finite g = each (λ c. is_finite (get_or g.values c (of_bits binary32 0))) g.n

-- so many numbers make whole samples, of `per` numbers each
abbrev pub whole : {A : Type 0} → ℕ → Timed A → Answer (Unit {0})
whole per v = unless 11 (eqb (length v.numbers % per) 0)

-- the verdict of a kind's row on its values; a text of 2^31 bytes or more has no length that an int32 can hold
abbrev pub judged : (k : Kind) → Made k → Answer (Unit {0})
judged SSNC v = whole 2 v
judged SSNR v = whole 1 v
judged GSNC v = whole 2 v
judged SFNC v = whole 2 v
judged SFNR v = whole 1 v
judged GFNC v = whole 2 v
judged SIQP x = unless 12 (zero_or_one x)
judged SR x = unless 12 (le_z (pos 1) x)
judged BW x = unless 12 (le_z (pos 0) x)
judged GCBW x = unless 12 (le_z (pos 0) x)
judged BWOF b = unless 12 (le_z (pos 0) b.width)
judged CF x = gives tt
judged DBFS x = unless 12 (is_finite x)
judged DBTG x = unless 12 (is_finite x)
judged FFS x = unless 12 (is_scale x)
judged GIQP g = counted g.n (unless 12 (packing_ok g))
judged GCF g = counted g.n (gives tt)
judged GRG g = counted g.n (unless 12 (gains_finite g))
judged SOFH x = gives tt
judged EOFH v = gives tt
judged IQDC v = gives tt
judged TEXT t = pick (ltb (length t) (2 ^ 31)) (unless 15 (is_utf8 t)) (refuses 11)
judged Unknown v = gives tt

-- A record of the values may be written, or the number with which it is refused: 32 where its size is not good, then
-- what the row says.
abbrev pub may : (k : Kind) → Made k → Answer (Unit {0})
may k v = may_by (judged k v) (size_of k v)

-- ---- as what values are read

-- a list's places from n on are read as 0, whatever stands there
abbrev pub used_packing : GroupPacking → GroupPacking
used_packing g = record {
  n = g.n;
  iq = g.iq;
  increment = g.increment;
  offsets = sixteen (λ c. get_or g.offsets c 0) 0 g.n;
}

abbrev pub used_hertz : GroupHertz → GroupHertz
used_hertz g = record { n = g.n; values = sixteen (λ c. get_or g.values c (pos 0)) (pos 0) g.n }

abbrev pub used_gains : GroupGains → GroupGains
used_gains g = record {
  n = g.n;
  values = sixteen (λ c. get_or g.values c (of_bits binary32 0)) (of_bits binary32 0) g.n;
}

-- the time, and the count of samples, of `per` numbers each
abbrev pub timed_as : {A : Type 0} → ℕ → Timed A → Data
timed_as per v = record { time = v.time; samples = length v.numbers / per }

-- what reading a body gives, by the row of its kind, and the reading
abbrev pub GivenBy : Row → Type 0
GivenBy (sets {A = A} x hold read) = A
GivenBy (marks {A = A} read) = A
GivenBy (leaves {A = A} read) = A
GivenBy (samples shape) = Data
GivenBy unknown = Unit {0}

abbrev pub read_by : (r : Row) → Order → List ℕ → Answer (GivenBy r)
read_by (sets x hold read) o body = read o body
read_by (marks read) o body = read o body
read_by (leaves read) o body = read o body
read_by (samples shape) o body = data_of shape o body
read_by unknown o body = gives tt

abbrev pub Given : Kind → Type 0
Given k = GivenBy (row k)

abbrev pub reading : (k : Kind) → Order → List ℕ → Answer (Given k)
reading k = read_by (row k)

-- the values as they are read: of a text its length
abbrev pub as_read : (k : Kind) → Made k → Given k
as_read SSNC v = timed_as 2 v
as_read SSNR v = timed_as 1 v
as_read GSNC v = timed_as 2 v
as_read SFNC v = timed_as 2 v
as_read SFNR v = timed_as 1 v
as_read GFNC v = timed_as 2 v
as_read SIQP x = x
as_read SR x = x
as_read BW x = x
as_read GCBW x = x
as_read BWOF b = b
as_read CF x = x
as_read DBFS x = FullScale x
as_read DBTG x = TotalGain x
as_read FFS x = FloatFullScale x
as_read GIQP g = used_packing g
as_read GCF g = used_hertz g
as_read GRG g = used_gains g
as_read SOFH x = x
as_read EOFH v = tt
as_read IQDC v = tt
as_read TEXT t = length t
as_read Unknown v = tt

-- what the row says of the values: they are given as they are read, or refused with its number
abbrev pub says : (k : Kind) → Made k → Answer (Given k)
says k v = then (judged k v) (λ _. gives (as_read k v))
