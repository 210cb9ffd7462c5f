-- What a record of each kind is made from: the values, the widths of their types, the body that they make and its size.
use Rattle.std.specs.Prelude.{ℕ, ◌+◌, ◌*◌, ◌≡◌, List, [], ◌++◌, T, Float, ℤ, pos, length, get_or}
use Rattle.std.specs.Float.{binary32}
use Rattle.std.specs.Float.Ieee.{of_bits, fits}
use Rattle.std.specs.Int.{w16, w32, w64}
use Rattle.std.proofs.Common.{SFits, Fits}
use Rattle.num.specs.declared.Order.{Order}
use Rattle.lay.specs.Numbers.{int32, int64}
use Rattle.body.specs.Plain.{padded}
use Rattle.body.specs.declared.groups.GroupPacking.{GroupPacking}
use Rattle.body.specs.declared.groups.GroupHertz.{GroupHertz}
use Rattle.body.specs.declared.groups.GroupGains.{GroupGains}
use Rattle.body.specs.declared.kinds.Kind.{Kind}
use Rattle.body.specs.declared.kinds.Kind.TheVariants.{SSNC, SSNR, SFNC, SFNR, GSNC, GFNC, SIQP, SR, BW, GCBW, BWOF, CF, DBFS, DBTG, FFS, GIQP, GCF, GRG, SOFH, EOFH, IQDC, TEXT, Unknown}
use Rattle.body.specs.declared.numbers.Band.{Band}
use Rattle.writer.specs.Data.{short_body, pattern_body}
use Rattle.typed.specs.Bodies.{float32}
use Rattle.typed.specs.Groups.{at_most, packing_body, hertz_body, gains_body}
use Rattle.typed.specs.Texts.{text_body}

-- a time, and numbers in the order in which they stand
pub record Timed (A : Type 0) : Type 0 where
  pub time : ℤ
  pub numbers : List A

-- the values of a kind; an unknown type has none
abbrev pub Made : Kind → Type 0
Made SSNC = Timed ℤ
Made SSNR = Timed ℤ
Made GSNC = Timed ℤ
Made SFNC = Timed ℕ
Made SFNR = Timed ℕ
Made GFNC = Timed ℕ
Made SIQP = ℤ
Made SR = ℤ
Made BW = ℤ
Made GCBW = ℤ
Made BWOF = Band
Made CF = ℤ
Made DBFS = Float
Made DBTG = Float
Made FFS = Float
Made GIQP = GroupPacking
Made GCF = GroupHertz
Made GRG = GroupGains
Made SOFH = ℤ
Made EOFH = Unit {0}
Made IQDC = Unit {0}
Made TEXT = List ℕ
Made Unknown = ⊥

-- ---- widths

-- the time has 64 bits, and each number 16 or 32
abbrev pub ShortsFit : Timed ℤ → Type 0
ShortsFit v = SFits w64 v.time × ((i : ℕ) → SFits w16 (get_or v.numbers i (pos 0)))

abbrev pub PatternsFit : Timed ℕ → Type 0
PatternsFit v = SFits w64 v.time × ((i : ℕ) → Fits w32 (get_or v.numbers i 0))

-- the values have the width of their types, and a list has sixteen places, as in every value of a program
abbrev pub Fitting : (k : Kind) → Made k → Type 0
Fitting SSNC v = ShortsFit v
Fitting SSNR v = ShortsFit v
Fitting GSNC v = ShortsFit v
Fitting SFNC v = PatternsFit v
Fitting SFNR v = PatternsFit v
Fitting GFNC v = PatternsFit v
Fitting SIQP x = SFits w32 x
Fitting SR x = SFits w64 x
Fitting BW x = SFits w64 x
Fitting GCBW x = SFits w64 x
Fitting BWOF b = SFits w64 b.width × SFits w64 b.offset
Fitting CF x = SFits w64 x
Fitting DBFS x = T (fits binary32 x)
Fitting DBTG x = T (fits binary32 x)
Fitting FFS x = T (fits binary32 x)
Fitting GIQP g = (length g.offsets ≡ 16) × Fits w32 g.increment × ((c : ℕ) → Fits w32 (get_or g.offsets c 0))
Fitting GCF g = (length g.values ≡ 16) × ((c : ℕ) → SFits w64 (get_or g.values c (pos 0)))
Fitting GRG g = (length g.values ≡ 16) × ((c : ℕ) → T (fits binary32 (get_or g.values c (of_bits binary32 0))))
Fitting SOFH x = SFits w32 x
Fitting EOFH v = Unit {0}
Fitting IQDC v = Unit {0}
Fitting TEXT t = Unit {0}
Fitting Unknown v = Unit {0}

-- ---- bodies

-- the body that the values make, as the call of their kind writes it
abbrev pub body_of : (k : Kind) → Order → Made k → List ℕ
body_of SSNC o v = short_body o v.time v.numbers
body_of SSNR o v = short_body o v.time v.numbers
body_of GSNC o v = short_body o v.time v.numbers
body_of SFNC o v = pattern_body o v.time v.numbers
body_of SFNR o v = pattern_body o v.time v.numbers
body_of GFNC o v = pattern_body o v.time v.numbers
body_of SIQP o x = int32 o x
body_of SR o x = int64 o x
body_of BW o x = int64 o x
body_of GCBW o x = int64 o x
body_of BWOF o b = int64 o b.width ++ int64 o b.offset
body_of CF o x = int64 o x
body_of DBFS o x = float32 o x
body_of DBTG o x = float32 o x
body_of FFS o x = float32 o x
body_of GIQP o g = packing_body o g
body_of GCF o g = hertz_body o g
body_of GRG o g = gains_body o g
body_of SOFH o x = int32 o x
body_of EOFH o v = []
body_of IQDC o v = []
body_of TEXT o t = text_body o t
body_of Unknown o v = []

-- its size: a group's values are at most sixteen
abbrev pub size_of : (k : Kind) → Made k → ℕ
size_of SSNC v = 8 + length v.numbers * 2
size_of SSNR v = 8 + length v.numbers * 2
size_of GSNC v = 8 + length v.numbers * 2
size_of SFNC v = 8 + length v.numbers * 4
size_of SFNR v = 8 + length v.numbers * 4
size_of GFNC v = 8 + length v.numbers * 4
size_of SIQP x = 4
size_of SR x = 8
size_of BW x = 8
size_of GCBW x = 8
size_of BWOF b = 16
size_of CF x = 8
size_of DBFS x = 4
size_of DBTG x = 4
size_of FFS x = 4
size_of GIQP g = 12 + 4 * at_most 16 g.n
size_of GCF g = 4 + 8 * at_most 16 g.n
size_of GRG g = 4 + 4 * at_most 16 g.n
size_of SOFH x = 4
size_of EOFH v = 0
size_of IQDC v = 0
size_of TEXT t = 4 + padded (length t)
size_of Unknown v = 0
