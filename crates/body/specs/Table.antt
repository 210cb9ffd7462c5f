-- The table of kinds: for each kind how its body is read, and what it does to the state. Whatever differs by kind
-- follows from its row.
use Rattle.std.specs.Prelude.{ℕ, Bool, false, List, eqb, Option, Some, None}
use Rattle.num.specs.Answer.{Answer}
use Rattle.num.specs.declared.Order.{Order}
use Rattle.body.specs.Numbers.{siqp, sofh, sr, bw, cf, bwof}
use Rattle.body.specs.Levels.{dbfs, dbtg, ffs}
use Rattle.body.specs.Groups.{no_packing, no_hertz, no_gains, giqp, gcf, grg}
use Rattle.body.specs.Plain.{empty, text}
use Rattle.body.specs.Values.{no_number, no_band, no_level, number, centred, banded, levelled}
use Rattle.body.specs.declared.sampled.Shape.{Shape}
use Rattle.body.specs.declared.sampled.Shape.TheVariants.{ShortPairs, ShortReals, ShortGroup, FloatPairs, FloatReals, FloatGroup}
use Rattle.body.specs.declared.groups.GroupPacking.{GroupPacking}
use Rattle.body.specs.declared.groups.GroupHertz.{GroupHertz}
use Rattle.body.specs.declared.groups.GroupGains.{GroupGains}
use Rattle.body.specs.declared.kinds.Kind.{Kind}
use Rattle.body.specs.declared.kinds.Kind.TheVariants.{SSNC, SSNR, SFNC, SFNR, GSNC, GFNC, SIQP, SR, BW, GCBW, BWOF, CF, DBFS, DBTG, FFS, GIQP, GCF, GRG, SOFH, EOFH, IQDC, TEXT, Unknown}
use Rattle.body.specs.declared.values.Held.{Held}
use Rattle.body.specs.declared.values.BandHeld.{BandHeld}
use Rattle.body.specs.declared.values.LevelHeld.{LevelHeld}

-- a slot for each value of the state
pub data Slot : Type 0 where
  packing : Slot
  rate : Slot
  band : Slot
  group_band : Slot
  centre : Slot
  full_scale : Slot
  total_gain : Slot
  float_scale : Slot
  group : Slot
  frequencies : Slot
  gains : Slot

-- what it holds
abbrev pub Value : Slot → Type 0
Value packing = Held
Value rate = Held
Value band = BandHeld
Value group_band = Held
Value centre = Held
Value full_scale = LevelHeld
Value total_gain = LevelHeld
Value float_scale = LevelHeld
Value group = GroupPacking
Value frequencies = GroupHertz
Value gains = GroupGains

-- and what stands there where the value is absent
abbrev pub none : (x : Slot) → Value x
none packing = no_number
none rate = no_number
none band = no_band
none group_band = no_number
none centre = no_number
none full_scale = no_level
none total_gain = no_level
none float_scale = no_level
none group = no_packing
none frequencies = no_hertz
none gains = no_gains

-- the number of a slot, and whether two slots are one
abbrev pub slot_number : Slot → ℕ
slot_number packing = 0
slot_number rate = 1
slot_number band = 2
slot_number group_band = 3
slot_number centre = 4
slot_number full_scale = 5
slot_number total_gain = 6
slot_number float_scale = 7
slot_number group = 8
slot_number frequencies = 9
slot_number gains = 10

abbrev pub is_slot : Slot → Slot → Bool
is_slot y x = eqb (slot_number y) (slot_number x)

pub data Row : Type 1 where
  -- sets a value, or removes it where it is malformed: its slot, how the slot holds what was read, and how a body is
  -- read
  sets : {A : Type 0} (x : Slot) → (A → Value x) → (Order → List ℕ → Answer A) → Row
  -- sets the start mark where it is well-formed
  marks : {A : Type 0} → (Order → List ℕ → Answer A) → Row
  -- changes nothing
  leaves : {A : Type 0} → (Order → List ℕ → Answer A) → Row
  -- samples of a shape
  samples : Shape → Row
  -- a type that no kind has
  unknown : Row

abbrev pub row : Kind → Row
row SSNC = samples ShortPairs
row SSNR = samples ShortReals
row SFNC = samples FloatPairs
row SFNR = samples FloatReals
row GSNC = samples ShortGroup
row GFNC = samples FloatGroup
row SIQP = sets packing number siqp
row SR = sets rate number sr
row BW = sets band centred bw
row GCBW = sets group_band number bw
row BWOF = sets band banded bwof
row CF = sets centre number cf
row DBFS = sets full_scale levelled dbfs
row DBTG = sets total_gain levelled dbtg
row FFS = sets float_scale levelled ffs
row GIQP = sets group (λ g. g) giqp
row GCF = sets frequencies (λ g. g) gcf
row GRG = sets gains (λ g. g) grg
row SOFH = leaves sofh
row EOFH = leaves (λ o. empty)
row IQDC = marks (λ o. empty)
row TEXT = leaves text
row Unknown = unknown

-- the slot that a kind sets, if it sets one
abbrev pub sets_by : Row → Slot → Bool
sets_by (sets y hold read) x = is_slot y x
sets_by (marks read) x = false
sets_by (leaves read) x = false
sets_by (samples shape) x = false
sets_by unknown x = false

unfoldable pub set_by : Kind → Slot → Bool
set_by k = sets_by (row k)

-- what the samples of a kind are, if it is a data kind
abbrev pub shaped_by : Row → Option Shape
shaped_by (sets x hold read) = None
shaped_by (marks read) = None
shaped_by (leaves read) = None
shaped_by (samples shape) = Some shape
shaped_by unknown = None

unfoldable pub shaped : Kind → Option Shape
shaped k = shaped_by (row k)
