-- Where the numbers of a channel lie in a ready data chunk.
use Rattle.std.specs.Prelude.{ℕ, ◌*◌, ◌/◌, Bool, true, false, not, List, eqb, ltb, get_or, Option, Some, None}
use Rattle.num.specs.Answer.{Answer, gives, refuses}
use Rattle.num.specs.Choice.{pick}
use Rattle.body.specs.Groups.{is_number}
use Rattle.body.specs.declared.sampled.Data.{Data}
use Rattle.body.specs.declared.sampled.Shape.{Shape}
use Rattle.body.specs.declared.sampled.Shape.TheVariants.{ShortPairs, ShortReals, ShortGroup, FloatPairs, FloatReals, FloatGroup}
use Rattle.copy.specs.Samples.{pairs_of, reals_of}
use Rattle.state.specs.declared.State.{State}
use Rattle.samples.specs.declared.Layout.{Layout}

-- the shape is of the width that is asked for: 32-bit patterns of floats, or 16-bit numbers
abbrev pub has_width : Bool → Shape → Bool
has_width float ShortPairs = not float
has_width float ShortReals = not float
has_width float ShortGroup = not float
has_width float FloatPairs = float
has_width float FloatReals = float
has_width float FloatGroup = float

-- a single channel is channel 0, and there is no other: number 34
abbrev pub alone : ℕ → Layout → Answer Layout
alone channel l = pick (eqb channel 0) (gives l) (refuses 34)

-- pairs packed as SIQP says, or reals
abbrev pub paired : State → Data → Layout
paired s d = record {
  pairs = true;
  iq = is_number 1 s.values.packing.value;
  first = 0;
  step = 1;
  count = d.samples;
}

abbrev pub real : Data → Layout
real d = record { pairs = false; iq = false; first = 0; step = 1; count = d.samples }

-- a channel of a group: n channels share the pairs, and each takes its own by offset and increment, as GIQP says
abbrev pub member : ℕ → State → Data → Layout
member channel s d = record {
  pairs = true;
  iq = s.values.group.iq;
  first = get_or s.values.group.offsets channel 0;
  step = s.values.group.increment;
  count = d.samples / s.values.group.n;
}

abbrev pub one_of : ℕ → State → Data → Answer Layout
one_of channel s d = pick (ltb channel s.values.group.n) (gives (member channel s d)) (refuses 34)

abbrev pub arranged : Shape → ℕ → State → Data → Answer Layout
arranged ShortPairs channel s d = alone channel (paired s d)
arranged ShortReals channel s d = alone channel (real d)
arranged ShortGroup channel s d = one_of channel s d
arranged FloatPairs channel s d = alone channel (paired s d)
arranged FloatReals channel s d = alone channel (real d)
arranged FloatGroup channel s d = one_of channel s d

-- number 35 unless the chunk is data of the width; then number 34 unless it has the channel
abbrev pub layout : Bool → Option Shape → ℕ → State → Data → Answer Layout
layout float (Some shape) channel s d = pick (has_width float shape) (arranged shape channel s d) (refuses 35)
layout float None channel s d = refuses 35

-- how many numbers they are, two for a pair
abbrev pub numbers : Layout → ℕ
numbers l = pick l.pairs (2 * l.count) l.count

-- and which, I before Q, where each number of the chunk is known by its place
abbrev pub values_of : {A : Type 0} → (ℕ → A) → Layout → List A
values_of value l = pick l.pairs (pairs_of value l.iq l.first l.step l.count) (reals_of value l.count)
