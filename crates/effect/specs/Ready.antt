-- When a data chunk is ready, and what it shows.
use Rattle.std.specs.Prelude.{ℕ, Bool, true, false, eqb, ltb, Option, Some, None}
use Rattle.num.specs.Answer.{Answer, gives, refuses}
use Rattle.num.specs.Choice.{pick}
use Rattle.body.specs.Groups.{no_hertz, no_gains}
use Rattle.body.specs.declared.sampled.Data.{Data}
use Rattle.body.specs.declared.sampled.Shape.{Shape}
use Rattle.body.specs.declared.sampled.Shape.TheVariants.{ShortPairs, ShortReals, ShortGroup, FloatPairs, FloatReals, FloatGroup}
use Rattle.body.specs.declared.groups.GroupPacking.{GroupPacking}
use Rattle.body.specs.declared.groups.GroupHertz.{GroupHertz}
use Rattle.body.specs.declared.groups.GroupGains.{GroupGains}
use Rattle.cover.specs.Cover.{group_covers}
use Rattle.body.specs.Table.{frequencies, gains}
use Rattle.state.specs.State.{emptied, set_in, with_sums}
use Rattle.state.specs.Sums.{no_sums}
use Rattle.state.specs.declared.sums.GainSums.{GainSums}
use Rattle.state.specs.declared.Values.{Values}
use Rattle.state.specs.declared.State.{State}
use Rattle.effect.specs.Says.{Says, ok, unknown, bad, waits, ready}

-- a malformed chunk has its number; a well-formed one waits for the first of packing, sample rate and float full scale
-- that is lacking, and is ready where none is
abbrev pub data_says : Answer Data → Bool → Bool → Bool → Says
data_says (refuses n) packed rated scaled = bad n
data_says (gives d) packed rated scaled =
    pick packed (pick rated (pick scaled (ready d) (waits 23 d.time)) (waits 22 d.time)) (waits 21 d.time)

-- a group chunk that lacks nothing has to cover its pairs as well: number 16
abbrev pub covering : GroupPacking → Says → Says
covering g ok = ok
covering g unknown = unknown
covering g (bad n) = bad n
covering g (waits n t) = waits n t
covering g (ready d) = pick (group_covers d.samples g.n g.increment g.offsets) (ready d) (bad 16)

-- What is said of a data chunk with these values, by the shape of its samples. Every shape needs the sample rate; pairs
-- need the packing too, a group's the group packing, and floats their full scale. What a shape does not need, it does
-- not lack.
abbrev pub says_of : Shape → Answer Data → Values → Says
says_of ShortPairs a v = data_says a v.packing.present v.rate.present true
says_of ShortReals a v = data_says a true v.rate.present true
says_of ShortGroup a v = covering v.group (data_says a (ltb 0 v.group.n) v.rate.present true)
says_of FloatPairs a v = data_says a v.packing.present v.rate.present v.float_scale.present
says_of FloatReals a v = data_says a true v.rate.present v.float_scale.present
says_of FloatGroup a v =
    covering v.group (data_says a (ltb 0 v.group.n) v.rate.present v.float_scale.present)

abbrev pub of_group : Shape → Bool
of_group ShortPairs = false
of_group ShortReals = false
of_group ShortGroup = true
of_group FloatPairs = false
of_group FloatReals = false
of_group FloatGroup = true

-- nothing is shown
abbrev pub no_state : State
no_state = emptied false

-- the chunk is data, and ready
abbrev pub is_ready : Says → Bool
is_ready ok = false
is_ready unknown = false
is_ready (bad n) = false
is_ready (waits n t) = false
is_ready (ready d) = true

-- in a group chunk, frequencies or gains of another count than the packing's are shown as absent
abbrev pub hertz_of : ℕ → GroupHertz → GroupHertz
hertz_of n h = pick (eqb h.n n) h no_hertz

abbrev pub gains_of : ℕ → GroupGains → GroupGains
gains_of n g = pick (eqb g.n n) g no_gains

-- the sums are shown where the gains are
abbrev pub beside_of : ℕ → GroupGains → GainSums → GainSums
beside_of n g s = pick (eqb g.n n) s no_sums

abbrev pub in_group : Values → Values
in_group v =
    with_sums (set_in gains (gains_of v.group.n v.gains) (set_in frequencies (hertz_of v.group.n v.frequencies) v))
    (beside_of v.group.n v.gains v.sums)

-- the data of a chunk that is ready; of any other there is none to copy: number 35
abbrev pub ready_data : Says → Answer Data
ready_data ok = refuses 35
ready_data unknown = refuses 35
ready_data (bad n) = refuses 35
ready_data (waits n t) = refuses 35
ready_data (ready d) = gives d

abbrev pub asked_said : Option Data → Answer Data
asked_said (Some d) = gives d
asked_said None = refuses 35
