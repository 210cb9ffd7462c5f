-- The last chunk that sets a value since the step was regained, and the value that it leaves.
use Rattle.std.specs.Prelude.{ℕ, ◌≡◌, Bool, true, false, Option, Some, None}
use mathlib.Core.List.{List, [], ◌∷◌, ◌++◌, foldl}
use Rattle.num.specs.Choice.{pick, either}
use Rattle.num.specs.declared.Order.{Order}
use Rattle.frame.specs.Frames.{Frame, chunk, skipped, unfinished, of_chunk}
use Rattle.body.specs.Check.{or_else}
use Rattle.body.specs.Kind.{kind_of}
use Rattle.body.specs.Table.{Slot, frequencies, gains, Value, none, is_slot, Row, sets, marks, leaves, samples, unknown, row, set_by, shaped}
use Rattle.body.specs.declared.sampled.Shape.{Shape}
use Rattle.body.specs.declared.kinds.Kind.{Kind}
use Rattle.state.specs.State.{value_in, set_in, built}
use Rattle.state.specs.declared.Values.{Values}
use Rattle.effect.specs.Ready.{of_group, in_group}

-- ---- the chunk

-- a skipped stretch, at which the step is lost
abbrev pub is_skipped : Frame → Bool
is_skipped (chunk code body) = false
is_skipped (skipped stray bytes) = true
is_skipped (unfinished bytes) = false

-- no chunk, or a chunk by its type and its body
pub data Last : Type 0 where
  nothing : Last
  set : ℕ → List ℕ → Last

-- one frame further on: a chunk of a kind that sets the slot is the last one now, and a skipped stretch leaves none
abbrev pub last_after : Slot → Last → Frame → Last
last_after x l f =
    pick (is_skipped f) nothing (of_chunk l (λ code body. pick (set_by (kind_of code) x) (set code body) l) f)

-- the last chunk that sets the slot, of the first frames of a stream
abbrev pub last_of : Slot → List Frame → Last
last_of x fs = foldl (last_after x) nothing fs

-- whether the reader is searching after the first frames of a stream: at the start, and after a skipped stretch
abbrev pub is_searching : List Frame → Bool
is_searching fs = foldl (λ before f. is_skipped f) true fs

-- neither a chunk of a kind that sets the slot nor a skipped stretch
abbrev pub Leaves : Slot → Frame → Type 0
Leaves x f = pick (is_skipped f) ⊥ (of_chunk (Unit {0}) (λ code body. set_by (kind_of code) x ≡ false) f)

abbrev pub AllLeave : Slot → List Frame → Type 0
AllLeave x [] = Unit {0}
AllLeave x (f ∷ fs) = Leaves x f × AllLeave x fs

-- of the first frames of a stream, this chunk is the last that sets the slot, and no stretch was skipped after it
pub record LastIs (x : Slot) (fs : List Frame) (code : ℕ) (body : List ℕ) : Type 0 where
  pub earlier : List Frame
  pub later : List Frame
  pub split : fs ≡ earlier ++ (chunk code body ∷ later)
  pub setter : set_by (kind_of code) x ≡ true
  pub others : AllLeave x later

-- none of them has set the slot since the reader was last searching, at the start or after a skipped stretch
pub record NoneSince (x : Slot) (fs : List Frame) : Type 0 where
  pub earlier : List Frame
  pub later : List Frame
  pub split : fs ≡ earlier ++ later
  pub searching : is_searching earlier ≡ true
  pub others : AllLeave x later

-- ---- the value

-- what a chunk leaves in the slot that its kind sets: what its body says, or an absent value where it is malformed
abbrev pub value_by : Row → Order → List ℕ → (x : Slot) → Value x
value_by (sets y hold read) o body x = value_in x (set_in y (or_else (none y) hold (read o body)) (built none))
value_by (marks read) o body x = none x
value_by (leaves read) o body x = none x
value_by (samples shape) o body x = none x
value_by unknown o body x = none x

-- where there is no such chunk the value is absent
abbrev pub value_of : Order → (x : Slot) → Last → Value x
value_of o x nothing = none x
value_of o x (set code body) = value_by (row (kind_of code)) o body x

-- after the first frames of a stream, each slot holds the value of the last chunk that sets it
abbrev pub last_value : Order → List Frame → (x : Slot) → Value x
last_value o fs x = value_of o x (last_of x fs)

abbrev pub last_values : Order → List Frame → Values
last_values o fs = built (last_value o fs)

-- ---- what is shown of the values

abbrev pub group_shaped : Option Shape → Bool
group_shaped (Some shape) = of_group shape
group_shaped None = false

-- a group chunk shows frequencies and gains of another count than the packing's as absent; any other shows all values
abbrev pub shown_by : Kind → Values → Values
shown_by k v = pick (group_shaped (shaped k)) (in_group v) v

-- the slots of which a group chunk shows values by their count
abbrev pub is_counted : Slot → Bool
is_counted x = either (is_slot frequencies x) (is_slot gains x)
