-- What number 3 allows in a slot, and what the body table allows there.
use Rattle.std.specs.Prelude.{ℕ, ◌≡◌, Bool, true, List, T, ltb, pos, length, get_or}
use Rattle.std.specs.Float.{binary32}
use Rattle.std.specs.Float.Ieee.{of_bits, fits}
use Rattle.std.specs.Int.{w64}
use Rattle.std.proofs.Common.{SFits}
use Rattle.num.specs.Answer.{gives}
use Rattle.num.specs.declared.Order.{Order}
use Rattle.num.proofs.Laws.{Bytes}
use Rattle.body.specs.Table.{Slot, packing, rate, band, group_band, centre, full_scale, total_gain, float_scale, group, frequencies, gains, Value, set_by}
use Rattle.body.specs.Verdict.{verdict}
use Rattle.body.specs.declared.kinds.Kind.{Kind}
use Rattle.state.specs.State.{value_in}
use Rattle.state.specs.declared.State.{State}
use Rattle.effect.specs.Effect.{effect}

-- whether a slot's value is present: its flag, and for a list that it has a channel
abbrev pub is_present : (x : Slot) → Value x → Bool
is_present packing v = v.present
is_present rate v = v.present
is_present band v = v.present
is_present group_band v = v.present
is_present centre v = v.present
is_present full_scale v = v.present
is_present total_gain v = v.present
is_present float_scale v = v.present
is_present group v = ltb 0 v.n
is_present frequencies v = ltb 0 v.n
is_present gains v = ltb 0 v.n

-- the numbers of a value have the width of their types, and a list has sixteen places, as in every value of a program
abbrev pub Fitting : (x : Slot) → Value x → Type 0
Fitting packing v = SFits w64 v.value
Fitting rate v = SFits w64 v.value
Fitting band v = SFits w64 v.width × SFits w64 v.offset
Fitting group_band v = SFits w64 v.value
Fitting centre v = SFits w64 v.value
Fitting full_scale v = T (fits binary32 v.value)
Fitting total_gain v = T (fits binary32 v.value)
Fitting float_scale v = T (fits binary32 v.value)
Fitting group v = length v.offsets ≡ 16
Fitting frequencies v = (length v.values ≡ 16) × ((c : ℕ) → SFits w64 (get_or v.values c (pos 0)))
Fitting gains v = (length v.values ≡ 16) × ((c : ℕ) → T (fits binary32 (get_or v.values c (of_bits binary32 0))))

-- a body of bytes, well-formed for a kind that sets the slot, which leaves the value there whatever the state was
pub record Left (o : Order) (x : Slot) (v : Value x) : Type 0 where
  pub kind : Kind
  pub body : List ℕ
  pub bytes : Bytes body
  pub sets_it : set_by kind x ≡ true
  pub well_formed : verdict o kind body ≡ gives tt
  pub left : (s : State) → value_in x (effect o kind body s).after.values ≡ v
