-- The items of a stream: its frames, with the state carried along.
use Rattle.std.specs.Prelude.{ℕ, ◌+◌, Bool, true, false, List, [], ◌∷◌, length}
use Rattle.num.specs.declared.Order.{Order}
use Rattle.frame.specs.Frames.{Frame, frames}
use Rattle.frame.specs.Frames as Frames
use Rattle.frame.specs.Place.{header_size}
use Rattle.body.specs.Kind.{kind_of}
use Rattle.state.specs.declared.State.{State}
use Rattle.effect.specs.Ready.{no_state}
use Rattle.effect.specs.Effect.{Effect, effect}
use Rattle.reader.specs.Cause.{cause_of}
use Rattle.reader.specs.Item.{Item, skipped, unfinished, chunk}
use Rattle.reader.specs.Step.{before}

-- an item, and the state that it shows
pub record Given : Type 0 where
  pub item : Item
  pub shown : State

-- The frames from a place on, read in step or not and with a state. A chunk puts the reader in step, a skipped stretch
-- takes it out of step, and an unfinished end changes nothing.
unfoldable pub items_from : Order → ℕ → Bool → State → List Frame → List Given
items_from o p step s [] = []
items_from o p step s (Frames.chunk code body ∷ rest) =
    let e : Effect = effect o (kind_of code) body (before step s) in
    record { item = chunk p code (length body) e.says; shown = e.shown }
    ∷ items_from o (p + header_size + length body) true e.after rest
items_from o p step s (Frames.skipped stray bytes ∷ rest) =
    record { item = skipped p (length bytes) (cause_of step stray); shown = no_state }
    ∷ items_from o (p + length bytes) false s rest
items_from o p step s (Frames.unfinished bytes ∷ rest) =
    record { item = unfinished p (length bytes); shown = no_state } ∷ items_from o (p + length bytes) step s rest

-- the items of a stream
abbrev pub items : Order → List ℕ → List Given
items o s = items_from o 0 false no_state (frames o s)
