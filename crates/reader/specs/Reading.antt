-- What steps give, one after the other, and what a cursor has ahead of it.
use Rattle.std.specs.Prelude.{ℕ, zero, suc, List, [], ◌∷◌, drop}
use Rattle.num.specs.Answer.{Answer, gives, refuses}
use Rattle.num.specs.Choice.{pick}
use Rattle.num.specs.declared.Order.{Order}
use Rattle.frame.specs.Frames.{frames}
use Rattle.state.specs.declared.State.{State}
use Rattle.reader.specs.Item.{Item, is_end}
use Rattle.reader.specs.Items.{Given, items_from}
use Rattle.reader.specs.Step.{Step, step_of}
use Rattle.reader.specs.declared.Cursor.{Cursor}

-- an answer and then others: nothing more is given at End or at a refusal
abbrev pub told : Answer Item → State → List Given → List Given
told (refuses n) shown rest = []
told (gives i) shown rest = pick (is_end i) [] (record { item = i; shown = shown } ∷ rest)

-- the items that steps give, up to End or a refusal, at most as many as there is fuel
unfoldable pub reading : ℕ → Order → List ℕ → Cursor → List Given
reading zero o s c = []
reading (suc f) o s c =
    let t : Step = step_of o s c in
    told t.item t.shown (reading f o s t.cursor)

-- what a cursor is to give: the frames ahead of it, read as it stands
abbrev pub ahead : Order → List ℕ → Cursor → List Given
ahead o s c = items_from o c.place c.in_step c.state (frames o (drop c.place s))
