-- What it is that steps give some items, one each and in order, and after them End.
use Rattle.std.specs.Prelude.{ℕ, ◌≤◌, ◌<◌, ◌≡◌, false, List, length, get_or}
use Rattle.num.specs.Answer.{gives}
use Rattle.num.specs.declared.Order.{Order}
use Rattle.effect.specs.Ready.{no_state}
use Rattle.reader.specs.Item.{end, is_end, item_said}
use Rattle.reader.specs.Items.{Given}
use Rattle.reader.specs.Step.{Step, step_of, after, Fit}
use Rattle.reader.specs.declared.Cursor.{Cursor}
use Rattle.reader.specs.declared.Item.TheVariants.{End}
use Rattle.reader.specs.declared.Stepped.{Stepped}

-- a cursor that no step refuses: its place is within the stream, and where it is in step its state is good
pub record Sound (s : List ℕ) (c : Cursor) : Type 0 where
  pub within : c.place ≤ length s
  pub fit : Fit c

-- the step that is made after k others
abbrev pub step_after : ℕ → Order → List ℕ → Cursor → Step
step_after k o s c = step_of o s (after k o s c)

-- End, which shows no state
abbrev pub no_item : Given
no_item = record { item = end; shown = no_state }

-- the step that gives End and leaves the cursor as it came
abbrev pub end_step : Cursor → Step
end_step c = record { item = gives end; shown = no_state; cursor = c }

-- item k of some, with the state that it shows; after the last there is none
abbrev pub given_at : List Given → ℕ → Given
given_at gs k = get_or gs k no_item

-- a step gives an item with the state that it shows, so it is no refusal; and the item is not End
pub record GivesItem (t : Step) (g : Given) : Type 0 where
  pub item : t.item ≡ gives g.item
  pub shown : t.shown ≡ g.shown
  pub some : is_end g.item ≡ false

-- a step gives End and leaves the cursor, which stands at the end of the stream
pub record GivesEnd (s : List ℕ) (c : Cursor) (t : Step) : Type 0 where
  pub place : c.place ≡ length s
  pub step : t ≡ end_step c

-- the steps from c give the items gs, one each and in order, and every step after them gives End
pub record GivesAll (o : Order) (s : List ℕ) (c : Cursor) (gs : List Given) : Type 0 where
  pub each : (k : ℕ) → k < length gs → GivesItem (step_after k o s c) (given_at gs k)
  pub ends : (k : ℕ) → length gs ≤ k → GivesEnd s (after k o s c) (step_after k o s c)

-- an answer of the code is an item with the state that it shows, so it is no refusal; and the item is not End
pub record AnswersItem (a : Stepped) (g : Given) : Type 0 where
  pub item : item_said a.item ≡ gives g.item
  pub shown : a.shown ≡ g.shown
  pub some : is_end g.item ≡ false

-- an answer of the code is End, with the cursor as it came, which stands at the end of the stream
pub record AnswersEnd (s : List ℕ) (c : Cursor) (a : Stepped) : Type 0 where
  pub item : a.item ≡ End
  pub shown : a.shown ≡ no_state
  pub cursor : a.cursor ≡ c
  pub place : c.place ≡ length s
