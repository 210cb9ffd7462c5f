-- Reading on from the first chunk that a searching reader accepts, with places counted from there.
use Rattle.std.specs.Prelude.{ℕ, ◌+◌, ◌-◌, ◌≡◌, false, List, [], ◌∷◌, eqb, drop, Some}
use Rattle.num.specs.Answer.{Answer, gives, refuses}
use Rattle.num.specs.Choice.{pick}
use Rattle.num.specs.declared.Order.{Order}
use Rattle.frame.specs.Place.{shows, search_from}
use Rattle.frame.specs.declared.At.TheVariants.{Complete}
use Rattle.reader.specs.Item.{Item, of_chunk, is_chunk, placed_by}
use Rattle.reader.specs.Items.{Given}
use Rattle.reader.specs.Step.{Step, cursor_at}
use Rattle.reader.specs.declared.Cursor.{Cursor}

-- a place, counted from a start; and back, a place after a start as a place of the whole
abbrev pub since : ℕ → ℕ → ℕ
since start place = place - start

abbrev pub onto : ℕ → ℕ → ℕ
onto start place = start + place

-- an answer, an item with what it shows, a cursor and a step, their places counted anew
abbrev pub answer_by : (ℕ → ℕ) → Answer Item → Answer Item
answer_by f (gives i) = gives (placed_by f i)
answer_by f (refuses n) = refuses n

abbrev pub given_by : (ℕ → ℕ) → Given → Given
given_by f g = record { item = placed_by f g.item; shown = g.shown }

abbrev pub cursor_by : (ℕ → ℕ) → Cursor → Cursor
cursor_by f c = cursor_at (f c.place) c.in_step c.state

abbrev pub step_counted : (ℕ → ℕ) → Step → Step
step_counted f t = record { item = answer_by f t.item; shown = t.shown; cursor = cursor_by f t.cursor }

-- the reader is searching, and the first chunk that it accepts stands at p: the search stops there, at a complete chunk
pub record AcceptsFirstAt (o : Order) (s : List ℕ) (c : Cursor) (p : ℕ) : Type 0 where
  pub searching : c.in_step ≡ false
  pub stopped : search_from o s c.place ≡ Some p
  pub code : ℕ
  pub size : ℕ
  pub complete : shows o (drop p s) ≡ Complete code size

-- the steps before that: the skipped stretch is one, if it is not empty
abbrev pub lead : ℕ → Cursor → ℕ
lead p c = pick (eqb c.place p) 0 1

-- the items from the first chunk on
unfoldable pub from_chunk : List Given → List Given
from_chunk [] = []
from_chunk (g ∷ rest) = pick (is_chunk g.item) (g ∷ rest) (from_chunk rest)

-- the first of some items is a chunk at p
abbrev pub ChunkAt : ℕ → Item → Type 0
ChunkAt p i = of_chunk ⊥ (λ place code size says. place ≡ p) i

abbrev pub BeginsAt : ℕ → List Given → Type 0
BeginsAt p [] = ⊥
BeginsAt p (g ∷ rest) = ChunkAt p g.item
