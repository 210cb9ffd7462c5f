-- What it is that records are read back.
use Rattle.std.specs.Prelude.{ℕ, ◌+◌, ◌≡◌, List, [], ◌∷◌, length}
use Rattle.num.specs.Answer.{Answer, gives}
use Rattle.num.specs.declared.Order.{Order}
use Rattle.frame.specs.Place.{header_size}
use Rattle.effect.specs.Says.{Says}
use Rattle.reader.specs.Item.{Item, chunk, end}
use Rattle.reader.specs.Items.{Given}
use Rattle.reader.specs.Part.{body_in}
use Rattle.reader.specs.Step.{step_of}
use Rattle.reader.specs.declared.Cursor.{Cursor}
use Rattle.writer.specs.Records.{Record}

-- the answer is a chunk at the place, of the record's type and size, and the bytes of the stream s behind its header,
-- which body_of gives, are the record's body
pub record ReadAs (s : List ℕ) (place : ℕ) (r : Record) (a : Answer Item) : Type 0 where
  pub says : Says
  pub item : a ≡ gives (chunk place r.code (length r.body) says)
  pub body : body_in s a ≡ r.body

-- the place behind a record that stands at a place
abbrev pub behind : ℕ → Record → ℕ
behind place r = place + header_size + length r.body

-- the items are the records, one to one and in order, the first of them at the place and each next one behind it
abbrev pub AllRead : List ℕ → ℕ → List Record → List Given → Type 0
AllRead s place [] [] = Unit {0}
AllRead s place [] (g ∷ gs) = ⊥
AllRead s place (r ∷ rs) [] = ⊥
AllRead s place (r ∷ rs) (g ∷ gs) = ReadAs s place r (gives g.item) × AllRead s (behind place r) rs gs

-- the steps from a cursor give the records in the same way, one each, and the step after the last gives End
abbrev pub StepsRead : Order → List ℕ → Cursor → ℕ → List Record → Type 0
StepsRead o s c place [] = (step_of o s c).item ≡ gives end
StepsRead o s c place (r ∷ rs) =
    ReadAs s place r (step_of o s c).item × StepsRead o s (step_of o s c).cursor (behind place r) rs
