-- What the reader says of a stream that may be written back, and the records that it gives.
use Rattle.std.specs.Prelude.{ℕ, ◌≡◌, Bool, true, false, not, List, leb}
use Rattle.num.specs.Answer.{Answer, gives, refuses}
use Rattle.num.specs.Choice.{both}
use Rattle.reader.specs.Item.{Item, of_chunk, is_chunk, item_number}
use Rattle.reader.specs.Items.{Given}
use Rattle.reader.specs.Part.{body_in}
use Rattle.writer.specs.Records.{Record}

-- a number of 11 to 15
abbrev pub malformed : ℕ → Bool
malformed n = both (leb 11 n) (leb n 15)

-- the answer is a chunk that is refused with none of 11 to 15; 16 and 21 to 23 may be said of it
abbrev pub sound : Answer Item → Bool
sound (gives i) = both (is_chunk i) (not (malformed (item_number (gives i))))
sound (refuses n) = false

-- the same of an item of a stream
abbrev pub SoundItem : Given → Type 0
SoundItem g = sound (gives g.item) ≡ true

-- the type of a chunk, and 0 for every other answer
abbrev pub code_in : Answer Item → ℕ
code_in (gives i) = of_chunk 0 (λ place code size says. code) i
code_in (refuses n) = 0

-- the record of a chunk of the stream s: its type as it is given, its body as body_of gives it
abbrev pub record_in : List ℕ → Answer Item → Record
record_in s a = record { code = code_in a; body = body_in s a }
