-- The body of a chunk, as a part of the stream.
use Rattle.std.specs.Prelude.{ℕ, ◌+◌, List, [], leb, length, take, drop}
use Rattle.num.specs.Answer.{Answer, gives, refuses}
use Rattle.num.specs.Choice.{pick}
use Rattle.frame.specs.Place.{header_size}
use Rattle.reader.specs.Item.{Item, of_chunk}

-- the bytes after the header of a chunk of this size at a place; none where they do not all lie within the stream
abbrev pub body_at : List ℕ → ℕ → ℕ → List ℕ
body_at s place size = pick (leb (place + header_size + size) (length s)) (take size (drop (place + header_size) s)) []

-- the body of an item that is a chunk, and none of any other
abbrev pub body_in : List ℕ → Answer Item → List ℕ
body_in s (refuses n) = []
body_in s (gives i) = of_chunk [] (λ place code size says. body_at s place size) i
