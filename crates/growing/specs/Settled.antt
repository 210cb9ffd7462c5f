-- The items that no appended byte can change: the last complete chunk, and all before it. And the chunks alone.
use Rattle.std.specs.Prelude.{Bool, true, false, List, [], ◌∷◌}
use Rattle.num.specs.Choice.{pick}
use Rattle.reader.specs.Item.{is_chunk}
use Rattle.reader.specs.Items.{Given}

-- an item before others that are kept: kept where it is a chunk itself, or where a chunk follows
abbrev pub kept_before : Bool → Given → List Given → List Given
kept_before true g rest = g ∷ rest
kept_before false g [] = []
kept_before false g (r ∷ rest) = g ∷ (r ∷ rest)

-- the last chunk and all items before it; none where there is no chunk
unfoldable pub settled : List Given → List Given
settled [] = []
settled (g ∷ rest) = kept_before (is_chunk g.item) g (settled rest)

-- the chunks among some items
unfoldable pub chunks_of : List Given → List Given
chunks_of [] = []
chunks_of (g ∷ rest) = pick (is_chunk g.item) (g ∷ chunks_of rest) (chunks_of rest)
