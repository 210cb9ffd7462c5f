-- Texts of at most 96 bytes, and which bytes a text shows.
use Rattle.std.specs.Prelude.{ℕ, zero, suc, List, [], ◌∷◌, length, take}
use Rattle.listing.specs.declared.string.Text.{Text}

-- k places: the bytes of l, as many as fit, and 0 at the others
unfoldable pub padded : ℕ → List ℕ → List ℕ
padded zero l = []
padded (suc k) [] = 0 ∷ padded k []
padded (suc k) (b ∷ l) = b ∷ padded k l

-- the text of these bytes, of which those past the first 96 are dropped; every place that is not used holds 0
abbrev pub text_of : List ℕ → Text
text_of l = record { bytes = padded 96 l; len = length (take 96 l) }

-- the bytes that a text shows
abbrev pub shown : Text → List ℕ
shown t = take t.len t.bytes
