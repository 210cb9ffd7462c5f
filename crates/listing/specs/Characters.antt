-- The characters of a text as a dump shows them, over the bytes of the text.
use Rattle.std.specs.Prelude.{ℕ, Bool, ◌&&◌, ◌||◌, List, [], ◌∷◌, ◌++◌, eqb, ltb, leb, get_or}
use Rattle.num.specs.Choice.{pick}
use Rattle.listing.specs.Digits.{hex_digits}
use Rattle.listing.specs.Text.{text_of}
use Rattle.listing.specs.Words.{spaced, dump_line}
use Rattle.listing.specs.declared.Label.TheVariants.{Text}
use Rattle.listing.specs.declared.characters.Piece.{Piece}

-- bytes that are a control character, U+0000 to U+001F or U+007F, or the backslash
abbrev pub is_hidden : ℕ → Bool
is_hidden b = ltb b 0x20 || (eqb b 0x7F || eqb b 0x5C)

-- two bytes that are a control character, U+0080 to U+009F: C2, and the character's number
abbrev pub are_hidden : ℕ → ℕ → Bool
are_hidden b c = eqb b 0xC2 && (leb 0x80 c && leb c 0x9F)

-- such a character by its number: \x and two hexadecimal digits
abbrev pub escape : ℕ → List ℕ
escape n = 0x5C ∷ 0x78 ∷ hex_digits 2 n

-- a byte by itself
abbrev pub shown_byte : ℕ → List ℕ
shown_byte b = pick (is_hidden b) (escape b) (b ∷ [])

-- the text as it is shown
unfoldable pub shown_text : List ℕ → List ℕ
shown_text [] = []
shown_text (b ∷ []) = shown_byte b
shown_text (b ∷ c ∷ l) = pick (are_hidden b c) (escape c ++ shown_text l) (shown_byte b ++ shown_text (c ∷ l))

-- the line of a dump with the text
abbrev pub text_line : List ℕ → List ℕ
text_line l = dump_line Text (spaced (shown_text l))

-- what is shown for n bytes
abbrev pub piece_of : List ℕ → ℕ → Piece
piece_of l n = record { text = text_of l; length = n }

-- the first piece of a text: one character that is hidden, or one byte; nothing where no byte is left
abbrev pub first_piece : List ℕ → Piece
first_piece [] = piece_of [] 0
first_piece (b ∷ l) = pick (are_hidden b (get_or l 0 0)) (piece_of (escape (get_or l 0 0)) 2) (piece_of (shown_byte b) 1)
