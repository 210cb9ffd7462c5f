-- Laws of the pieces of a text as it is shown: one after the other they are the whole, and none is cut.
use Prim.Native.Nat.{ℕ, zero, suc, ◌+◌, ◌≤◌, ◌<◌}
use mathlib.Core.Path.{◌≡◌, refl}
use mathlib.Core.Bool.{Bool, true, false, ◌&&◌}
use mathlib.Core.List.{List, [], ◌∷◌, ◌++◌, append-nil}
use native.Mathlib.Omega.{arith}
use lib.Dec.{eqb}
use lib.IntN.{negsuc}
use lib.ListN.{length, get_or, drop, length-drop}
use lib.Seq.{drop-cons, get_or-drop}
use Rattle.num.specs.Choice.{pick}
use Rattle.listing.specs.Digits.{decimal_by, decimal, hex_digits}
use Rattle.listing.specs.Text.{text_of, shown}
use Rattle.listing.specs.Words.{integer_word, dump_line}
use Rattle.listing.specs.Characters.{is_hidden, are_hidden, escape, shown_byte, shown_text, text_line, piece_of, first_piece}
use Rattle.listing.specs.declared.Label.TheVariants.{Value}
use Rattle.listing.specs.declared.characters.Piece.{Piece}
use Rattle.listing.proofs.Shown.{shows-all, hex-length}

-- the first piece, by whether two bytes are one character
abbrev pub piece_by : Bool → ℕ → ℕ → Piece
piece_by t b c = pick t (piece_of (escape c) 2) (piece_of (shown_byte b) 1)

-- the piece at a place before the end
pub piece-here : (s : List ℕ) (i : ℕ) → i < length s →
    first_piece (drop i s) ≡ piece_by (are_hidden (get_or s i 0) (get_or s (i + 1) 0)) (get_or s i 0) (get_or s (i + 1) 0)
piece-here s i h =
    let e : suc i + 0 ≡ i + 1 = omega arith in
    rw (drop-cons s i 0 h, get_or-drop (suc i) s 0 0, e)

-- a byte with none behind it is no such character
alone : (t : Bool) → (t && false) ≡ false
alone true = refl
alone false = refl

piece-alone : (b : ℕ) → first_piece (b ∷ []) ≡ piece_of (shown_byte b) 1
piece-alone b = rw (alone (eqb b 0xC2))

-- ---- a piece that is not empty is had from bytes that are there

some-by : (t : Bool) (b c : ℕ) → 1 ≤ (piece_by t b c).length
some-by true b c = omega arith
some-by false b c = omega arith

within-by : (t : Bool) (b c : ℕ) → (piece_by t b c).length ≤ 2
within-by true b c = omega arith
within-by false b c = omega arith

piece-within : (l : List ℕ) → (first_piece l).length ≤ length l
piece-within [] = omega arith
piece-within (b ∷ []) = rw (piece-alone b) (omega arith)
piece-within (b ∷ c ∷ l) = omega (arith, within-by (are_hidden b c) b c)

-- at a place before the end a piece takes a byte at least, and none past the end
pub piece-taken : (s : List ℕ) (i : ℕ) (p : Piece) → i < length s → p ≡ first_piece (drop i s) → (1 ≤ p.length) × (i + p.length ≤ length s)
piece-taken s i p h e =
    let some = some-by (are_hidden (get_or s i 0) (get_or s (i + 1) 0)) (get_or s i 0) (get_or s (i + 1) 0) in
    let w = piece-within (drop i s) in
    rw e (rw (piece-here s i h) some, omega (arith, length-drop i s))

-- ---- the pieces one after the other

escape-shown : (n : ℕ) → shown (text_of (escape n)) ≡ escape n
escape-shown n = shows-all (escape n) (omega (arith, hex-length 2 n))

byte-by : (t : Bool) (b : ℕ) → length (pick t (escape b) (b ∷ [])) ≤ 4
byte-by true b = omega (arith, hex-length 2 b)
byte-by false b = omega arith

byte-shown : (b : ℕ) → shown (text_of (shown_byte b)) ≡ shown_byte b
byte-shown b = shows-all (shown_byte b) (omega (arith, byte-by (is_hidden b) b))

next-by : (t : Bool) (b c : ℕ) (l : List ℕ) →
    shown (piece_by t b c).text ++ shown_text (drop (piece_by t b c).length (b ∷ c ∷ l)) ≡ pick t (escape c ++ shown_text l) (shown_byte b ++ shown_text (c ∷ l))
next-by true b c l = rw (escape-shown c)
next-by false b c l = rw (byte-shown b)

-- the first piece, and then the rest as it is shown
pub piece-next : (l : List ℕ) → shown (first_piece l).text ++ shown_text (drop (first_piece l).length l) ≡ shown_text l
unfolding shown_text
piece-next [] = shows-all [] (omega arith)
piece-next (b ∷ []) = rw (alone (eqb b 0xC2), byte-shown b, append-nil)
piece-next (b ∷ c ∷ l) = next-by (are_hidden b c) b c l

-- the bytes of at most so many pieces
abbrev pub pieces : ℕ → List ℕ → List ℕ
pieces zero l = []
pieces (suc n) l = shown (first_piece l).text ++ pieces n (drop (first_piece l).length l)

pieces-fuel : (n : ℕ) (l : List ℕ) → length l ≤ n → pieces n l ≡ shown_text l
unfolding shown_text
pieces-fuel zero [] h = refl
pieces-fuel zero (b ∷ l) h = absurd (omega arith)
pieces-fuel (suc n) [] h = pieces-fuel n [] (omega arith)
pieces-fuel (suc n) (b ∷ l) h =
    let some = some-by (are_hidden b (get_or l 0 0)) b (get_or l 0 0) in
    let rest = drop (first_piece (b ∷ l)).length (b ∷ l) in
    let ih = pieces-fuel n rest (omega (arith, length-drop (first_piece (b ∷ l)).length (b ∷ l))) in
    rw ih (piece-next (b ∷ l))

-- as many as there are bytes show the whole text
pub pieces-shown : (l : List ℕ) → pieces (length l) l ≡ shown_text l
pieces-shown l = pieces-fuel (length l) l (omega arith)

-- ---- an example

-- two lines of a dump: a text of A, a backslash, a newline, U+0085 and U+00E4, and the value -2
pub example-text : text_line (0x41 ∷ 0x5C ∷ 0x0A ∷ 0xC2 ∷ 0x85 ∷ 0xC3 ∷ 0xA4 ∷ []) ++ dump_line Value (integer_word (negsuc 1)) ≡
    --   text A
    0x20 ∷ 0x20 ∷ 0x74 ∷ 0x65 ∷ 0x78 ∷ 0x74 ∷ 0x20 ∷ 0x41 ∷
    -- \x5C\x0A\x85
    0x5C ∷ 0x78 ∷ 0x35 ∷ 0x43 ∷ 0x5C ∷ 0x78 ∷ 0x30 ∷ 0x41 ∷ 0x5C ∷ 0x78 ∷ 0x38 ∷ 0x35 ∷
    -- U+00E4 as it stands
    0xC3 ∷ 0xA4 ∷ 0x0A ∷
    --   value -2
    0x20 ∷ 0x20 ∷ 0x76 ∷ 0x61 ∷ 0x6C ∷ 0x75 ∷ 0x65 ∷ 0x20 ∷ 0x2D ∷ 0x32 ∷ 0x0A ∷
    []
unfolding decimal decimal_by hex_digits shown_text
example-text = refl
