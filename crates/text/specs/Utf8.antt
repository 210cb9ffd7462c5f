-- UTF-8: the table of RFC 3629, section 4, and the lists of bytes that are a run of its characters.
use Rattle.std.specs.Prelude.{◌≡◌, ◌≤◌, ◌<◌, ℕ, zero, suc, Bool, true, false, List, [], ◌∷◌, ltb, leb, length, drop, get_or}
use Rattle.num.specs.Choice.{pick, both}

-- a range of bytes, by its lowest and its highest
pub record Range : Type 0 where
  pub low : ℕ
  pub high : ℕ

-- the bytes from low to high, both of them included
abbrev pub between : ℕ → ℕ → Range
between low high = record { low = low; high = high }

-- UTF8-tail, the bytes that continue a character
abbrev pub utf8_tail : Range
utf8_tail = between 0x80 0xBF

-- The table. Each row is one form of character: the range of its first byte, of its second, and so on.
abbrev pub table : List (List Range)
table =
    (between 0x00 0x7F ∷ [])
    ∷ (between 0xC2 0xDF ∷ utf8_tail ∷ [])
    ∷ (between 0xE0 0xE0 ∷ between 0xA0 0xBF ∷ utf8_tail ∷ [])
    ∷ (between 0xE1 0xEC ∷ utf8_tail ∷ utf8_tail ∷ [])
    ∷ (between 0xED 0xED ∷ between 0x80 0x9F ∷ utf8_tail ∷ [])
    ∷ (between 0xEE 0xEF ∷ utf8_tail ∷ utf8_tail ∷ [])
    ∷ (between 0xF0 0xF0 ∷ between 0x90 0xBF ∷ utf8_tail ∷ utf8_tail ∷ [])
    ∷ (between 0xF1 0xF3 ∷ utf8_tail ∷ utf8_tail ∷ utf8_tail ∷ [])
    ∷ (between 0xF4 0xF4 ∷ between 0x80 0x8F ∷ utf8_tail ∷ utf8_tail ∷ [])
    ∷ []

-- the byte lies in the range
abbrev pub within : Range → ℕ → Bool
within r b = both (leb r.low b) (leb b r.high)

-- the bytes at the front lie in the row's ranges, one by one
unfoldable pub fits : List Range → List ℕ → Bool
fits [] l = true
fits (r ∷ row) [] = false
fits (r ∷ row) (b ∷ l) = both (within r b) (fits row l)

-- how many bytes the first row that fits takes, 0 where none does
unfoldable pub first_fit : List (List Range) → List ℕ → ℕ
first_fit [] l = 0
first_fit (row ∷ rows) l = pick (fits row l) (length row) (first_fit rows l)

-- how many bytes the character at the front takes, 0 where none stands there
abbrev pub character : List ℕ → ℕ
character l = first_fit table l

-- the bytes are a run of characters, at most as many as there is fuel
unfoldable pub run_by : ℕ → List ℕ → Bool
run_by zero [] = true
run_by zero (b ∷ l) = false
run_by (suc f) [] = true
run_by (suc f) (b ∷ l) = both (ltb 0 (character (b ∷ l))) (run_by f (drop (character (b ∷ l)) (b ∷ l)))

-- the bytes are UTF-8: a character has a byte at least, so as much fuel as bytes is enough
abbrev pub is_utf8 : List ℕ → Bool
is_utf8 l = run_by (length l) l

-- the n bytes at the front are plain, below 80 hex
pub record PlainFront (l : List ℕ) (n : ℕ) : Type 0 where
  pub within : n ≤ length l
  pub plain : (k : ℕ) → k < n → get_or l k 0 < 128

-- whole characters lead over n bytes at the front: what is ahead of them is UTF-8 where the whole is
pub record Leads (l : List ℕ) (n : ℕ) : Type 0 where
  pub within : n ≤ length l
  pub same : is_utf8 l ≡ is_utf8 (drop n l)
