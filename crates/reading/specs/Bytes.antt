-- Which bytes of a stream are an item's own.
use Rattle.std.specs.Prelude.{ℕ, ◌+◌, ◌≤◌, ◌<◌, ◌≡◌}
use Rattle.frame.specs.Place.{header_size}
use Rattle.reader.specs.Item.{Item, end, skipped, unfinished, chunk}

-- where an item begins, and how many bytes it has, a chunk's header among them; End has none
abbrev pub begins : Item → ℕ
begins end = 0
begins (skipped place n cause) = place
begins (unfinished place n) = place
begins (chunk place code size says) = place

abbrev pub extent : Item → ℕ
extent end = 0
extent (skipped place n cause) = n
extent (unfinished place n) = n
extent (chunk place code size says) = header_size + size

-- k is one of the places from `from` on that lie before `to`
pub record Between (from to k : ℕ) : Type 0 where
  pub low : from ≤ k
  pub high : k < to

-- the byte at k is one of the item's
abbrev pub Covers : Item → ℕ → Type 0
Covers i k = Between (begins i) (begins i + extent i) k

-- the item's bytes are those from p on that lie before q, and it has one at least
pub record Spans (i : Item) (p q : ℕ) : Type 0 where
  pub from : begins i ≡ p
  pub to : begins i + extent i ≡ q
  pub some : 1 ≤ extent i

-- exactly one number below n has the property
pub record ExactlyOne (n : ℕ) (Has : ℕ → Type 0) : Type 0 where
  pub index : ℕ
  pub below : index < n
  pub has : Has index
  pub only : (j : ℕ) → j < n → Has j → j ≡ index
