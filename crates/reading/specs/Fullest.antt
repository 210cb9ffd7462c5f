-- The most items that a stream of n bytes has, and one that has them.
use Rattle.std.specs.Prelude.{ℕ, zero, suc, ◌+◌, ◌*◌, ◌/◌, ◌%◌, min, List, [], ◌∷◌, ◌++◌, take}
use Rattle.num.specs.declared.Order.{Order}
use Rattle.frame.specs.Frames.{chunk_bytes}

-- two for each thirteen bytes, and one more for each byte that is left, up to two
abbrev pub most_items : ℕ → ℕ
most_items n = 2 * (n / 13) + min (n % 13) 2

-- thirteen bytes with two items: a byte that is skipped, and a chunk of type 0 without a body
abbrev pub round : Order → List ℕ
round o = 0 ∷ chunk_bytes o 0 []

-- k rounds, and behind them some bytes
abbrev pub rounds : Order → ℕ → List ℕ → List ℕ
rounds o zero l = l
rounds o (suc k) l = round o ++ rounds o k l

-- n bytes: as many rounds as there is room for, and the beginning of one more
abbrev pub fullest : Order → ℕ → List ℕ
fullest o n = rounds o (n / 13) (take (n % 13) (round o))
