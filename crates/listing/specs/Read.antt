-- A number that is read off a text.
use Rattle.std.specs.Prelude.{ℕ, ◌+◌, ◌-◌, ◌*◌, List, [], ◌∷◌, eqb}
use Rattle.num.specs.Choice.{pick}

-- a number, and the byte that is read next: a space begins a new number, a newline leaves it, any other is a digit more
abbrev pub read_next : ℕ → ℕ → ℕ
read_next a b = pick (eqb b 0x20) 0 (pick (eqb b 0x0A) a (a * 10 + (b - 0x30)))

-- a number, and the bytes that are read next
abbrev pub read_from : ℕ → List ℕ → ℕ
read_from a [] = a
read_from a (b ∷ l) = read_from (read_next a b) l

-- the number behind the last space of a text
abbrev pub last_number : List ℕ → ℕ
last_number l = read_from 0 l
