-- Bytes laid over a slice from a place on.
use Rattle.std.specs.Prelude.{ℕ, ◌+◌, Bool, List, ◌++◌, leb, length, take, drop}
use Rattle.num.specs.Choice.{pick}

-- what a slice d holds after the bytes vs are laid over it from the place `at` on
abbrev pub splice : List ℕ → ℕ → List ℕ → List ℕ
splice d at vs = take at d ++ (vs ++ drop (at + length vs) d)

-- they end within it
abbrev pub fits : List ℕ → ℕ → List ℕ → Bool
fits d at vs = leb (at + length vs) (length d)

-- they are laid where they fit, and else the slice is as it was
abbrev pub overlaid : List ℕ → ℕ → List ℕ → List ℕ
overlaid d at vs = pick (fits d at vs) (splice d at vs) d
