-- Bytes laid over a slice piece by piece.
use Rattle.std.specs.Prelude.{ℕ, ◌+◌, ◌≤◌, ◌≡◌, List, length}
use Rattle.lay.specs.Splice.{splice}

-- where the bytes vs fit into the slice d from the place `at` on, e is d with vs laid over it; else e may be anything
abbrev pub Lays : List ℕ → ℕ → List ℕ → List ℕ → Type 0
Lays d at vs e = at + length vs ≤ length d → e ≡ splice d at vs
