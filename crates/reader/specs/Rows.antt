-- How many items a stream may have.
use Rattle.std.specs.Prelude.{ℕ, ◌+◌, ◌*◌, ◌/◌}

-- the rows of a table that has room for the items of any stream of n bytes: two for each thirteen bytes, and two more
abbrev pub rows_for : ℕ → ℕ
rows_for n = 2 * (n / 13) + 2
