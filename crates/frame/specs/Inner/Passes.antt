-- Places that a search can pass over by two bytes alone.
use Rattle.std.specs.Prelude.{ℕ, ◌+◌, ◌≤◌, ◌<◌, ◌≡◌, length, get_or}
use Rattle.frame.specs.declared.Front.{Front}

-- `to` is a place of the stream, `from` or a later one, and at none from `from` on and below it stand the two bytes
pub record Passes (f : Front) (from to : ℕ) : Type 0 where
  pub low : from ≤ to
  pub high : to < length f.s.now
  pub free : (k : ℕ) → k < to → from ≤ k → get_or f.s.now k 0 ≡ f.first → get_or f.s.now (k + 1) 0 ≡ f.second → ⊥
