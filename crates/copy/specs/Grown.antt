-- What a loop that lays pairs keeps.
use Rattle.std.specs.Prelude.{ℕ, ◌≡◌, ◌*◌, ◌≤◌, Bool, List, length}
use Rattle.copy.specs.Samples.{pairs_of, front_filled}

-- of so many pairs, where the first j₀ are laid over a slice d in out₀, the first j are laid over it in out
abbrev pub Grown : {A : Type 0} → (ℕ → A) → Bool → ℕ → ℕ → ℕ → List A → ℕ → List A → ℕ → Type 0
Grown value iq first step count out₀ j₀ out j =
    (j ≤ count) × (length out ≡ length out₀)
    × ((d : List _) → 2 * count ≤ length d → out₀ ≡ front_filled (pairs_of value iq first step j₀) d → out ≡ front_filled (pairs_of value iq first step j) d)
