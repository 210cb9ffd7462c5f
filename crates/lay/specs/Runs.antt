-- Values one after the other.
use Rattle.std.specs.Prelude.{ℕ, List, [], ◌∷◌, ◌++◌}

-- the bytes of some values, one after the other, where those of each are known
unfoldable pub run_of : {A : Type 0} → (A → List ℕ) → List A → List ℕ
run_of bytes [] = []
run_of bytes (x ∷ xs) = bytes x ++ run_of bytes xs
