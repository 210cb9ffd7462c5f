-- Lists of up to 16 values.
use Rattle.std.specs.Prelude.{ℕ, zero, suc, List, [], ◌∷◌, ltb}
use Rattle.num.specs.Choice.{pick}

-- k places from i on: f at those below n, d at the others
unfoldable pub upto : {A : Type 0} → (ℕ → A) → A → ℕ → ℕ → ℕ → List A
upto f d n i zero = []
upto f d n i (suc k) = pick (ltb i n) (f i) d ∷ upto f d n (suc i) k

-- 16 places, of which the first n are used
abbrev pub sixteen : {A : Type 0} → (ℕ → A) → A → ℕ → List A
sixteen f d n = upto f d n 0 16
