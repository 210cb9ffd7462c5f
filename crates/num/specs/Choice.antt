-- Choosing by a test, for every type, and tests put together.
use Rattle.std.specs.Prelude.{ℕ, zero, suc, Bool, true, false}

-- a where the test holds, b where it does not
abbrev pub pick {ℓ} : {A : Type ℓ} → Bool → A → A → A
pick true a b = a
pick false a b = b

-- both tests hold
abbrev pub both : Bool → Bool → Bool
both true b = b
both false b = false

-- one of the tests holds
abbrev pub either : Bool → Bool → Bool
either true b = true
either false b = b

-- the test holds of every number below n
unfoldable pub each : (ℕ → Bool) → ℕ → Bool
each test zero = true
each test (suc n) = both (each test n) (test n)
