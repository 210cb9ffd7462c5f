-- The theorem said of the copying calls' own promises: whatever meets them leaves the numbers given.
use Prim.Native.Nat.{ℕ}
use mathlib.Core.Path.{◌≡◌, ◌∙◌}
use mathlib.Core.Bool.{true, false}
use mathlib.Core.List.{List}
use lib.IntN.{ℤ, pos}
use lib.ListN.{get_or}
use Rattle.samples.proofs.patterns.patterns_at.Reads as patterns
use Rattle.samples.proofs.shorts.shorts_at.Reads as shorts
use Rattle.roundtrip.proofs.Theorems.{Here, left_with, copied-back}

-- The arguments are the order, the stream, the cursor, the channel and the slice.
pub shorts-copied : (κs : _) (a : _) (r : _) (t : _) → shorts.Post κs a r t → (code : ℕ) (time : ℤ) (xs : List ℤ) →
    Here false a.0 a.1.0.now a.1.1.0 code time xs →
    t.1.1.1.1.0.now ≡ left_with false a.0 a.1.0.now a.1.1.0 a.1.1.1.0 (λ k. get_or xs k (pos 0)) a.1.1.1.1.0.now
shorts-copied κs a r t p code time xs h =
    p.1 ∙ copied-back false a.0 a.1.0.now a.1.1.0 code time xs h a.1.1.1.0 a.1.1.1.1.0.now

pub patterns-copied : (κs : _) (a : _) (r : _) (t : _) → patterns.Post κs a r t → (code : ℕ) (time : ℤ) (xs : List ℕ) →
    Here true a.0 a.1.0.now a.1.1.0 code time xs →
    t.1.1.1.1.0.now ≡ left_with true a.0 a.1.0.now a.1.1.0 a.1.1.1.0 (λ k. get_or xs k 0) a.1.1.1.1.0.now
patterns-copied κs a r t p code time xs h =
    p.1 ∙ copied-back true a.0 a.1.0.now a.1.1.0 code time xs h a.1.1.1.0 a.1.1.1.1.0.now
