-- The count of the numbers copied, and what the slice holds at the end, are fixed.
use Prim.Native.Nat.{ℕ}
use mathlib.Core.Path.{◌≡◌, refl, sym, ◌∙◌}
use Rattle.std.specs.Prelude.{Result, Ok, Err}
use Rattle.std.specs.Result.{result_unwrap_or}
use Rattle.samples.specs.Copy.{copied_reply}
use Rattle.samples.specs.declared.Uncopied.{Uncopied}
use Rattle.samples.proofs.Theorems.{copied-told}
use Rattle.samples.proofs.patterns.patterns_at.Reads as patterns_at
use Rattle.samples.proofs.patterns.patterns_of.Reads as patterns_of
use Rattle.samples.proofs.shorts.shorts_at.Reads as shorts_at
use Rattle.samples.proofs.shorts.shorts_of.Reads as shorts_of
use Rattle.claims.proofs.Promise.{OneAnswer, OneEnd, by-meaning}
use Rattle.samples.proofs.UncopiedNumbered.number.Reads as number

pub shorts-at-one-answer : OneEnd shorts_at.Post (λ κs s. s.1.1.1.1.0.now)
shorts-at-one-answer κs a r r' s s' p q = by-meaning copied-told r r' p q

pub patterns-at-one-answer : OneEnd patterns_at.Post (λ κs s. s.1.1.1.1.0.now)
patterns-at-one-answer κs a r r' s s' p q = by-meaning copied-told r r' p q

pub shorts-of-one-answer : OneEnd shorts_of.Post (λ κs s. s.1.1.1.1.0.now)
shorts-of-one-answer κs a r r' s s' p q = by-meaning copied-told r r' p q

pub patterns-of-one-answer : OneEnd patterns_of.Post (λ κs s. s.1.1.1.1.0.now)
patterns-of-one-answer κs a r r' s s' p q = by-meaning copied-told r r' p q

pub copied-number-one-answer : OneAnswer number.Post
copied-number-one-answer κs a r r' s s' p q = p ∙ sym q

-- the count of a copy is what std's unwrap_or gives with 0
pub copied-count-one-answer : (r : Result ℕ Uncopied) → result_unwrap_or r 0 ≡ (copied_reply r).value
copied-count-one-answer (Ok n) = refl
copied-count-one-answer (Err e) = refl
