-- What the check of a file says is one answer.
use mathlib.Core.Path.{sym, ◌∙◌}
use Rattle.filecheck.proofs.Theorems.{file-told}
use Rattle.filecheck.proofs.check.Reads as check
use Rattle.claims.proofs.Promise.{OneAnswer}
use Rattle.filecheck.proofs.BadFileNumbered.number.Reads as number

pub check-one-answer : OneAnswer check.Post
check-one-answer κs a r r' s s' p q = file-told r r' (p ∙ sym q)

pub file-number-one-answer : OneAnswer number.Post
file-number-one-answer κs a r r' s s' p q = p ∙ sym q
