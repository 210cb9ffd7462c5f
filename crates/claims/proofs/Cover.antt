-- Whether a group covers its pairs is one answer.
use mathlib.Core.Path.{sym, ◌∙◌}
use Rattle.cover.proofs.covers.Reads as covers
use Rattle.claims.proofs.Promise.{OneAnswer}

pub covers-one-answer : OneAnswer covers.Post
covers-one-answer κs a r r' s s' p q = p ∙ sym q
