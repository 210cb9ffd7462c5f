-- Whether bytes are UTF-8 is one answer.
use mathlib.Core.Path.{sym, ◌∙◌}
use Rattle.text.proofs.utf8.Reads as utf8
use Rattle.claims.proofs.Promise.{OneAnswer}

pub utf8-one-answer : OneAnswer utf8.Post
utf8-one-answer κs a r r' s s' p q = p ∙ sym q
