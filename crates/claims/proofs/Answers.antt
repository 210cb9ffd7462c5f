-- The text of each answer is the one that a definition gives.
use mathlib.Core.Path.{sym, ◌∙◌}
use Rattle.answers.proofs.cause.Reads as cause
use Rattle.answers.proofs.copied.Reads as copied
use Rattle.answers.proofs.fault.Reads as fault
use Rattle.answers.proofs.file.Reads as file
use Rattle.answers.proofs.item.Reads as item
use Rattle.answers.proofs.lack.Reads as lack
use Rattle.answers.proofs.order.Reads as order
use Rattle.answers.proofs.refusal.Reads as refusal
use Rattle.answers.proofs.verdict.Reads as verdict
use Rattle.answers.proofs.written.Reads as written
use Rattle.claims.proofs.Promise.{OneAnswer}

pub refusal-text-one-answer : OneAnswer refusal.Post
refusal-text-one-answer κs a r r' s s' p q = p ∙ sym q

pub order-text-one-answer : OneAnswer order.Post
order-text-one-answer κs a r r' s s' p q = p ∙ sym q

pub fault-text-one-answer : OneAnswer fault.Post
fault-text-one-answer κs a r r' s s' p q = p ∙ sym q

pub lack-text-one-answer : OneAnswer lack.Post
lack-text-one-answer κs a r r' s s' p q = p ∙ sym q

pub verdict-text-one-answer : OneAnswer verdict.Post
verdict-text-one-answer κs a r r' s s' p q = p ∙ sym q

pub cause-text-one-answer : OneAnswer cause.Post
cause-text-one-answer κs a r r' s s' p q = p ∙ sym q

pub item-text-one-answer : OneAnswer item.Post
item-text-one-answer κs a r r' s s' p q = p ∙ sym q

pub written-text-one-answer : OneAnswer written.Post
written-text-one-answer κs a r r' s s' p q = p ∙ sym q

pub copied-text-one-answer : OneAnswer copied.Post
copied-text-one-answer κs a r r' s s' p q = p ∙ sym q

pub file-text-one-answer : OneAnswer file.Post
file-text-one-answer κs a r r' s s' p q = p ∙ sym q
