-- What a stream shows, where a search stops and which order a stream has are each one answer.
use mathlib.Core.Path.{sym, ◌∙◌}
use Rattle.frame.proofs.Theorems.{order-told}
use Rattle.frame.proofs.ahead_of.Reads as ahead_of
use Rattle.frame.proofs.find_order.Reads as find_order
use Rattle.frame.proofs.good_size.Reads as good_size
use Rattle.frame.proofs.look.Reads as look
use Rattle.frame.proofs.search.Reads as search
use Rattle.claims.proofs.Promise.{OneAnswer}
use Rattle.frame.proofs.NoSyncWordNumbered.number.Reads as number

pub good-size-one-answer : OneAnswer good_size.Post
good-size-one-answer κs a r r' s s' p q = p ∙ sym q

pub look-one-answer : OneAnswer look.Post
look-one-answer κs a r r' s s' p q = p ∙ sym q

pub search-one-answer : OneAnswer search.Post
search-one-answer κs a r r' s s' p q = p ∙ sym q

pub find-order-one-answer : OneAnswer find_order.Post
find-order-one-answer κs a r r' s s' p q = order-told r r' (p ∙ sym q)

pub ahead-of-one-answer : OneAnswer ahead_of.Post
ahead-of-one-answer κs a r r' s s' p q = p ∙ sym q

pub order-number-one-answer : OneAnswer number.Post
order-number-one-answer κs a r r' s s' p q = p ∙ sym q
