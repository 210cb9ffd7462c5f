-- Each text, and each piece of one, is the one that a definition gives.
use mathlib.Core.Path.{sym, ◌∙◌}
use Rattle.claims.proofs.Promise.{OneAnswer}
use Rattle.listing.proofs.first_line.Reads as first_line
use Rattle.listing.proofs.item_line.Reads as item_line
use Rattle.listing.proofs.last_line.Reads as last_line
use Rattle.listing.proofs.long_line.Reads as long_line
use Rattle.listing.proofs.none_line.Reads as none_line
use Rattle.listing.proofs.piece_at.Reads as piece_at
use Rattle.listing.proofs.word.Reads as word
use Rattle.listing.proofs.words.cause.Reads as cause
use Rattle.listing.proofs.words.decimal.Reads as decimal
use Rattle.listing.proofs.words.hex_word.Reads as hex_word
use Rattle.listing.proofs.words.label.Reads as label
use Rattle.listing.proofs.words.newline.Reads as newline
use Rattle.listing.proofs.words.number.Reads as number
use Rattle.listing.proofs.words.short.Reads as short

pub first-line-one-answer : OneAnswer first_line.Post
first-line-one-answer κs a r r' s s' p q = p ∙ sym q

pub item-line-one-answer : OneAnswer item_line.Post
item-line-one-answer κs a r r' s s' p q = p ∙ sym q

pub last-line-one-answer : OneAnswer last_line.Post
last-line-one-answer κs a r r' s s' p q = p ∙ sym q

pub long-line-one-answer : OneAnswer long_line.Post
long-line-one-answer κs a r r' s s' p q = p ∙ sym q

pub none-line-one-answer : OneAnswer none_line.Post
none-line-one-answer κs a r r' s s' p q = p ∙ sym q

pub piece-at-one-answer : OneAnswer piece_at.Post
piece-at-one-answer κs a r r' s s' p q = p ∙ sym q

pub word-one-answer : OneAnswer word.Post
word-one-answer κs a r r' s s' p q = p ∙ sym q

pub newline-one-answer : OneAnswer newline.Post
newline-one-answer κs a r r' s s' p q = p ∙ sym q

pub number-one-answer : OneAnswer number.Post
number-one-answer κs a r r' s s' p q = p ∙ sym q

pub decimal-one-answer : OneAnswer decimal.Post
decimal-one-answer κs a r r' s s' p q = p ∙ sym q

pub short-one-answer : OneAnswer short.Post
short-one-answer κs a r r' s s' p q = p ∙ sym q

pub hex-word-one-answer : OneAnswer hex_word.Post
hex-word-one-answer κs a r r' s s' p q = p ∙ sym q

pub cause-one-answer : OneAnswer cause.Post
cause-one-answer κs a r r' s s' p q = p ∙ sym q

pub label-one-answer : OneAnswer label.Post
label-one-answer κs a r r' s s' p q = p ∙ sym q
