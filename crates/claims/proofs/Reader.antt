-- A cursor, a step with its item, the number of items and that of rows are each one answer.
use mathlib.Core.Path.{sym, ◌∙◌}
use Rattle.reader.proofs.Cursor.accept.Reads as accept
use Rattle.reader.proofs.Cursor.lose_step.Reads as lose_step
use Rattle.reader.proofs.Cursor.new.Reads as new
use Rattle.reader.proofs.Cursor.step.Reads as step
use Rattle.reader.proofs.count.Reads as count
use Rattle.reader.proofs.rows_for.Reads as rows_for
use Rattle.reader.proofs.Told.{item-told}
use Rattle.claims.proofs.Promise.{OneAnswer, OnePart}
use Rattle.reader.proofs.ItemNumbered.number.Reads as number
use Rattle.reader.proofs.part.body_of.Reads as body_of

pub new-one-answer : OneAnswer new.Post
new-one-answer κs a r r' s s' p q = p ∙ sym q

pub accept-one-answer : OneAnswer accept.Post
accept-one-answer κs a r r' s s' p q = p ∙ sym q

pub lose-step-one-answer : OneAnswer lose_step.Post
lose-step-one-answer κs a r r' s s' p q = p ∙ sym q

pub step-one-answer : OneAnswer step.Post
step-one-answer κs a r r' s s' p q =
    λ i. record {
      item = item-told r.item r'.item (p.item ∙ sym q.item) i;
      shown = (p.shown ∙ sym q.shown) i;
      cursor = (p.cursor ∙ sym q.cursor) i;
    }

pub count-one-answer : OneAnswer count.Post
count-one-answer κs a r r' s s' p q = p ∙ sym q

pub rows-for-one-answer : OneAnswer rows_for.Post
rows-for-one-answer κs a r r' s s' p q = p ∙ sym q

pub item-number-one-answer : OneAnswer number.Post
item-number-one-answer κs a r r' s s' p q = p ∙ sym q

pub body-of-one-answer : OnePart body_of.Post
body-of-one-answer κs a r r' s s' p q = p ∙ sym q
