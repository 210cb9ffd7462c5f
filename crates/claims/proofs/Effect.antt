-- What is said of a chunk, the state that it shows and the state that it leaves are one answer, and so is its data where it is ready.
use mathlib.Core.Path.{sym, ◌∙◌}
use Rattle.effect.proofs.ask.ready_data.Reads as ready_data
use Rattle.effect.proofs.effects.take.Reads as take
use Rattle.claims.proofs.Promise.{OneAnswer}
use Rattle.claims.proofs.Told.{asked-told}
use Rattle.reader.proofs.Told.{verdict-told}
use Rattle.effect.proofs.LackNumbered.number.Reads as lack_number
use Rattle.effect.proofs.VerdictNumbered.number.Reads as verdict_number

pub take-one-answer : OneAnswer take.Post
take-one-answer κs a r r' s s' p q =
    λ i. record {
      verdict = verdict-told r.verdict r'.verdict (p.says ∙ sym q.says) i;
      shown = (p.shown ∙ sym q.shown) i;
      state = (p.after ∙ sym q.after) i;
    }

pub ready-data-one-answer : OneAnswer ready_data.Post
ready-data-one-answer κs a r r' s s' p q = asked-told r r' (p ∙ sym q)

pub lack-number-one-answer : OneAnswer lack_number.Post
lack-number-one-answer κs a r r' s s' p q = p ∙ sym q

pub verdict-number-one-answer : OneAnswer verdict_number.Post
verdict-number-one-answer κs a r r' s s' p q = p ∙ sym q
