-- The mark is set where the chunk is well-formed.
use Rattle.std.proofs.Common.{ap, ◌∙◌, ◌||◌}
use Rattle.num.specs.Answer.{Answer}
use Rattle.body.specs.Plain.{empty}
use Rattle.state.specs.State.{with_mark}
use Rattle.effect.specs.Says.{judged}
use Rattle.effect.specs.Effect.{marked, effect}
use Rattle.effect.proofs.Laws.{met-is-effect, marks-or}
use Rattle.effect.proofs.effects.iqdc.Goals as goal

pub returns : goal.returns
unfolding effect
returns c =
    let a = c.args in
    let e = c.empty-read.ensures in
    met-is-effect (empty a.body.now) (with_mark a.was (marked (empty a.body.now) a.was.mark)) c.met.ensures
    (c.judged.ensures ∙ ap judged e)
    (c.with_mark.ensures ∙ ap (with_mark a.was) (ap (λ x. x || a.was.mark) c.is_ok.ensures.value ∙ marks-or c.empty-read.result a.was.mark ∙ ap (λ (x : Answer (Unit {0})). marked x a.was.mark) e))
