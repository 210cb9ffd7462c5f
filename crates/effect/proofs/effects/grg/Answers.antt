-- The value that is put into the state is the one that was read, or its absence.
use Rattle.std.proofs.Common.{ap, ◌∙◌}
use Rattle.body.specs.Groups.{grg}
use Rattle.body.specs.Table.{gains}
use Rattle.state.specs.State.{with_values}
use Rattle.effect.specs.Says.{judged}
use Rattle.effect.specs.Effect.{effect}
use Rattle.effect.proofs.Laws.{set-is-effect, read-held}
use Rattle.effect.proofs.effects.grg.Goals as goal

pub returns : goal.returns
unfolding effect
returns c =
    let a = c.args in
    let e = c.grg-read.ensures in
    set-is-effect gains (λ g. g) (grg a.order a.body.now) a.was (c.set.ensures.0, c.set.ensures.1, c.set.ensures.2 ∙ ap (with_values a.was) c.with_gains.ensures)
    (c.judged.ensures ∙ ap judged e)
    (read-held _ e c.no_gains.ensures c.unwrap_or-value.ensures)
