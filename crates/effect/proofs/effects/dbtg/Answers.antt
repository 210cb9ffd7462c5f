-- The value that is put into the state is the one that was read, or its absence.
use Rattle.std.proofs.Common.{ap, ◌∙◌}
use Rattle.body.specs.Levels.{dbtg}
use Rattle.body.specs.Check.{or_else}
use Rattle.body.specs.Table.{total_gain}
use Rattle.body.specs.Values.{no_level, levelled}
use Rattle.state.specs.State.{with_values}
use Rattle.effect.specs.Says.{judged}
use Rattle.effect.specs.Effect.{effect}
use Rattle.effect.proofs.Laws.{set-is-effect}
use Rattle.effect.proofs.effects.dbtg.Goals as goal

pub returns : goal.returns
unfolding effect
returns c =
    let a = c.args in
    let e = c.dbtg-read.ensures in
    set-is-effect total_gain levelled (dbtg a.order a.body.now) a.was (c.set.ensures.0, c.set.ensures.1, c.set.ensures.2 ∙ ap (with_values a.was) c.with_total_gain.ensures)
    (c.judged.ensures ∙ ap judged e)
    (c.levelled-value.ensures ∙ ap (or_else no_level levelled) e)
