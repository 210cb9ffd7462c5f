-- The value that is put into the state is the one that was read, or its absence.
use Rattle.std.proofs.Common.{ap, ◌∙◌}
use Rattle.body.specs.Levels.{dbfs}
use Rattle.body.specs.Check.{or_else}
use Rattle.body.specs.Table.{full_scale}
use Rattle.body.specs.Values.{no_level, levelled}
use Rattle.effect.specs.Says.{judged}
use Rattle.effect.specs.Effect.{effect}
use Rattle.effect.proofs.Laws.{set-is-effect}
use Rattle.effect.proofs.effects.dbfs.Goals as goal

pub returns : goal.returns
unfolding effect
returns c =
    let a = c.args in
    let e = c.dbfs-read.ensures in
    set-is-effect full_scale levelled (dbfs a.order a.body.now) a.was c.set.ensures
    (c.judged.ensures ∙ ap judged e)
    (c.levelled-value.ensures ∙ ap (or_else no_level levelled) e)
