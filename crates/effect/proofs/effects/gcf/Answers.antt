-- The value that is put into the state is the one that was read, or its absence.
use Rattle.std.proofs.Common.{ap, ◌∙◌}
use Rattle.body.specs.Groups.{gcf}
use Rattle.body.specs.Table.{frequencies}
use Rattle.effect.specs.Says.{judged}
use Rattle.effect.specs.Effect.{effect}
use Rattle.effect.proofs.Laws.{set-is-effect, read-held}
use Rattle.effect.proofs.effects.gcf.Goals as goal

pub returns : goal.returns
unfolding effect
returns c =
    let a = c.args in
    let e = c.gcf-read.ensures in
    set-is-effect frequencies (λ g. g) (gcf a.order a.body.now) a.was c.set.ensures
    (c.judged.ensures ∙ ap judged e)
    (read-held _ e c.no_hertz.ensures c.unwrap_or-values.ensures)
