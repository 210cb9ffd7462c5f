-- The value that is put into the state is the one that was read, or its absence.
use Rattle.std.proofs.Common.{ap, ◌∙◌}
use Rattle.body.specs.Groups.{giqp}
use Rattle.body.specs.Table.{group}
use Rattle.effect.specs.Says.{judged}
use Rattle.effect.specs.Effect.{effect}
use Rattle.effect.proofs.Laws.{set-is-effect, read-held}
use Rattle.effect.proofs.effects.giqp.Goals as goal

pub returns : goal.returns
unfolding effect
returns c =
    let a = c.args in
    let e = c.giqp-read.ensures in
    set-is-effect group (λ g. g) (giqp a.order a.body.now) a.was c.set.ensures
    (c.judged.ensures ∙ ap judged e)
    (read-held _ e c.no_packing.ensures c.unwrap_or-values.ensures)
