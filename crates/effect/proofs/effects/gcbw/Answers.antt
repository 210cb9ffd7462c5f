-- The value that is put into the state is the one that was read, or its absence.
use Rattle.std.proofs.Common.{ap, ◌∙◌}
use Rattle.body.specs.Numbers.{bw}
use Rattle.body.specs.Check.{or_else}
use Rattle.body.specs.Table.{group_band}
use Rattle.body.specs.Values.{no_number, number}
use Rattle.effect.specs.Says.{judged}
use Rattle.effect.specs.Effect.{effect}
use Rattle.effect.proofs.Laws.{set-is-effect}
use Rattle.effect.proofs.effects.gcbw.Goals as goal

pub returns : goal.returns
unfolding effect
returns c =
    let a = c.args in
    let e = c.bw-read.ensures in
    set-is-effect group_band number (bw a.order a.body.now) a.was c.set.ensures
    (c.judged.ensures ∙ ap judged e)
    (c.held-value.ensures ∙ ap (or_else no_number number) e)
