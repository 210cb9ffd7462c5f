-- Each data kind is asked as it takes effect; no other chunk is ready.
use Rattle.std.proofs.Common.{ap, ◌∙◌}
use Rattle.effect.specs.Effect.{effect}
use Rattle.effect.specs.Ready.{ready_data}
use Rattle.effect.proofs.Laws.{no-data, no-samples-of}
use Rattle.effect.proofs.ask.ready_data.Goals as goal

pub returns-in-SSNC : goal.returns-in-SSNC
unfolding effect
returns-in-SSNC c =
    rw (c.in-SSNC.is, ← c.ssnc.ensures) (c.answer.ensures ∙ ap ready_data c.single.ensures.0)

pub returns-in-SSNR : goal.returns-in-SSNR
unfolding effect
returns-in-SSNR c =
    rw (c.in-SSNR.is, ← c.ssnr.ensures) (c.answer-in-SSNR.ensures ∙ ap ready_data c.single-in-SSNR.ensures.0)

pub returns-in-SFNC : goal.returns-in-SFNC
unfolding effect
returns-in-SFNC c =
    rw (c.in-SFNC.is, ← c.sfnc.ensures) (c.answer-in-SFNC.ensures ∙ ap ready_data c.single-in-SFNC.ensures.0)

pub returns-in-SFNR : goal.returns-in-SFNR
unfolding effect
returns-in-SFNR c =
    rw (c.in-SFNR.is, ← c.sfnr.ensures) (c.answer-in-SFNR.ensures ∙ ap ready_data c.single-in-SFNR.ensures.0)

pub returns-in-GSNC : goal.returns-in-GSNC
unfolding effect
returns-in-GSNC c =
    rw (c.in-GSNC.is, ← c.gsnc.ensures) (c.answer-in-GSNC.ensures ∙ ap ready_data c.grouped.ensures.0)

pub returns-in-GFNC : goal.returns-in-GFNC
unfolding effect
returns-in-GFNC c =
    rw (c.in-GFNC.is, ← c.gfnc.ensures) (c.answer-in-GFNC.ensures ∙ ap ready_data c.grouped-in-GFNC.ensures.0)

pub returns-in_default : goal.returns-in_default
returns-in_default c =
    let a = c.args in
    let n = c.in_default in
    no-data a.order a.kind a.body.now a.was
    (no-samples-of a.kind n.not-SSNC n.not-SSNR n.not-SFNC n.not-SFNR n.not-GSNC n.not-GFNC)
