-- Each arm has the effect of its kind.
use Rattle.std.proofs.Common.{true, false, refl, ap, ◌∙◌}
use Rattle.body.specs.Numbers.{sofh}
use Rattle.body.specs.Plain.{empty, text}
use Rattle.effect.specs.Says.{verdict_said, judged}
use Rattle.effect.specs.Effect.{effect}
use Rattle.effect.proofs.Laws.{met-is-effect, data-is-effect}
use Rattle.effect.proofs.effects.take.Goals as goal
use Rattle.effect.proofs.effects.take.Goals.{in-SSNC, in-SSNR, in-SFNC, in-SFNR, in-GSNC, in-GFNC}

pub returns-in-SOFH : goal.returns-in-SOFH
unfolding effect
returns-in-SOFH c =
    let a = c.args in
    rw c.in-SOFH.is
    (met-is-effect (sofh a.order a.body.now) a.was c.met.ensures (c.judged.ensures ∙ ap judged c.sofh.ensures) refl)

pub returns-in-EOFH : goal.returns-in-EOFH
unfolding effect
returns-in-EOFH c =
    let a = c.args in
    rw c.in-EOFH.is
    (met-is-effect (empty a.body.now) a.was c.met-in-EOFH.ensures (c.judged-in-EOFH.ensures ∙ ap judged c.empty.ensures) refl)

pub returns-in-TEXT : goal.returns-in-TEXT
unfolding effect
returns-in-TEXT c =
    let a = c.args in
    rw c.in-TEXT.is
    (met-is-effect (text a.order a.body.now) a.was c.met-in-TEXT.ensures (c.judged-in-TEXT.ensures ∙ ap judged c.text.ensures) refl)

pub returns-in-Unknown : goal.returns-in-Unknown
unfolding effect
returns-in-Unknown c =
    let m = c.met-in-Unknown.ensures in
    rw c.in-Unknown.is (record { says = ap verdict_said m.0; shown = m.1; after = m.2 })

-- each of the six data kinds came with what is said of it
pub returns : goal.returns
unfolding effect
returns c =
    let t = c.data_effect.ensures in
    let s = c.args.was in
    elim c.match-kind.branch [
      | in-SSNC w ↦ rw (w.in-SSNC.is, ← w.ssnc.ensures) (data-is-effect s false w.judged-is w.single-judged.ensures t)
      | in-SSNR w ↦ rw (w.in-SSNR.is, ← w.ssnr.ensures) (data-is-effect s false w.judged-is w.single-judged-in-SSNR.ensures t)
      | in-SFNC w ↦ rw (w.in-SFNC.is, ← w.sfnc.ensures) (data-is-effect s false w.judged-is w.single-judged-in-SFNC.ensures t)
      | in-SFNR w ↦ rw (w.in-SFNR.is, ← w.sfnr.ensures) (data-is-effect s false w.judged-is w.single-judged-in-SFNR.ensures t)
      | in-GSNC w ↦ rw (w.in-GSNC.is, ← w.gsnc.ensures) (data-is-effect s true w.judged-is w.grouped-judged.ensures t)
      | in-GFNC w ↦ rw (w.in-GFNC.is, ← w.gfnc.ensures) (data-is-effect s true w.judged-is w.grouped-judged-in-GFNC.ensures t)
    ]
