-- Eight plain bytes more are passed over.
use Rattle.std.proofs.Common.{refl}
use Rattle.text.proofs.Laws.{plain-none, plain-on, plain-front}
use Rattle.text.proofs.eights.Goals as goal

pub loop-group-init : goal.loop-group-init
loop-group-init c = plain-none _

pub loop-group-preserved : goal.loop-group-preserved
loop-group-preserved c =
    let h = c.in-Some.ensures.cases in
    plain-on c.args.s.now c.loop-group.n 8 c.loop-group.invariant (plain-front _ _ 8 h.enough h.same (c.if-not-plain.ensures refl))
