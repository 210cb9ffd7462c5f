-- What comes of the plan is what the rule says.
use Rattle.std.proofs.Common.{◌∙◌}
use Rattle.samples.specs.Given.{layout_given, count_given, samples_given}
use Rattle.samples.proofs.Copies.{as-told}
use Rattle.samples.proofs.channel.of.Goals as goal

pub returns-clause-said : goal.returns-clause-said
unfolding count_given
returns-clause-said g c =
    let a = c.args in
    let h = as-told (g.T.Sample.number_at a.order) a.s.now (layout_given g.T.Sample.FLOAT a.order a.s.now a.stepped a.channel) (samples_given a.s.now a.stepped) a.out.now c.plan_of-planned.result (rw c.FLOAT.ensures at c.plan_of-planned.ensures.0) in
    c.fill.ensures.said ∙ h.0

pub returns-clause-left : goal.returns-clause-left
unfolding count_given
returns-clause-left g c =
    let a = c.args in
    let h = as-told (g.T.Sample.number_at a.order) a.s.now (layout_given g.T.Sample.FLOAT a.order a.s.now a.stepped a.channel) (samples_given a.s.now a.stepped) a.out.now c.plan_of-planned.result (rw c.FLOAT.ensures at c.plan_of-planned.ensures.0) in
    c.fill.ensures.left ∙ h.1
