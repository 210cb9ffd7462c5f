-- What comes of the plan is what the rule says.
use Rattle.std.proofs.Common.{◌∙◌}
use Rattle.samples.specs.Copy.{layout_at, count_of, samples_at}
use Rattle.samples.proofs.Copies.{as-told}
use Rattle.samples.proofs.channel.at.Goals as goal

pub returns-clause-said : goal.returns-clause-said
unfolding count_of
returns-clause-said g c =
    let a = c.args in
    let h = as-told (g.T.Sample.number_at a.order) a.s.now (layout_at g.T.Sample.FLOAT a.order a.s.now a.cursor a.channel) (samples_at a.order a.s.now a.cursor) a.out.now c.plan_at-planned.result (rw c.FLOAT.ensures at c.plan_at-planned.ensures.0) in
    c.fill.ensures.said ∙ h.0

pub returns-clause-left : goal.returns-clause-left
unfolding count_of
returns-clause-left g c =
    let a = c.args in
    let h = as-told (g.T.Sample.number_at a.order) a.s.now (layout_at g.T.Sample.FLOAT a.order a.s.now a.cursor a.channel) (samples_at a.order a.s.now a.cursor) a.out.now c.plan_at-planned.result (rw c.FLOAT.ensures at c.plan_at-planned.ensures.0) in
    c.fill.ensures.left ∙ h.1
