-- The size alone decides the answer, and the numbers are laid behind the front exactly where that is a next place.
use Rattle.std.proofs.Common.{◌≡◌, ◌∙◌, rules}
use Rattle.std.proofs.lemmas.Int.{to_z-of_z}
use Rattle.std.specs.Int.{w64}
use Rattle.num.specs.Answer.{gives, refuses}
use Rattle.lay.specs.Numbers.{int64}
use Rattle.lay.proofs.Values.{run-one}
use Rattle.writer.specs.Write.{written_said, unwritten_number}
use Rattle.writer.proofs.Bodies.{data-said, data-refused, data-next}
use Rattle.writer.proofs.data.write.Goals as goal

pub returns-in_err-next-clause-said : goal.returns-in_err-next-clause-said
returns-in_err-next-clause-said g c =
    let a = c.args in
    let n = unwritten_number c.in_err-next.field-0.0 in
    let same : written_said c.from_residual.result ≡ refuses n = search rules in
    same ∙ data-said g.T.Number.bits g.row.N a.order a.code a.unit a.place a.time a.samples.now a.out.now c.saturating_mul-rest.result c.saturating_add-size.result c.requires.sized c.saturating_mul-rest.ensures c.saturating_add-size.ensures (refuses n) (c.in_err-next.ensures.said _ (search rules))

pub returns-in_err-next-clause-left : goal.returns-in_err-next-clause-left
returns-in_err-next-clause-left g c =
    let a = c.args in
    let n = unwritten_number c.in_err-next.field-0.0 in
    data-refused g.T.Number.bits g.row.N a.order a.code a.unit a.place a.time a.samples.now a.out.now c.saturating_mul-rest.result c.saturating_add-size.result c.requires.sized c.saturating_mul-rest.ensures c.saturating_add-size.ensures n (c.in_err-next.ensures.said _ (search rules))

pub returns-clause-said : goal.returns-clause-said
returns-clause-said g c =
    let a = c.args in
    data-said g.T.Number.bits g.row.N a.order a.code a.unit a.place a.time a.samples.now a.out.now c.saturating_mul-rest.result c.saturating_add-size.result c.requires.sized c.saturating_mul-rest.ensures c.saturating_add-size.ensures (gives c.in_ok-next.next) (c.in_ok-next.ensures.said _ (search rules))

pub returns-clause-left : goal.returns-clause-left
returns-clause-left g c =
    let a = c.args in
    let ok = c.in_ok-next in
    let time = rw (to_z-of_z w64 a.time c.ranges.time, run-one (int64 a.order) a.time) at c.run.ensures.left in
    data-next g.T.Number.bits g.row.N a.order a.code a.unit a.place a.time a.samples.now a.out.now c.saturating_mul-rest.result c.saturating_add-size.result c.requires.sized c.saturating_mul-rest.ensures c.saturating_add-size.ensures ok.next _ _ _ (ok.ensures.said _ (search rules)) ok.ensures.room c.put_header.ensures time c.run-2.ensures.left
