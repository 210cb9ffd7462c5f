-- What stands at the place is the next frame, and each arm is what the rule says of a chunk of that part.
use Rattle.std.proofs.Common.{ap, refl, sym}
use Rattle.num.specs.Answer.{gives}
use Rattle.num.specs.Choice.{either}
use Rattle.filecheck.specs.declared.Part.TheVariants.{Data, Header, HeaderEnd, Other}
use Rattle.filecheck.proofs.Laws.{not-chunk, ahead-not}
use Rattle.filecheck.proofs.Turns.{well, goes, stops}
use Rattle.filecheck.proofs.next.Goals as goal

pub returns-in_default : goal.returns-in_default
returns-in_default c =
    let a = c.args in
    record {
      said = λ n. sym (ahead-not a.order a.s.now n a.was.place a.was.ended c.requires (rw (← c.ahead_of.ensures) (not-chunk c.ahead_of.result c.in_default.not-Chunk)));
      on = tt;
    }

pub returns-in-Data : goal.returns-in-Data
returns-in-Data c =
    let a = c.args in
    let n = c.in-Chunk in
    let k = c.kind_of-kind in
    stops a.order a.s.now a.was.place n.code n.size n.ensures k.result k.ensures Data c.in-Data.ensures c.requires a.was.ended _ (rw c.if-not-ended.true) refl

pub returns-in-Data-2 : goal.returns-in-Data-2
returns-in-Data-2 c =
    let a = c.args in
    let n = c.in-Chunk in
    let k = c.kind_of-kind in
    goes a.order a.s.now a.was.place n.code n.size n.ensures k.result k.ensures Data c.in-Data.ensures c.requires a.was.ended _ (rw c.if-not-ended.false)

pub returns-in-Header : goal.returns-in-Header
returns-in-Header c =
    let a = c.args in
    let n = c.in-Chunk in
    let k = c.kind_of-kind in
    stops a.order a.s.now a.was.place n.code n.size n.ensures k.result k.ensures Header c.in-Header.ensures c.requires a.was.ended _ refl refl

pub returns-in-HeaderEnd : goal.returns-in-HeaderEnd
returns-in-HeaderEnd c =
    let a = c.args in
    let n = c.in-Chunk in
    let k = c.kind_of-kind in
    let w = c.well_formed-in-HeaderEnd in
    goes a.order a.s.now a.was.place n.code n.size n.ensures k.result k.ensures HeaderEnd c.in-HeaderEnd.ensures c.requires a.was.ended _
    (ap (λ b. gives (either a.was.ended b)) (sym (well a.order a.s.now a.was.place n.code n.size n.ensures k.result k.ensures w.result w.ensures)))

pub returns-in-Data-2-2 : goal.returns-in-Data-2-2
returns-in-Data-2-2 c =
    let a = c.args in
    let n = c.in-Chunk in
    let k = c.kind_of-kind in
    goes a.order a.s.now a.was.place n.code n.size n.ensures k.result k.ensures Other c.in-Data-2.ensures c.requires a.was.ended _ refl
