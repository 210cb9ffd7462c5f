-- The second part goes on where the first ends.
use Rattle.std.proofs.Common.{length, arith}
use Rattle.copy.proofs.Fits.{pairs-room}
use Rattle.copy.proofs.Turns.{grown-on, grown-all}
use Rattle.copy.proofs.runs.run.Goals as goal

pub returns : goal.returns
returns g c =
    let a = c.args in
    let v = g.T.Paired.number_at a.order a.src.now in
    let p = a.pairs in
    let both = grown-on v p.iq p.first 1 p.count a.out.now c.part.new.out c.part-2.new.out 0 a.few p.count c.part.ensures c.part-2.ensures in
    grown-all v p.iq p.first 1 p.count a.out.now c.part-2.new.out p.count both (omega arith) (pairs-room g.T.Paired.SIZE (length a.src.now) p.first 1 p.count (length a.out.now) c.requires.0)
