-- Each pair lies inside the bytes, and the slice has room for it.
use Rattle.std.proofs.Common.{◌+◌, ◌*◌, length, refl, arith}
use Rattle.copy.proofs.Fits.{pair-inside, pair-below, pairs-room}
use Rattle.copy.proofs.Turns.{grown-pair, grown-all}
use Rattle.copy.proofs.runs.steps.Goals as goal

pub overflow_mul-j : goal.overflow_mul-j
overflow_mul-j g c =
    let a = c.args in
    omega (arith, pair-below g.T.Paired.SIZE (length a.src.now) a.pairs.first a.pairs.step a.pairs.count (length a.out.now) c.requires g.met.T.Paired.wide.0 c.loop-j.j (omega arith))

pub overflow_add-pairs : goal.overflow_add-pairs
overflow_add-pairs g c =
    let a = c.args in
    omega (arith, pair-below g.T.Paired.SIZE (length a.src.now) a.pairs.first a.pairs.step a.pairs.count (length a.out.now) c.requires g.met.T.Paired.wide.0 c.loop-j.j (omega arith))

pub lay-requires : goal.lay-requires
lay-requires g c =
    let a = c.args in
    let p = a.pairs in
    (pair-inside g.T.Paired.SIZE (length a.src.now) p.first p.step p.count (length a.out.now) c.requires c.loop-j.j (omega arith), omega (arith, pairs-room g.T.Paired.SIZE (length a.src.now) p.first p.step p.count (length a.out.now) c.requires))

pub loop-j-preserved : goal.loop-j-preserved
loop-j-preserved g c =
    let a = c.args in
    let p = a.pairs in
    grown-pair (g.T.Paired.number_at a.order a.src.now) p.iq p.first p.step p.count _ _ c.loop-j.out c.loop-j.j c.loop-j.invariant (p.first + c.loop-j.j * p.step) _ refl (omega arith) c.lay.ensures

pub returns : goal.returns
returns g c =
    let a = c.args in
    let p = a.pairs in
    grown-all (g.T.Paired.number_at a.order a.src.now) p.iq p.first p.step p.count a.out.now c.loop-j.out c.loop-j.j c.loop-j.invariant (omega arith) (pairs-room g.T.Paired.SIZE (length a.src.now) p.first p.step p.count (length a.out.now) c.requires)
