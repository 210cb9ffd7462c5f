-- Each pair of the part lies inside the bytes, and the slice has room for it.
use Rattle.std.proofs.Common.{◌≡◌, ◌+◌, ◌*◌, length, arith}
use Rattle.copy.proofs.Fits.{pair-inside, pair-below, pairs-room}
use Rattle.copy.proofs.Turns.{grown-pair}
use Rattle.copy.proofs.runs.part.Goals as goal

pub overflow_add-pairs : goal.overflow_add-pairs
overflow_add-pairs g c =
    let a = c.args in
    omega (arith, pair-below g.T.Paired.SIZE (length a.src.now) a.pairs.first 1 a.pairs.count (length a.out.now) c.requires.0 g.met.T.Paired.wide.0 c.loop-j.j (omega arith))

pub lay-requires : goal.lay-requires
lay-requires g c =
    let a = c.args in
    let e : a.pairs.first + c.loop-j.j * 1 ≡ a.pairs.first + c.loop-j.j = omega arith in
    let f = c.requires.0 in
    (rw e at (pair-inside g.T.Paired.SIZE (length a.src.now) a.pairs.first 1 a.pairs.count (length a.out.now) f c.loop-j.j (omega arith)), omega (arith, pairs-room g.T.Paired.SIZE (length a.src.now) a.pairs.first 1 a.pairs.count (length a.out.now) f))

pub loop-j-preserved : goal.loop-j-preserved
loop-j-preserved g c =
    let a = c.args in
    grown-pair (g.T.Paired.number_at a.order a.src.now) a.pairs.iq a.pairs.first 1 a.pairs.count _ _ c.loop-j.out c.loop-j.j c.loop-j.invariant (a.pairs.first + c.loop-j.j) _ (omega arith) (omega arith) c.lay.ensures
