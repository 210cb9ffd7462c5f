-- Each pair of the first so many lies inside the bytes, and the slice has room for it; the two halves of the number that is read
-- are laid.
use Rattle.std.proofs.Common.{◌+◌, length, refl, false, arith}
use Rattle.num.specs.declared.Order.TheVariants.{Big}
use Rattle.copy.specs.Samples.{pattern_at}
use Rattle.copy.proofs.Fits.{pair-inside, pairs-room}
use Rattle.copy.proofs.Turns.{grown-pair, grown-all}
use Rattle.copy.proofs.patterns.turned_run.Goals as goal

pub overflow_add-pairs : goal.overflow_add-pairs
overflow_add-pairs c =
    let a = c.args in
    omega (arith, pair-inside 4 (length a.src.now) a.pairs.first 1 a.pairs.count (length a.out.now) c.requires c.loop-j.j c.loop-j-test.true)

pub long_at-long-requires : goal.long_at-long-requires
long_at-long-requires c =
    let a = c.args in
    omega (arith, pair-inside 4 (length a.src.now) a.pairs.first 1 a.pairs.count (length a.out.now) c.requires c.loop-j.j c.loop-j-test.true)

pub loop-j-preserved : goal.loop-j-preserved
loop-j-preserved c =
    let a = c.args in
    let p = c.long_at-long.ensures in
    rw (p.0, p.1) (grown-pair (pattern_at Big a.src.now) false a.pairs.first 1 a.pairs.count _ _ c.loop-j.out c.loop-j.j c.loop-j.invariant (a.pairs.first + c.loop-j.j) _ (omega arith) (omega arith) refl)

pub returns : goal.returns
returns c =
    let a = c.args in
    grown-all (pattern_at Big a.src.now) false a.pairs.first 1 a.pairs.count a.out.now c.loop-j.out c.loop-j.j c.loop-j.invariant (omega arith) (pairs-room 4 (length a.src.now) a.pairs.first 1 a.pairs.count (length a.out.now) c.requires)
