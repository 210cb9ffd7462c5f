-- Each block of pairs lies inside the bytes, and the slice has room for it.
use Rattle.std.proofs.Common.{◌≡◌, ◌+◌, ◌-◌, ◌*◌, ◌/◌, length, true, rules, arith}
use Rattle.num.specs.declared.Order.TheVariants.{Big}
use Rattle.copy.specs.Samples.{short_at}
use Rattle.copy.proofs.Fits.{pair-inside, pairs-room}
use Rattle.copy.proofs.Turns.{grown-on, grown-block, grown-all}
use Rattle.copy.proofs.shorts.blocks.Goals as goal

pub overflow_add-pairs : goal.overflow_add-pairs
overflow_add-pairs c =
    let a = c.args in
    omega (arith, pair-inside 2 (length a.src.now) a.pairs.first 1 a.pairs.count (length a.out.now) c.requires.0 (a.few + c.loop-b.b * 16) (omega arith))

pub block-requires : goal.block-requires
block-requires c =
    let a = c.args in
    let f = c.requires.0 in
    (omega (arith, pair-inside 2 (length a.src.now) a.pairs.first 1 a.pairs.count (length a.out.now) f (a.few + c.loop-b.b * 16 + 15) (omega arith)), omega (arith, pairs-room 2 (length a.src.now) a.pairs.first 1 a.pairs.count (length a.out.now) f))

pub loop-b-preserved : goal.loop-b-preserved
loop-b-preserved c =
    let a = c.args in
    let j = a.few + c.loop-b.b * 16 in
    let e : a.few + c.loop-b.b * 16 + 16 ≡ a.few + (c.loop-b.b + 1) * 16 = omega arith in
    rw e at (grown-block (short_at Big a.src.now) true a.pairs.first 1 a.pairs.count _ _ c.loop-b.out j c.loop-b.invariant (a.pairs.first + j) 16 _ (omega arith) (omega arith) (search rules) c.block.ensures)

pub returns : goal.returns
returns c =
    let a = c.args in
    let v = short_at Big a.src.now in
    let p = a.pairs in
    let many : c.loop-b.b ≡ (p.count - a.few) / 16 = omega arith in
    let last = rw (c.requires.2, ← many) at c.part-2.ensures in
    let both = grown-on v true p.first 1 p.count a.out.now c.loop-b.out c.part-2.new.out 0 (a.few + c.loop-b.b * 16) p.count c.loop-b.invariant last in
    grown-all v true p.first 1 p.count a.out.now c.part-2.new.out p.count both (omega arith) (pairs-room 2 (length a.src.now) p.first 1 p.count (length a.out.now) c.requires.0)
