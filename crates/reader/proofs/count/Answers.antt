-- The frames passed and the frames ahead are as many as the stream has; an item is had for each.
use Rattle.std.proofs.Common.{◌≡◌, [], false, ap, arith, length, drop, drop_of_length-le}
use Rattle.frame.specs.Frames.{frames}
use Rattle.frame.proofs.Frames.{moves, frames-nil}
use Rattle.effect.specs.Ready.{no_state}
use Rattle.reader.proofs.Theorems.{items-length}
use Rattle.reader.proofs.count.Goals as goal

pub loop-place-smaller : goal.loop-place-smaller
loop-place-smaller c =
    let m = moves c.args.order c.args.s.now c.loop-place.place c.loop-place-test.true in
    omega (arith, m.some, m.fits, c.past-place.ensures)

pub loop-place-preserved : goal.loop-place-preserved
loop-place-preserved c =
    let l = c.loop-place in
    let m = moves c.args.order c.args.s.now l.place c.loop-place-test.true in
    let e = c.past-place.ensures in
    let r = ap length m.rest in
    record {
      fewer = omega (arith, m.some, l.invariant.fewer);
      within = omega (arith, m.fits);
      as_many = rw e (omega (arith, r, l.invariant.as_many));
    }

pub returns : goal.returns
returns c =
    let a = c.args in
    let l = c.loop-place in
    let d : drop l.place a.s.now ≡ [] = drop_of_length-le a.s.now {i = l.place} c.loop-place-test.false in
    let z : length (frames a.order (drop l.place a.s.now)) ≡ 0 = rw d (ap length (frames-nil a.order)) in
    omega (arith, z, l.invariant.as_many, items-length a.order 0 false no_state (frames a.order a.s.now))
