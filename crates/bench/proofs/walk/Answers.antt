-- A step from a fit cursor inside the stream is one turn of the walk; where the walk stops, nothing more is ahead or left.
use Rattle.std.proofs.Common.{◌≡◌, ◌+◌, ◌-◌, suc, sym, ◌∙◌, arith, inl, inr}
use Rattle.bench.proofs.Laws.{turn, sound-end, stays}
use Rattle.bench.proofs.walk.Goals as goal

pub loop-preserved : goal.loop-preserved
loop-preserved c =
    let i = c.loop.invariant in
    let t = turn _ _ c.loop.cursor (omega (arith, i.within, c.if-cursor-s.false)) i.fit c.step-stepped.ensures c.sound_in-sound.ensures in
    let m : c.args.steps - c.loop.counter ≡ suc (c.args.steps - (c.loop.counter + 1)) = omega (arith, c.loop-test.true) in
    record {
      fit = t.fit;
      within = t.within;
      fewer = omega (arith, i.fewer, t.on);
      most = omega (arith, i.most, t.most);
      sum = omega (arith, t.sum, i.sum);
      left = sym (t.next _) ∙ rw (← m) i.left;
    }

pub returns-after-loop-clause-reached : goal.returns-after-loop-clause-reached
returns-after-loop-clause-reached c =
    let i = c.loop.invariant in
    sym (stays c.args.order _ c.loop.cursor c.loop.counter _ i.fit i.within (inr c.loop-test.false)) ∙ i.left

pub returns-after-loop-clause-counted : goal.returns-after-loop-clause-counted
returns-after-loop-clause-counted c h =
    let i = c.loop.invariant in
    omega (arith, i.sum, sound-end c.args.order c.args.s.now c.loop.cursor (omega (arith, i.fewer, h, c.loop-test.false)))

pub returns-then-cursor-s-clause-reached : goal.returns-then-cursor-s-clause-reached
returns-then-cursor-s-clause-reached c =
    let i = c.loop.invariant in
    sym (stays c.args.order _ c.loop.cursor c.loop.counter _ i.fit i.within (inl (omega (arith, c.if-cursor-s.true)))) ∙ i.left

pub returns-then-cursor-s-clause-counted : goal.returns-then-cursor-s-clause-counted
returns-then-cursor-s-clause-counted c h =
    omega (arith, c.loop.invariant.sum, sound-end c.args.order c.args.s.now c.loop.cursor (omega (arith, c.if-cursor-s.true)))
