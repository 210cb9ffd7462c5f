-- Where the reader waits it holds the cursor, and else it goes on from the one that the step leaves.
use Rattle.std.proofs.Common.{◌≡◌, sym, ap, ◌∙◌, ◌+◌, ◌-◌, length, true, false}
use native.Mathlib.Omega.{arith}
use Rattle.reader.specs.Step.{step_of}
use Rattle.growing.specs.Held.{waits, held_by}
use Rattle.growing.proofs.Held.{held-stops, held-goes}
use Rattle.follow.proofs.read_on.Goals as goal

pub returns-then-waits : goal.returns-then-waits
returns-then-waits g c =
    let a = c.args in
    let l = c.loop in
    let said : waits (step_of a.order a.s.now l.at).item ≡ true = sym (c.waits.ensures ∙ ap waits c.step-stepped.ensures.item) ∙ c.if-waits.true in
    sym (held-stops (length a.s.now - l.counter) a.order a.s.now l.at (omega arith) said) ∙ l.invariant

pub loop-preserved : goal.loop-preserved
loop-preserved g c =
    let a = c.args in
    let l = c.loop in
    let said : waits (step_of a.order a.s.now l.at).item ≡ false = sym (c.waits.ensures ∙ ap waits c.step-stepped.ensures.item) ∙ c.if-waits.false in
    let left = length a.s.now - (l.counter + 1) in
    rw c.step-stepped.ensures.cursor (sym (held-goes (length a.s.now - l.counter) left a.order a.s.now l.at (omega arith) said)) ∙ l.invariant

pub returns : goal.returns
unfolding held_by
returns g c =
    let none : length c.args.s.now - c.loop.counter ≡ 0 = omega arith in
    rw none at c.loop.invariant
