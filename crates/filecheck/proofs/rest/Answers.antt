-- At the end of the file what is to be said is by whether the header was ended.
use Rattle.std.proofs.Common.{sym, ◌∙◌}
use Rattle.filecheck.proofs.Laws.{ahead-end}
use Rattle.filecheck.proofs.rest.Goals as goal

pub returns-then-reach : goal.returns-then-reach
returns-then-reach c =
    let l = c.loop-reach in
    let e = sym (ahead-end c.args.order c.args.s.now l.items l.reach.place l.reach.ended c.loop-reach-test.false) ∙ l.invariant.left in
    rw c.if-reach.true at e

pub returns-else-reach : goal.returns-else-reach
returns-else-reach c =
    let l = c.loop-reach in
    let e = sym (ahead-end c.args.order c.args.s.now l.items l.reach.place l.reach.ended c.loop-reach-test.false) ∙ l.invariant.left in
    rw c.if-reach.false at e
