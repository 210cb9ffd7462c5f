-- The tests come in the rule's order; then each case of what is ahead is a step of that case.
use Rattle.std.proofs.Common.{◌≡◌, ℕ, ◌≤◌, Bool, true, false, not, List, sym, ◌∙◌, arith, length, drop, length-drop}
use Rattle.num.specs.Choice.{both}
use Rattle.num.specs.declared.Order.{Order}
use Rattle.frame.specs.Ahead.{ahead_of}
use Rattle.frame.specs.declared.Ahead.{Ahead}
use Rattle.frame.proofs.Looks.{is-chunk}
use Rattle.state.specs.Good.{good_held}
use Rattle.reader.specs.declared.Cursor.{Cursor}
use Rattle.reader.specs.Step.{step_by, step_of, unfit}
use Rattle.reader.proofs.Laws.{step-past, step-unfit, step-ahead, still-is-step, chunk-ends, chunk-body, chunk-size}
use Rattle.reader.proofs.Cursor.go_on.Goals as goal

pub returns-then-s-at : goal.returns-then-s-at
returns-then-s-at c =
    let a = c.args in
    rw (step-past a.order a.s.now a.self c.if-s-at.true) (still-is-step c.still.ensures)

pub returns-then-self-is_good : goal.returns-then-self-is_good
returns-then-self-is_good c =
    let a = c.args in
    let k : unfit a.self ≡ true = rw (← c.is_good.ensures) c.if-self-is_good.true in
    rw (step-unfit a.order a.s.now a.self c.if-s-at.false k) (still-is-step c.still-then-self-is_good.ensures)

-- what is ahead, and the step that it makes
ahead : (o : Order) (s : List ℕ) (c : Cursor) (ok : Bool) (a : Ahead) → ok ≡ good_held c.state.values → c.place ≤ length s → both c.in_step (not ok) ≡ false →
    a ≡ ahead_of o (drop c.place s) → step_of o s c ≡ step_by o (drop c.place s) c a
ahead o s c ok a f h k e =
    let u : unfit c ≡ false = rw (← f) k in
    step-ahead o s c h u ∙ rw (← e)

pub overflow_add-to : goal.overflow_add-to
overflow_add-to c =
    let a = c.args in
    let n = c.in-Chunk in
    let e = is-chunk a.order (drop a.self.place a.s.now) n.code n.size (sym n.ensures) in
    record { fits = omega (arith, chunk-ends a.order a.s.now a.self.place n.code n.size e) }

pub slice_bounds-chunk-end : goal.slice_bounds-chunk-end
slice_bounds-chunk-end c =
    let a = c.args in
    let n = c.in-Chunk in
    let e = is-chunk a.order (drop a.self.place a.s.now) n.code n.size (sym n.ensures) in
    chunk-ends a.order a.s.now a.self.place n.code n.size e

pub returns-in-End : goal.returns-in-End
returns-in-End c =
    let a = c.args in
    rw (ahead a.order a.s.now a.self c.is_good.result _ c.is_good.ensures c.if-s-at.false c.if-self-is_good.false c.in-End.ensures)
    (still-is-step c.still-in-End.ensures)

pub returns-in-Chunk : goal.returns-in-Chunk
returns-in-Chunk c =
    let a = c.args in
    let n = c.in-Chunk in
    let at = a.self.place in
    let e = is-chunk a.order (drop at a.s.now) n.code n.size (sym n.ensures) in
    rw (ahead a.order a.s.now a.self c.is_good.result _ c.is_good.ensures c.if-s-at.false c.if-self-is_good.false c.in-Chunk.ensures)
    (rw (chunk-body a.order a.s.now at n.code n.size e, chunk-size a.order a.s.now at n.code n.size e) at c.chunk.ensures)

pub returns-in-Cut : goal.returns-in-Cut
returns-in-Cut c =
    let a = c.args in
    rw (ahead a.order a.s.now a.self c.is_good.result _ c.is_good.ensures c.if-s-at.false c.if-self-is_good.false c.in-Cut.ensures, length-drop a.self.place a.s.now)
    c.cut.ensures

pub returns-in-Stretch : goal.returns-in-Stretch
returns-in-Stretch c =
    let a = c.args in
    rw (ahead a.order a.s.now a.self c.is_good.result _ c.is_good.ensures c.if-s-at.false c.if-self-is_good.false c.in-Stretch.ensures)
    c.skip.ensures
