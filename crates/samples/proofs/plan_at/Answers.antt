-- The tests come in a step's order; the chunk ahead is the one that a step would give.
use Rattle.std.proofs.Common.{◌≡◌, ℕ, ◌+◌, ◌≤◌, Bool, true, false, not, List, refl, sym, ◌∙◌, arith, length, take, drop}
use borrow.Author.Tests.{not-true, not-false}
use Rattle.num.specs.Answer.{gives}
use Rattle.num.specs.Choice.{both}
use Rattle.num.specs.declared.Order.{Order}
use Rattle.frame.specs.Ahead.{ahead_of, is_chunk}
use Rattle.frame.specs.declared.Ahead.{Ahead}
use Rattle.frame.specs.declared.Ahead.TheVariants.{End, Chunk, Cut, Stretch}
use Rattle.frame.proofs.Looks.{is-chunk}
use Rattle.body.specs.Kind.{kind_of}
use Rattle.body.specs.declared.kinds.Kind.{Kind}
use Rattle.body.specs.declared.sampled.Data.{Data}
use Rattle.effect.specs.Effect.{effect}
use Rattle.effect.specs.Ready.{ready_data}
use Rattle.reader.specs.Step.{step_by, step_of, accepts, unfit}
use Rattle.reader.specs.declared.Cursor.{Cursor}
use Rattle.reader.proofs.Laws.{step-past, step-unfit, step-ahead, chunk-ends}
use Rattle.state.specs.Good.{good_held}
use Rattle.state.specs.declared.State.{State}
use Rattle.samples.specs.Copy.{layout_at, samples_at}
use Rattle.samples.proofs.Asked.{given-lies, none-lies}
use Rattle.samples.proofs.AtCursor.{effect_in}
use Rattle.samples.proofs.Plans.{none-ahead, none-searching, has-time, plan-tells}
use Rattle.samples.proofs.plan_at.Goals as goal

pub returns-then-s-at : goal.returns-then-s-at
unfolding layout_at
returns-then-s-at c =
    let a = c.args in
    (rw (step-past a.order a.s.now a.cursor c.if-s-at.true), tt)

pub returns-then-cursor-is_good : goal.returns-then-cursor-is_good
unfolding layout_at
returns-then-cursor-is_good c =
    let a = c.args in
    let k : unfit a.cursor ≡ true = rw (← c.is_good.ensures) c.if-cursor-is_good.true in
    (rw (step-unfit a.order a.s.now a.cursor c.if-s-at.false k), tt)

-- past the test of number 3, what is ahead makes the step
ahead : (o : Order) (s : List ℕ) (c : Cursor) (ok : Bool) → ok ≡ good_held c.state.values → c.place ≤ length s → both c.in_step (not ok) ≡ false →
    step_of o s c ≡ step_by o (drop c.place s) c (ahead_of o (drop c.place s))
ahead o s c ok f h k =
    let u : unfit c ≡ false = rw (← f) k in
    step-ahead o s c h u

pub returns-then-not-cursor : goal.returns-then-not-cursor
unfolding layout_at
returns-then-not-cursor c =
    let a = c.args in
    let l = drop a.cursor.place a.s.now in (
      rw (ahead a.order a.s.now a.cursor c.is_good.result c.is_good.ensures c.if-s-at.false c.if-cursor-is_good.false)
          (none-searching a.float a.channel a.order l a.cursor (ahead_of a.order l) (not-true a.cursor.in_step c.if-not-cursor.true)),
      tt,
    )

no-chunk : (a : Ahead) → ((code size : ℕ) → a ≡ Chunk code size → ⊥) → is_chunk a ≡ false
no-chunk End h = refl
no-chunk (Stretch stray) h = refl
no-chunk Cut h = refl
no-chunk (Chunk code size) h = absurd (h code size refl)

pub returns-in_default : goal.returns-in_default
unfolding layout_at
returns-in_default c =
    let a = c.args in
    let l = drop a.cursor.place a.s.now in (
      rw (ahead a.order a.s.now a.cursor c.is_good.result c.is_good.ensures c.if-s-at.false c.if-cursor-is_good.false, ← c.ahead_of.ensures)
          (none-ahead a.float a.channel a.order l a.cursor c.ahead_of.result (no-chunk c.ahead_of.result c.in_default.not-Chunk)),
      tt,
    )

-- the chunk ahead: its body is whole
fits : (o : Order) (s : List ℕ) (c : Cursor) (code size : ℕ) → Chunk code size ≡ ahead_of o (drop c.place s) → c.place + 12 + size ≤ length s
fits o s c code size e = chunk-ends o s c.place code size (is-chunk o (drop c.place s) code size (sym e))

-- and it is the one that a step accepts, in step
step : (o : Order) (s : List ℕ) (c : Cursor) (ok : Bool) → ok ≡ good_held c.state.values → c.place ≤ length s → both c.in_step (not ok) ≡ false → not c.in_step ≡ false →
    (code size : ℕ) → Chunk code size ≡ ahead_of o (drop c.place s) → step_of o s c ≡ accepts c code size (effect_in o (drop c.place s) code size c.state)
step o s c ok f h k i code size e = ahead o s c ok f h k ∙ rw (← e, not-false c.in_step i)

pub data_at-requires : goal.data_at-requires
data_at-requires c = fits c.args.order c.args.s.now c.args.cursor c.in-Chunk.code c.in-Chunk.size c.in-Chunk.ensures

-- the data that was asked for
asked : (o : Order) (l : List ℕ) (code size : ℕ) (state : State) (k : Kind) (d : Data) → k ≡ kind_of code → gives d ≡ ready_data (effect o k (take size (drop 12 l)) state).says →
    gives d ≡ ready_data (effect_in o l code size state).says
asked o l code size state k d e h = rw e at h

pub plan_in-requires : goal.plan_in-requires
plan_in-requires c =
    let a = c.args in
    let n = c.in-Chunk in
    let f = fits a.order a.s.now a.cursor n.code n.size n.ensures in
    let q = asked a.order (drop a.cursor.place a.s.now) n.code n.size a.cursor.state c.kind_of-kind.result c.in-Some.d c.kind_of-kind.ensures c.in-Some.ensures in
    (has-time a.order a.s.now a.cursor.place n.code n.size a.cursor.state f c.in-Some.d q, omega (arith, f))

pub returns-in-Some : goal.returns-in-Some
unfolding layout_at
returns-in-Some c =
    let a = c.args in
    let n = c.in-Chunk in
    let d = c.in-Some.d in
    let q = asked a.order (drop a.cursor.place a.s.now) n.code n.size a.cursor.state c.kind_of-kind.result d c.kind_of-kind.ensures c.in-Some.ensures in
    let place = a.cursor.place in
    let e = step a.order a.s.now a.cursor c.is_good.result c.is_good.ensures c.if-s-at.false c.if-cursor-is_good.false c.if-not-cursor.false n.code n.size n.ensures in
    plan-tells a.order a.s.now place n.code n.size a.cursor.state (fits a.order a.s.now a.cursor n.code n.size n.ensures) d q a.float a.channel c.plan_in.result
    (layout_at a.float a.order a.s.now a.cursor a.channel) (samples_at a.order a.s.now a.cursor)
    (rw c.kind_of-kind.ensures at c.plan_in.ensures)
    (rw e (given-lies a.order n.code (take n.size (drop 12 (drop place a.s.now))) a.cursor.state a.float a.channel d q))
    (rw e)

pub returns-in-None : goal.returns-in-None
unfolding layout_at
returns-in-None c =
    let a = c.args in
    let n = c.in-Chunk in
    let t = effect_in a.order (drop a.cursor.place a.s.now) n.code n.size a.cursor.state in (
      rw (step a.order a.s.now a.cursor c.is_good.result c.is_good.ensures c.if-s-at.false c.if-cursor-is_good.false c.if-not-cursor.false n.code n.size n.ensures)
          (sym (none-lies a.float a.channel t.shown t.says n.code (rw c.kind_of-kind.ensures at c.in-None.ensures))),
      tt,
    )
