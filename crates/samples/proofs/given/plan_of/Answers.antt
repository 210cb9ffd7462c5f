-- Each test that fails leaves nothing ready; past them all the chunk in the stream is the one that was given.
use Rattle.std.proofs.Common.{◌≡◌, ℕ, ◌+◌, ◌≤◌, Bool, true, false, List, sym, ap, ◌∙◌, arith, length, take, drop, not, ◌&&◌, int_eq, eqb}
use borrow.Author.Tests.{not-true, not-false}
use Rattle.num.specs.Answer.{gives}
use Rattle.num.specs.declared.Order.{Order}
use Rattle.frame.specs.Ahead.{ahead_of}
use Rattle.frame.proofs.Looks.{is-chunk}
use Rattle.body.specs.Kind.{kind_of}
use Rattle.body.specs.declared.kinds.Kind.{Kind}
use Rattle.body.specs.declared.sampled.Data.{Data}
use Rattle.effect.specs.Says.{ready}
use Rattle.effect.specs.Effect.{effect}
use Rattle.effect.specs.Ready.{ready_data}
use Rattle.effect.specs.declared.Verdict.{Verdict}
use Rattle.effect.specs.declared.Verdict.TheVariants.{Ready}
use Rattle.reader.specs.Item.{chunk, item_said}
use Rattle.reader.specs.declared.Item.{Item}
use Rattle.reader.specs.declared.Item.TheVariants.{Chunk}
use Rattle.reader.proofs.Laws.{chunk-ends}
use Rattle.state.specs.declared.State.{State}
use Rattle.samples.specs.Given.{same_data, is_that, layout_given, samples_given}
use Rattle.samples.proofs.AtCursor.{effect_in}
use Rattle.samples.proofs.Plans.{has-time, plan-tells}
use Rattle.samples.proofs.There.{same-data, same-derived, own-data, is-that, no-chunk, not-ready}
use Rattle.samples.proofs.given.plan_of.Goals as goal

pub returns-in_default : goal.returns-in_default
unfolding layout_given
returns-in_default c =
    let a = c.args in
    (no-chunk a.float a.order a.s.now a.channel a.stepped.shown a.stepped.item c.in_default.not-Chunk, tt)

pub returns-in_default-verdict : goal.returns-in_default-verdict
unfolding layout_given
returns-in_default-verdict c =
    let a = c.args in
    let i = c.in-Chunk in
    (rw i.is (not-ready a.float a.order a.s.now a.channel a.stepped.shown i.place i.code i.size i.verdict c.in_default-verdict.not-Ready), tt)

-- a chunk that is said to be ready was given
said : {i : Item} (place code size : ℕ) {v : Verdict} (d : Data) → i ≡ Chunk place code size v → v ≡ Ready d → item_said i ≡ gives (chunk place code size (ready d))
said place code size d e h = rw (e, h)

pub returns-then-not-stands : goal.returns-then-not-stands
unfolding layout_given
returns-then-not-stands c =
    let i = c.in-Chunk in
    (rw (said i.place i.code i.size c.in-Ready.d i.is c.in-Ready.is, ← c.stands.ensures, c.if-not-stands.true), tt)

-- the body of the chunk that the stream has is whole
fits : (o : Order) (s : List ℕ) (place code size : ℕ) (b : Bool) → b ≡ is_that code size (ahead_of o (drop place s)) → b ≡ true → place + 12 + size ≤ length s
fits o s place code size b e h =
    let l = drop place s in
    chunk-ends o s place code size (is-chunk o l code size (is-that code size (ahead_of o l) (sym e ∙ h)))

pub data_at-requires : goal.data_at-requires
data_at-requires c =
    let i = c.in-Chunk in
    fits c.args.order c.args.s.now i.place i.code i.size c.stands.result c.stands.ensures c.if-not-stands.false

pub returns-in_default-data_at : goal.returns-in_default-data_at
unfolding layout_given
returns-in_default-data_at c =
    let i = c.in-Chunk in
    let q = rw c.kind_of-kind.ensures at c.in_default-data_at.ensures in
    (rw (said i.place i.code i.size c.in-Ready.d i.is c.in-Ready.is, ← c.stands.ensures, c.if-not-stands.false, ← q), tt)

-- the data that was asked for
asked : (o : Order) (l : List ℕ) (code size : ℕ) (state : State) (k : Kind) (d : Data) → k ≡ kind_of code → gives d ≡ ready_data (effect o k (take size (drop 12 l)) state).says →
    gives d ≡ ready_data (effect_in o l code size state).says
asked o l code size state k d e h = rw e at h

pub returns-then-ne : goal.returns-then-ne
unfolding layout_given
returns-then-ne c =
    let a = c.args in
    let i = c.in-Chunk in
    let found = c.in-Some.found in
    let q = asked a.order (drop i.place a.s.now) i.code i.size a.stepped.shown c.kind_of-kind.result found c.kind_of-kind.ensures c.in-Some.ensures in
    let other : same_data found c.in-Ready.d ≡ false = sym (same-derived found c.in-Ready.d) ∙ not-true _ (sym c.ne.ensures ∙ c.if-ne.true) in
    (rw (said i.place i.code i.size c.in-Ready.d i.is c.in-Ready.is, ← c.stands.ensures, c.if-not-stands.false, ← q, other), tt)

-- it is the data that was given
again : (o : Order) (l : List ℕ) (code size : ℕ) (state : State) (k : Kind) (found d : Data) (b : Bool) → k ≡ kind_of code →
    gives found ≡ ready_data (effect o k (take size (drop 12 l)) state).says → b ≡ not (int_eq found.time d.time && eqb found.samples d.samples) → b ≡ false →
    gives d ≡ ready_data (effect_in o l code size state).says
again o l code size state k found d b e h t u =
    ap gives (sym (same-data found d (sym (same-derived found d) ∙ not-false _ (sym t ∙ u)))) ∙ asked o l code size state k found e h

pub plan_in-requires : goal.plan_in-requires
plan_in-requires c =
    let a = c.args in
    let i = c.in-Chunk in
    let d = c.in-Ready.d in
    let f = fits a.order a.s.now i.place i.code i.size c.stands.result c.stands.ensures c.if-not-stands.false in
    let q = again a.order (drop i.place a.s.now) i.code i.size a.stepped.shown c.kind_of-kind.result c.in-Some.found d c.ne.result c.kind_of-kind.ensures c.in-Some.ensures c.ne.ensures c.if-ne.false in
    (has-time a.order a.s.now i.place i.code i.size a.stepped.shown f d q, omega (arith, f))

pub returns : goal.returns
unfolding layout_given
returns c =
    let a = c.args in
    let i = c.in-Chunk in
    let d = c.in-Ready.d in
    let f = fits a.order a.s.now i.place i.code i.size c.stands.result c.stands.ensures c.if-not-stands.false in
    let q = again a.order (drop i.place a.s.now) i.code i.size a.stepped.shown c.kind_of-kind.result c.in-Some.found d c.ne.result c.kind_of-kind.ensures c.in-Some.ensures c.ne.ensures c.if-ne.false in
    let e = said i.place i.code i.size d i.is c.in-Ready.is in
    plan-tells a.order a.s.now i.place i.code i.size a.stepped.shown f d q a.float a.channel c.plan_in.result
    (layout_given a.float a.order a.s.now a.stepped a.channel) (samples_given a.s.now a.stepped)
    (rw c.kind_of-kind.ensures at c.plan_in.ensures)
    (rw (e, ← c.stands.ensures, c.if-not-stands.false, ← q, own-data d))
    (rw e)
