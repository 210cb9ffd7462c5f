-- What a chunk tells of its samples.
use Prim.Native.Nat.{ℕ, ◌+◌, ◌-◌, ◌≤◌}
use mathlib.Core.Path.{◌≡◌, refl, sym, ap, ◌∙◌}
use mathlib.Core.Bool.{Bool, true, false}
use mathlib.Core.List.{List}
use native.Mathlib.Omega.{arith}
use lib.ListN.{length, take, drop, length-drop}
use lib.Seq.{drop-drop, length-take-le}
use Rattle.std.specs.Prelude.{Result, Ok, Err}
use Rattle.num.specs.Answer.{Answer, gives, refuses}
use Rattle.num.specs.declared.Order.{Order}
use Rattle.frame.specs.Ahead.{is_chunk}
use Rattle.frame.specs.declared.Ahead.{Ahead}
use Rattle.frame.proofs.Looks.{ahead-by}
use Rattle.body.specs.Kind.{kind_of}
use Rattle.body.specs.Table.{shaped}
use Rattle.body.specs.declared.sampled.Data.{Data}
use Rattle.effect.specs.Says.{Says, ok, unknown, bad, waits, ready}
use Rattle.effect.specs.Ready.{ready_data}
use Rattle.reader.specs.Item.{chunk}
use Rattle.reader.specs.Step.{before, step_by, step_of}
use Rattle.reader.specs.declared.Cursor.{Cursor}
use Rattle.reader.proofs.Laws.{chunk-ends, gives-other, other-item}
use Rattle.state.specs.State.{emptied}
use Rattle.state.specs.declared.State.{State}
use Rattle.samples.specs.Layout.{layout}
use Rattle.samples.specs.Copy.{layout_in, layout_by}
use Rattle.samples.specs.Inner.Plan.{number_bytes, lies, Plans, Tells, Sound}
use Rattle.samples.specs.declared.Layout.{Layout}
use Rattle.samples.specs.declared.Plan.{Plan}
use Rattle.samples.specs.declared.Uncopied.{Uncopied}
use Rattle.samples.proofs.Asked.{data-ready, given-lies, none-lies, searching}
use Rattle.samples.proofs.AtCursor.{effect_in, stands}
use Rattle.samples.proofs.Lies.{layout-lies}
use Rattle.samples.proofs.Ready.{effect-ready}

-- what is no chunk has no place for samples
pub none-ahead : (float : Bool) (channel : ℕ) (o : Order) (l : List ℕ) (c : Cursor) (a : Ahead) → is_chunk a ≡ false →
    layout_by float channel (step_by o l c a).shown (step_by o l c a).item ≡ refuses 35
none-ahead float channel o l c a e =
    let g = gives-other o l c a e in
    let t = step_by o l c a in
    rw g.1 (other-item (refuses 35) (λ place code size says. layout_in float channel t.shown says code) g.0 g.2)

-- and a reader that is searching finds nothing ready
pub none-searching : (float : Bool) (channel : ℕ) (o : Order) (l : List ℕ) (c : Cursor) (a : Ahead) → c.in_step ≡ false →
    layout_by float channel (step_by o l c a).shown (step_by o l c a).item ≡ refuses 35
none-searching float channel o l c a e =
    ahead-by (λ (b : Ahead). layout_by float channel (step_by o l c b).shown (step_by o l c b).item ≡ refuses 35)
    (λ code size. let t = effect_in o l code size (emptied true) in
    rw e (sym (none-lies float channel t.shown t.says code (searching o (take size (drop 12 l)) (kind_of code)))))
    (λ b n. none-ahead float channel o l c b n)
    a

in-by : (float : Bool) (channel code : ℕ) (shown : State) (says : Says) (l : Layout) → layout_in float channel shown says code ≡ gives l →
    (d : Data) × (says ≡ ready d) × (layout float (shaped (kind_of code)) channel shown d ≡ gives l)
in-by float channel code shown ok l e = let z : ◌≡◌ {A = ℕ} 0 1 = cc in absurd (omega arith)
in-by float channel code shown unknown l e = let z : ◌≡◌ {A = ℕ} 0 1 = cc in absurd (omega arith)
in-by float channel code shown (bad n) l e = let z : ◌≡◌ {A = ℕ} 0 1 = cc in absurd (omega arith)
in-by float channel code shown (waits n t) l e = let z : ◌≡◌ {A = ℕ} 0 1 = cc in absurd (omega arith)
in-by float channel code shown (ready d) l e = (d, refl, e)

module _ (o : Order) (s : List ℕ) (at code size : ℕ) (state : State) (fits : at + 12 + size ≤ length s) where
  body-size : length (take size (drop 12 (drop at s))) ≡ size
  body-size = length-take-le size (drop 12 (drop at s)) (simp length-drop (omega arith))

  -- the numbers of a channel lie inside the samples of their chunk
  chunk-lies : (float : Bool) (channel : ℕ) (l : Layout) → let t = effect_in o (drop at s) code size state in
      layout_in float channel t.shown t.says code ≡ gives l → lies (number_bytes float) (size - 8) l ≡ true
  chunk-lies float channel l e =
      let t = effect_in o (drop at s) code size state in
      let body = take size (drop 12 (drop at s)) in
      let i = in-by float channel code t.shown t.says l e in
      rw body-size at (layout-lies channel body t.shown i.0 l float (shaped (kind_of code)) (effect-ready o body state i.0 (kind_of code) i.1) i.2)

  module _ (d : Data) (r : gives d ≡ ready_data (effect_in o (drop at s) code size state).says) where
    -- a ready chunk has a time
    pub has-time : 8 ≤ size
    has-time =
        let body = take size (drop 12 (drop at s)) in
        let q = (effect-ready o body state d (kind_of code) (data-ready (effect_in o (drop at s) code size state).says d r)).size in
        omega (arith, body-size)

    -- what is planned for it tells where its samples lie
    pub plan-tells : (float : Bool) (channel : ℕ) (p : Result Plan Uncopied) (a : Answer Layout) (samples : List ℕ) → Plans (layout float (shaped (kind_of code)) channel state d) at size p →
        layout float (shaped (kind_of code)) channel state d ≡ a → samples ≡ take (size - 8) (drop 20 (drop at s)) →
        Tells s a samples p × Sound (number_bytes float) s p
    plan-tells float channel (Ok plan) a samples p e q =
        let n : plan.to - plan.from ≡ size - 8 = omega (arith, p.1, p.2, has-time) in
        let k = sym (given-lies o code (take size (drop 12 (drop at s))) state float channel d r) ∙ p.0 in (
          (sym e ∙ p.0, q ∙ rw (n, p.1, drop-drop 20 at s)),
          (omega (arith, p.1, p.2, has-time), omega (arith, p.2), rw n (chunk-lies float channel plan.layout k)),
        )
    plan-tells float channel (Err why) a samples p e q = (sym e ∙ p, tt)

-- and those of the chunk that a step gives
pub step-lies : (float : Bool) (o : Order) (s : List ℕ) (c : Cursor) (channel p code size : ℕ) (says : Says) → (step_of o s c).item ≡ gives (chunk p code size says) →
    (l : Layout) → layout_in float channel (step_of o s c).shown says code ≡ gives l → lies (number_bytes float) (size - 8) l ≡ true
step-lies float o s c channel p code size says e l h =
    let t = stands o c p code size says s e in
    chunk-lies o s c.place code size (before c.in_step c.state) (chunk-ends o s c.place code size t.here) float channel l (rw (← t.said, ap (λ x. x.shown) t.step) at h)
