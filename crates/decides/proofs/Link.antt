-- The dropped link: after it the old centre frequency is not shown. With nothing lost in between, it is.
use Prim.Native.Nat.{ℕ, ◌<◌}
use mathlib.Core.Path.{◌≡◌, refl, ap, sym, ◌∙◌}
use mathlib.Core.Bool.{Bool, true, false}
use native.Mathlib.Omega.{arith}
use lib.Ieee.{of_bits, to_bits}
use lib.ListN.{take, drop}
use Rattle.num.specs.Answer.{gives}
use Rattle.num.specs.Choice.{each}
use Rattle.num.specs.Number.{bytes_of}
use Rattle.num.specs.declared.Order.TheVariants.{Big}
use Rattle.frame.specs.Frames.{frames_by, frames}
use Rattle.frame.specs.Place.{starts, shows, gap}
use Rattle.body.specs.Kind.{code_of, known, kind_in, kind_of}
use Rattle.body.specs.Lists.{upto}
use Rattle.body.specs.Table.{centre, none, set_by}
use Rattle.body.specs.declared.kinds.Kind.TheVariants.{CF}
use Rattle.body.specs.declared.values.Held.{Held}
use Rattle.state.specs.Good.{good_from, good_numbers, good_held}
use Rattle.state.specs.State.{value_in}
use Rattle.state.specs.declared.State.{State}
use Rattle.effect.specs.Effect.{effect}
use Rattle.reader.specs.Item.{item_said}
use Rattle.reader.specs.IsStep.{IsStep}
use Rattle.reader.specs.Step.{new_cursor, step_of, after}
use Rattle.ending.proofs.Calls.{NewCall, new-met, StepCall}
use Rattle.ending.proofs.Runs.{Run, run-is-step}
use Rattle.decides.specs.Last.{LastIs, NoneSince}
use Rattle.decides.specs.Link.{dropped, unbroken, step_number, ready_at, tuned}

-- Before the link drops, the data is shown with the frequency.
pub before-drop : ((step_number dropped 2).item ≡ gives (ready_at 40)) × (value_in centre (step_number dropped 2).shown.values ≡ tuned)
unfolding step_of after good_held good_numbers good_from each upto of_bits to_bits gap shows starts kind_of kind_in known effect
before-drop = (refl, refl)

-- After it, the data is shown with no frequency at all.
pub after-drop : ((step_number dropped 5).item ≡ gives (ready_at 90)) × (value_in centre (step_number dropped 5).shown.values ≡ none centre)
unfolding step_of after good_held good_numbers good_from each upto of_bits to_bits gap shows starts kind_of kind_in known effect
after-drop = (refl, refl)

-- In step all the way, the same data is shown with the frequency, which still holds.
pub no-drop : ((step_number unbroken 4).item ≡ gives (ready_at 84)) × (value_in centre (step_number unbroken 4).shown.values ≡ tuned)
unfolding step_of after good_held good_numbers good_from each upto of_bits to_bits gap shows starts kind_of kind_in known effect
no-drop = (refl, refl)

-- What the last one is, in both: no chunk has set the frequency since the drop, and where there is no drop the CF__ is the last that did.
pub dropped-none : NoneSince centre (take 5 (frames Big dropped))
unfolding frames_by gap shows starts kind_of kind_in known set_by
dropped-none = record { earlier = take 4 (frames Big dropped); later = take 1 (drop 4 (frames Big dropped)); split = refl; searching = refl; others = (refl, tt) }

pub unbroken-last : LastIs centre (take 4 (frames Big unbroken)) (code_of CF) (bytes_of Big 8 100000000000000)
unfolding frames_by gap shows starts kind_of kind_in known set_by
unbroken-last = record { earlier = take 1 (frames Big unbroken); later = take 2 (drop 2 (frames Big unbroken)); split = refl; setter = refl; others = (refl, (refl, tt)) }

absent-not-tuned : none centre ≡ tuned → ⊥
absent-not-tuned q =
    let e : ◌≡◌ {A = Bool} false true = ap (λ (h : Held). h.present) q in
    let z : ◌≡◌ {A = ℕ} 0 1 = cc in
    omega arith

-- Of any calls that meet the promises:
module _ (start : NewCall) (m : ℕ) (calls : ℕ → StepCall) (r : Run m Big dropped start.result calls) (i : 5 < m) where
  run-step : (k : ℕ) → k < m → IsStep (calls k).result (step_number dropped k)
  run-step k h = run-is-step m Big dropped new_cursor calls (rw (new-met start) at r) k h

  -- The data after the drop is shown with no frequency,
  pub run-after-drop : (item_said (calls 5).result.item ≡ gives (ready_at 90)) × (value_in centre (calls 5).result.shown.values ≡ none centre)
  run-after-drop =
      let t = run-step 5 i in
      (t.item ∙ after-drop.0, ap (λ (a : State). value_in centre a.values) t.shown ∙ after-drop.1)

  -- and so not with the state from before it.
  pub run-not-kept : (calls 5).result.shown ≡ (calls 2).result.shown → ⊥
  run-not-kept e =
      let t = run-step 2 (omega arith) in
      absent-not-tuned (sym run-after-drop.1 ∙ ap (λ (a : State). value_in centre a.values) (e ∙ t.shown) ∙ before-drop.1)
