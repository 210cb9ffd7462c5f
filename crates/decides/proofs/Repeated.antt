-- No repeated state: a program that goes on showing a state after a value of it has changed does not meet the promises.
use Prim.Native.Nat.{ℕ, ◌<◌}
use mathlib.Core.Path.{◌≡◌, ap, sym, ◌∙◌}
use mathlib.Core.Bool.{false}
use mathlib.Core.List.{List}
use lib.ListN.{take}
use Rattle.num.specs.Answer.{Answer, gives}
use Rattle.num.specs.Choice.{both}
use Rattle.num.specs.declared.Order.{Order}
use Rattle.frame.specs.Frames.{frames}
use Rattle.body.specs.Kind.{kind_of}
use Rattle.body.specs.Table.{Slot, Value, none, sets, row, shaped}
use Rattle.body.specs.declared.sampled.Data.{Data}
use Rattle.state.specs.State.{value_in}
use Rattle.state.specs.declared.State.{State}
use Rattle.effect.specs.declared.Verdict.TheVariants.{Ready}
use Rattle.reader.specs.declared.Item.TheVariants.{Chunk}
use Rattle.ending.proofs.Calls.{NewCall, StepCall}
use Rattle.ending.proofs.Runs.{Run}
use Rattle.decides.specs.Last.{LastIs, NoneSince, last_values, group_shaped, shown_by, is_counted}
use Rattle.decides.proofs.Promised.{run-last-decides, run-last-none, run-last-well}

-- Calls of step on a stream, from a new cursor, of which call k answers with a ready chunk, and the state that call j showed.
module _ (o : Order) (s : List ℕ) (start : NewCall) (m : ℕ) (calls : ℕ → StepCall) (r : Run m o s start.result calls)
    (k : ℕ) (i : k < m) (p code size : ℕ) (d : Data) (e : (calls k).result.item ≡ Chunk p code size (Ready d)) (j : ℕ) (x : Slot) where
  same-in : (calls k).result.shown ≡ (calls j).result.shown → value_in x (calls j).result.shown.values ≡ value_in x (calls k).result.shown.values
  same-in q = ap (λ (a : State). value_in x a.values) (sym q)

  -- If a value that call j showed differs from what the last chunk that sets it before the ready chunk left to be shown, call k does
  -- not show the state of call j.
  pub no-repeated-state : (value_in x (calls j).result.shown.values ≡ value_in x (shown_by (kind_of code) (last_values o (take k (frames o s)))) → ⊥) →
      (calls k).result.shown ≡ (calls j).result.shown → ⊥
  no-repeated-state h q = h (same-in q ∙ ap (value_in x) (run-last-decides o s start m calls r k i p code size d e))

  -- Nor does it where the last such chunk is well-formed and its body has another value.
  pub no-outdated-value : (c : ℕ) (b : List ℕ) → LastIs x (take k (frames o s)) c b →
      {A : Type 0} (hold : A → Value x) (read : Order → List ℕ → Answer A) (a : A) → row (kind_of c) ≡ sets x hold read → read o b ≡ gives a →
      both (group_shaped (shaped (kind_of code))) (is_counted x) ≡ false → (value_in x (calls j).result.shown.values ≡ hold a → ⊥) →
      (calls k).result.shown ≡ (calls j).result.shown → ⊥
  no-outdated-value c b l hold read a w g n h q = h (same-in q ∙ run-last-well o s start m calls r k i p code size d e x c b l hold read a w g n)

  -- Nor where call j showed a value that no chunk has set since the step was regained.
  pub no-kept-value : NoneSince x (take k (frames o s)) → (value_in x (calls j).result.shown.values ≡ none x → ⊥) → (calls k).result.shown ≡ (calls j).result.shown → ⊥
  no-kept-value n h q = h (same-in q ∙ run-last-none o s start m calls r k i p code size d e x n)
