-- The last one decides, said of the promises: of any calls of Cursor::new and Cursor::step that meet them.
use Prim.Native.Nat.{ℕ, ◌<◌}
use mathlib.Core.Path.{◌≡◌, ap, sym, ◌∙◌}
use mathlib.Core.Bool.{true, false}
use mathlib.Core.List.{List}
use lib.ListN.{take}
use Rattle.num.specs.Answer.{Answer, gives, refuses}
use Rattle.num.specs.Choice.{both}
use Rattle.num.specs.declared.Order.{Order}
use Rattle.frame.specs.Frames.{frames}
use Rattle.body.specs.Kind.{kind_of}
use Rattle.body.specs.Table.{Slot, group, frequencies, gains, Value, none, sets, row, shaped}
use Rattle.body.specs.Verdict.{verdict}
use Rattle.body.specs.declared.sampled.Data.{Data}
use Rattle.state.specs.State.{value_in}
use Rattle.state.specs.Sums.{sums_of}
use Rattle.state.specs.declared.State.{State}
use Rattle.effect.specs.Ready.{hertz_of, gains_of}
use Rattle.effect.specs.declared.Verdict.TheVariants.{Ready}
use Rattle.reader.specs.Item.{item_said}
use Rattle.reader.specs.Step.{new_cursor}
use Rattle.reader.specs.declared.Item.TheVariants.{Chunk}
use Rattle.ending.proofs.Calls.{NewCall, new-met, StepCall}
use Rattle.ending.proofs.Runs.{Run, run-is-step}
use Rattle.decides.specs.Last.{LastIs, NoneSince, last_value, last_values, group_shaped, shown_by, is_counted}
use Rattle.decides.proofs.Last.{last-sums, last-group, last-none, last-malformed, last-well}
use Rattle.decides.proofs.Shown.{last-decides}

-- Calls of step on a stream, from a new cursor, of which call k answers with a ready chunk.
module _ (o : Order) (s : List ℕ) (start : NewCall) (m : ℕ) (calls : ℕ → StepCall) (r : Run m o s start.result calls)
    (k : ℕ) (i : k < m) (p code size : ℕ) (d : Data) (e : (calls k).result.item ≡ Chunk p code size (Ready d)) where
  -- Each slot is shown with the value of the last chunk that sets it since the step was regained.
  pub run-last-decides : (calls k).result.shown.values ≡ shown_by (kind_of code) (last_values o (take k (frames o s)))
  run-last-decides =
      let t = run-is-step m o s new_cursor calls (rw (new-met start) at r) k i in
      ap (λ (a : State). a.values) t.shown ∙ last-decides o s k p code size d (sym t.item ∙ ap item_said e)

  -- So are the sums: every chunk shows those of the dBTG and the gains that it shows.
  pub run-last-sums : (calls k).result.shown.values.sums ≡ sums_of (calls k).result.shown.values.total_gain (calls k).result.shown.values.gains
  run-last-sums = last-sums o (kind_of code) (take k (frames o s)) (calls k).result.shown.values run-last-decides

  -- A group chunk shows the last frequencies and gains where their count is that of the last group packing, and else none.
  pub run-last-group : group_shaped (shaped (kind_of code)) ≡ true →
      let fs = take k (frames o s) in
      ((calls k).result.shown.values.frequencies ≡ hertz_of (last_value o fs group).n (last_value o fs frequencies))
      × ((calls k).result.shown.values.gains ≡ gains_of (last_value o fs group).n (last_value o fs gains))
  run-last-group h = last-group o (kind_of code) (take k (frames o s)) (calls k).result.shown.values run-last-decides h

  module _ (x : Slot) where
    -- A value that no chunk has set since the step was regained is shown as absent.
    pub run-last-none : NoneSince x (take k (frames o s)) → value_in x (calls k).result.shown.values ≡ none x
    run-last-none n = last-none o (kind_of code) (take k (frames o s)) (calls k).result.shown.values run-last-decides x n

    module _ (c : ℕ) (b : List ℕ) (l : LastIs x (take k (frames o s)) c b) where
      -- So is one that a malformed chunk was the last to set.
      pub run-last-malformed : (n : ℕ) → verdict o (kind_of c) b ≡ refuses n → value_in x (calls k).result.shown.values ≡ none x
      run-last-malformed n h = last-malformed o (kind_of code) (take k (frames o s)) (calls k).result.shown.values run-last-decides x c b l n h

      -- One that a well-formed chunk was the last to set is shown as that chunk's body has it. Of the frequencies and gains that a group
      -- chunk shows, run-last-group speaks.
      pub run-last-well : {A : Type 0} (hold : A → Value x) (read : Order → List ℕ → Answer A) (a : A) → row (kind_of c) ≡ sets x hold read → read o b ≡ gives a →
          both (group_shaped (shaped (kind_of code))) (is_counted x) ≡ false → value_in x (calls k).result.shown.values ≡ hold a
      run-last-well hold read a h q n = last-well o (kind_of code) (take k (frames o s)) (calls k).result.shown.values run-last-decides x c b l hold read a h q n
