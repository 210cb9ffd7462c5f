-- What a ready chunk shows: the values that it finds, which are those of the last chunks.
use Prim.Native.Nat.{ℕ}
use mathlib.Core.Path.{◌≡◌, ap, ◌∙◌}
use mathlib.Core.List.{List}
use native.Mathlib.Omega.{arith}
use lib.ListN.{take}
use Rattle.num.specs.Answer.{gives}
use Rattle.num.specs.Choice.{pick}
use Rattle.num.specs.declared.Order.{Order}
use Rattle.frame.specs.Frames.{frames}
use Rattle.body.specs.Kind.{kind_of}
use Rattle.body.specs.Samples.{data_of}
use Rattle.body.specs.Table.{Row, sets, marks, leaves, samples, unknown, row, shaped_by, shaped}
use Rattle.body.specs.declared.sampled.Data.{Data}
use Rattle.body.specs.declared.kinds.Kind.{Kind}
use Rattle.state.specs.State.{with_values}
use Rattle.state.specs.declared.State.{State}
use Rattle.effect.specs.Says.{ready}
use Rattle.effect.specs.Ready.{says_of, in_group}
use Rattle.effect.specs.Effect.{effect_by, effect}
use Rattle.reader.specs.Item.{chunk}
use Rattle.reader.specs.Step.{Step, new_cursor, step_of, after}
use Rattle.reader.specs.declared.Cursor.{Cursor}
use Rattle.samples.proofs.AtCursor.{stands}
use Rattle.samples.proofs.Ready.{judged-by, shown-by}
use Rattle.decides.specs.Last.{last_values, group_shaped, shown_by}
use Rattle.decides.specs.Past.{found}
use Rattle.decides.proofs.Carried.{found-values}

module _ (o : Order) (b : List ℕ) (s : State) (d : Data) where
  row-shown : (r : Row) → (effect_by r o b s).says ≡ ready d → (effect_by r o b s).shown ≡ with_values s (pick (group_shaped (shaped_by r)) (in_group s.values) s.values)
  row-shown (sets x hold read) e = absurd (judged-by (read o b) d e)
  row-shown (marks read) e = absurd (judged-by (read o b) d e)
  row-shown (leaves read) e = absurd (judged-by (read o b) d e)
  row-shown (samples shape) e = shown-by (says_of shape (data_of shape o b) s.values) d _ e
  row-shown unknown e = let z : ◌≡◌ {A = ℕ} 0 1 = cc in absurd (omega arith)

  effect-shown : (k : Kind) → (effect o k b s).says ≡ ready d → (effect o k b s).shown ≡ with_values s (shown_by k s.values)
  unfolding effect shaped
  effect-shown k e = row-shown (row k) e

-- a step that gives a ready chunk shows what the chunk found, as its kind shows it
pub step-shown : (o : Order) (s : List ℕ) (c : Cursor) (p code size : ℕ) (d : Data) → (step_of o s c).item ≡ gives (chunk p code size (ready d)) →
    (step_of o s c).shown ≡ with_values (found c) (shown_by (kind_of code) (found c).values)
step-shown o s c p code size d e =
    let t = stands o c p code size (ready d) s e in
    ap (λ (w : Step). w.shown) t.step ∙ effect-shown o _ (found c) d (kind_of code) t.said

-- The last one decides: with a ready chunk that is item k of a stream, read from a new cursor, each slot is shown with the value of
-- the last chunk that sets it since the step was regained.
pub last-decides : (o : Order) (s : List ℕ) (k p code size : ℕ) (d : Data) → (step_of o s (after k o s new_cursor)).item ≡ gives (chunk p code size (ready d)) →
    (step_of o s (after k o s new_cursor)).shown.values ≡ shown_by (kind_of code) (last_values o (take k (frames o s)))
last-decides o s k p code size d e =
    ap (λ (t : State). t.values) (step-shown o s (after k o s new_cursor) p code size d e) ∙ ap (shown_by (kind_of code)) (found-values o s k)
