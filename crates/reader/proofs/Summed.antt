-- The sums of every state that a step leaves or shows are those of their parts.
use Prim.Native.Nat.{ℕ, zero, suc}
use mathlib.Core.Path.{refl}
use mathlib.Core.Bool.{Bool, true, false}
use mathlib.Core.List.{List}
use lib.Dec.{ltb}
use lib.ListN.{length, take, drop}
use Rattle.num.specs.Choice.{pick}
use Rattle.num.specs.declared.Order.{Order}
use Rattle.frame.specs.Ahead.{ahead_of}
use Rattle.frame.specs.Place.{header_size}
use Rattle.frame.specs.declared.Ahead.{Ahead}
use Rattle.frame.specs.declared.Ahead.TheVariants.{End, Stretch, Cut, Chunk}
use Rattle.body.specs.Kind.{kind_of}
use Rattle.state.specs.State.{Summed}
use Rattle.state.specs.declared.State.{State}
use Rattle.effect.proofs.Summed.{effect-summed}
use Rattle.reader.specs.Step.{Step, before, refused, step_by, step_of, after, unfit}
use Rattle.reader.specs.declared.Cursor.{Cursor}

-- the cursor that a step leaves, and what it shows
abbrev pub StepSummed : Step → Type 0
StepSummed t = Summed t.cursor.state.values × Summed t.shown.values

-- an emptied state has no sums and no parts
pub before-summed : (step : Bool) (s : State) → Summed s.values → Summed (before step s).values
before-summed true s h = h
before-summed false s h = refl

module _ (o : Order) (c : Cursor) (h : Summed c.state.values) where
  ahead-summed : (l : List ℕ) (a : Ahead) → StepSummed (step_by o l c a)
  ahead-summed l End = (h, refl)
  ahead-summed l (Chunk code size) =
      effect-summed (before c.in_step c.state) (before-summed c.in_step c.state h) o (take size (drop header_size l)) (kind_of code)
  ahead-summed l Cut = (h, refl)
  ahead-summed l (Stretch stray) = (h, refl)

  step-by : (l : List ℕ) (two three : Bool) → StepSummed (pick two (refused 2 c) (pick three (refused 3 c) (step_by o l c (ahead_of o l))))
  step-by l true three = (h, refl)
  step-by l false true = (h, refl)
  step-by l false false = ahead-summed l (ahead_of o l)

  pub step-summed : (s : List ℕ) → StepSummed (step_of o s c)
  unfolding step_of
  step-summed s = step-by (drop c.place s) (ltb (length s) c.place) (unfit c)

-- so after any number of steps
pub after-summed : (k : ℕ) (o : Order) (s : List ℕ) (c : Cursor) → Summed c.state.values → Summed (after k o s c).state.values
unfolding after
after-summed zero o s c h = h
after-summed (suc k) o s c h = after-summed k o s (step_of o s c).cursor (step-summed o c h s).0
