-- Which kind sets what: a chunk leaves every slot but its own, and what it leaves there depends on the order and the body alone.
use Prim.Native.Nat.{ℕ}
use mathlib.Core.Path.{◌≡◌, refl}
use mathlib.Core.Bool.{true, false}
use mathlib.Core.List.{List}
use native.Mathlib.Omega.{arith}
use Rattle.num.specs.declared.Order.{Order}
use Rattle.body.specs.Check.{or_else}
use Rattle.body.specs.Table.{Slot, none, Row, sets, marks, leaves, samples, unknown, row, sets_by, set_by}
use Rattle.body.specs.declared.kinds.Kind.{Kind}
use Rattle.state.specs.State.{value_in}
use Rattle.state.specs.declared.State.{State}
use Rattle.state.proofs.Slots.{set-other, set-own}
use Rattle.effect.specs.Effect.{effect_by, effect}

module _ (o : Order) (b : List ℕ) where
  row-keeps : (r : Row) (s : State) (x : Slot) → sets_by r x ≡ false → value_in x (effect_by r o b s).after.values ≡ value_in x s.values
  row-keeps (sets y hold read) s x e = set-other y (or_else (none y) hold (read o b)) s.values x e
  row-keeps (marks read) s x e = refl
  row-keeps (leaves read) s x e = refl
  row-keeps (samples shape) s x e = refl
  row-keeps unknown s x e = refl

  row-owns : (r : Row) (s t : State) (x : Slot) → sets_by r x ≡ true → value_in x (effect_by r o b s).after.values ≡ value_in x (effect_by r o b t).after.values
  row-owns (sets y hold read) s t x e = set-own y (or_else (none y) hold (read o b)) s.values t.values x e
  row-owns (marks read) s t x e = let z : ◌≡◌ {A = ℕ} 0 1 = cc in absurd (omega arith)
  row-owns (leaves read) s t x e = let z : ◌≡◌ {A = ℕ} 0 1 = cc in absurd (omega arith)
  row-owns (samples shape) s t x e = let z : ◌≡◌ {A = ℕ} 0 1 = cc in absurd (omega arith)
  row-owns unknown s t x e = let z : ◌≡◌ {A = ℕ} 0 1 = cc in absurd (omega arith)

  -- every slot but its own is left
  pub keeps : (k : Kind) (s : State) (x : Slot) → set_by k x ≡ false → value_in x (effect o k b s).after.values ≡ value_in x s.values
  unfolding effect set_by
  keeps k s x e = row-keeps (row k) s x e

  -- what is left in its own is the same from every state
  pub owns : (k : Kind) (s t : State) (x : Slot) → set_by k x ≡ true → value_in x (effect o k b s).after.values ≡ value_in x (effect o k b t).after.values
  unfolding effect set_by
  owns k s t x e = row-owns (row k) s t x e
