-- One step of a reader that follows.
use Prim.Native.Nat.{ℕ, zero, suc, ◌<◌}
use mathlib.Core.Path.{◌≡◌}
use mathlib.Core.Bool.{true, false}
use mathlib.Core.List.{List}
use native.Mathlib.Omega.{arith}
use Rattle.num.specs.declared.Order.{Order}
use Rattle.reader.specs.Step.{step_of}
use Rattle.reader.specs.declared.Cursor.{Cursor}
use Rattle.growing.specs.Held.{waits, held_by}

-- where it waits it holds the cursor,
pub held-stops : (f : ℕ) (o : Order) (s : List ℕ) (c : Cursor) → 0 < f → waits (step_of o s c).item ≡ true → held_by f o s c ≡ c
unfolding held_by
held-stops zero o s c h e = absurd (omega arith)
held-stops (suc f) o s c h e = rw e

-- and else it goes on from the one that the step leaves
pub held-goes : (f g : ℕ) (o : Order) (s : List ℕ) (c : Cursor) → f ≡ suc g → waits (step_of o s c).item ≡ false → held_by f o s c ≡ held_by g o s (step_of o s c).cursor
unfolding held_by
held-goes f g o s c q e = rw (q, e)
