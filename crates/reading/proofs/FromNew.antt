-- A cursor that came from a new one is never refused with 3, whatever was done with it on the way.
use Prim.Native.Nat.{ℕ, ◌<◌}
use mathlib.Core.Path.{◌≡◌, refl, ap, sym, ◌∙◌}
use mathlib.Core.Bool.{Bool, true, false}
use mathlib.Core.List.{List}
use mathlib.Core.Logic.{◌↔◌}
use native.Mathlib.Omega.{arith}
use lib.Dec.{eqb}
use lib.ListN.{length}
use borrow.Author.Tests.{eqb-true}
use Rattle.num.specs.Answer.{refuses}
use Rattle.num.specs.Choice.{pick}
use Rattle.num.specs.declared.Order.{Order}
use Rattle.reader.specs.Step.{step_of, unfit, Fit}
use Rattle.reader.specs.declared.Cursor.{Cursor}
use Rattle.reader.proofs.Theorems.{new-fit, before-good, step-keeps-fit}
use Rattle.reading.specs.Due.{PastEndDue, BadStateDue}
use Rattle.reading.specs.FromNew.{FromNew, new, step, accept, lose}
use Rattle.reading.proofs.Due.{due-exactly}

-- A cursor that came from a new one is searching, or has a good state.
pub from-new-fit : (c : Cursor) → FromNew c → Fit c
from-new-fit c new = new-fit
from-new-fit c (step o s d h) = step-keeps-fit o s d (from-new-fit d h)
from-new-fit c (accept to d h) = rw (before-good d.in_step d.state (from-new-fit d h))
from-new-fit c (lose d h) = refl

refused-by : (s : List ℕ) (c : Cursor) → Fit c → (n : ℕ) (two three : Bool) → eqb n 2 ≡ two → pick two (PastEndDue s c) (pick three (BadStateDue s c) ⊥) →
    (n ≡ 2) × (length s < c.place)
refused-by s c f n true three e d = (eqb-true n 2 e, d)
refused-by s c f n false true e d =
    let u : unfit c ≡ true = rw (d.step, d.state) in
    let w : false ≡ true = sym f ∙ u in
    let z : ◌≡◌ {A = ℕ} 0 1 = cc in absurd (omega arith)
refused-by s c f n false false e d = absurd d

module _ (c : Cursor) (h : FromNew c) (o : Order) (s : List ℕ) where
  -- A step from a cursor that came from a new one is refused exactly where the place is past the end, and then with number 2.
  pub from-new-refused : (n : ℕ) → ((step_of o s c).item ≡ refuses n) ↔ ((n ≡ 2) × (length s < c.place))
  from-new-refused n = (
    λ e. refused-by s c (from-new-fit c h) n (eqb n 2) (eqb n 3) refl ((due-exactly o s c (refuses n)).0 e),
    λ w. (due-exactly o s c (refuses 2)).1 w.1 ∙ ap refuses (sym w.0),
  )

  -- So it is never refused with 3.
  pub never-three : (step_of o s c).item ≡ refuses 3 → ⊥
  never-three e = absurd (omega (arith, ((from-new-refused 3).0 e).0))
