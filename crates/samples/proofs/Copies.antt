-- What comes of a plan is what the rule says.
use Prim.Native.Nat.{ℕ, ◌-◌, ◌≤◌}
use mathlib.Core.Path.{◌≡◌}
use mathlib.Core.List.{List}
use native.Mathlib.Omega.{arith}
use lib.ListN.{length, drop, length-drop}
use lib.Seq.{length-take-le}
use Rattle.std.specs.Prelude.{Result, Ok, Err}
use Rattle.num.specs.Answer.{Answer, then}
use Rattle.samples.specs.Copy.{count_within, filled}
use Rattle.samples.specs.Inner.Plan.{part, Tells, planned_count, planned_left}
use Rattle.samples.specs.declared.Layout.{Layout}
use Rattle.samples.specs.declared.Plan.{Plan}
use Rattle.samples.specs.declared.Uncopied.{Uncopied}

-- how many bytes are lent
pub part-size : (s : List ℕ) (from to : ℕ) → from ≤ to → to ≤ length s → length (part from to s) ≡ to - from
part-size s from to h k = length-take-le (to - from) (drop from s) (simp length-drop (omega arith))

module _ {A : Type 0} (value : List ℕ → ℕ → A) (s : List ℕ) (a : Answer Layout) (samples : List ℕ) (out : List A) where
  pub as-told : (p : Result Plan Uncopied) → Tells s a samples p →
      (planned_count (length out) p ≡ then a (count_within (length out)))
      × (planned_left value s p out ≡ filled (then a (count_within (length out))) a (value samples) out)
  as-told (Ok p) h = (rw h.0, rw (h.0, h.1))
  as-told (Err why) h = (rw h, rw h)
