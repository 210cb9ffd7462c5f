-- The sums of every cursor that the reader gives, and of all that it shows, are those of their parts, by definition and of any
-- calls that meet the promises. And number 3 for sums: exactly where they are not.
use Prim.Native.Nat.{ℕ, ◌<◌}
use mathlib.Core.Path.{◌≡◌, refl, sym, ◌∙◌}
use mathlib.Core.Bool.{Bool, true, false}
use mathlib.Core.List.{List}
use mathlib.Core.Logic.{◌↔◌}
use native.Mathlib.Omega.{arith}
use borrow.Author.Tests.{lt-ltb, ltb-true}
use lib.Dec.{T, ltb}
use lib.Ieee.{Float, nan, binary32, of_bits, fits}
use lib.ListN.{length, get_or}
use Rattle.num.specs.Choice.{pick}
use Rattle.num.specs.declared.Order.{Order}
use Rattle.num.proofs.Tests.{both-true}
use Rattle.body.specs.Levels.{is_finite}
use Rattle.body.proofs.Lists.{upto-at}
use Rattle.state.specs.State.{Summed}
use Rattle.state.specs.Sums.{both_parts, sum_at, has_sum, held_sum, agree}
use Rattle.state.specs.declared.Values.{Values}
use Rattle.state.proofs.Agree.{own-agree, agree-own}
use Rattle.reader.specs.declared.Cursor.{Cursor}
use Rattle.reader.specs.Step.{step_of}
use Rattle.reader.proofs.Summed.{StepSummed, before-summed, step-summed}
use Rattle.ending.proofs.Calls.{StepCall, StepOn, step-met}
use Rattle.reading.specs.FromNew.{FromNew, new, step, accept, lose}
use Rattle.reading.proofs.FromCalls.{FromCalls, from-calls}

-- ---- of definitions

-- a cursor that came from a new one, by any run of step, accept and lose_step
pub from-new-summed : (c : Cursor) → FromNew c → Summed c.state.values
from-new-summed c new = refl
from-new-summed c (step o s d h) = (step-summed o d (from-new-summed d h) s).0
from-new-summed c (accept to d h) = before-summed d.in_step d.state (from-new-summed d h)
from-new-summed c (lose d h) = from-new-summed d h

-- and what a step from it leaves and shows
pub from-new-shown : (c : Cursor) → FromNew c → (o : Order) (s : List ℕ) → StepSummed (step_of o s c)
from-new-shown c h o s = step-summed o c (from-new-summed c h) s

-- ---- of calls

pub calls-summed : (c : Cursor) → FromCalls c → Summed c.state.values
calls-summed c h = from-new-summed c (from-calls c h)

-- whatever a call of step shows for such a cursor
pub call-shown : (o : Order) (s : List ℕ) (c : Cursor) → FromCalls c → (a : StepCall) → StepOn o s c a → Summed a.result.shown.values
call-shown o s c h a on = rw (step-met o s c a on).shown (from-new-shown c (from-calls c h) o s).1

-- ---- what the sums of such values are

parts-by : (t : Bool) (n c : ℕ) → ltb c (pick t n 0) ≡ true → (t ≡ true) × (c < n)
parts-by true n c e = (refl, ltb-true c n e)
parts-by false n c e = let h = ltb-true c 0 e in absurd (omega arith)

module _ (v : Values) (h : Summed v) (c : ℕ) (l : c < 16) where
  abbrev flag : Bool
  flag = get_or v.sums.present c false

  abbrev held : Float
  held = get_or v.sums.values c nan

  abbrev added : Float
  added = sum_at v.total_gain v.gains c

  flag-is : flag ≡ has_sum v.total_gain v.gains c
  flag-is = rw h (upto-at (has_sum v.total_gain v.gains) false 16 c 16 false l ∙ rw (lt-ltb c 16 l))

  held-is : held ≡ pick flag added (of_bits binary32 0)
  held-is = rw (flag-is, h) (upto-at (held_sum v.total_gain v.gains) (of_bits binary32 0) 16 c 16 nan l ∙ rw (lt-ltb c 16 l))

  -- A channel's sum is present exactly where dBTG is, the channel has a gain, and the two add up to a finite float.
  pub sum-present : (flag ≡ true) ↔ ((v.total_gain.present ≡ true) × (c < v.gains.n) × (is_finite added ≡ true))
  sum-present = (
    λ e.
        let two = both-true (ltb c (both_parts v.total_gain v.gains)) (is_finite added) (sym flag-is ∙ e) in
        let parts = parts-by v.total_gain.present v.gains.n c two.0 in
        (parts.0, parts.1, two.1),
    λ p. flag-is ∙ rw (p.0, lt-ltb c v.gains.n p.1) p.2,
  )

  -- A present one is their sum, rounded once, and an absent one is the float whose pattern is 0.
  pub sum-held : (flag ≡ true → held ≡ added) × (flag ≡ false → held ≡ of_bits binary32 0)
  sum-held = (λ e. rw e at held-is, λ e. rw e at held-is)

-- ---- of sums made at will

-- The test behind number 3 passes sums of sixteen flags and sixteen floats of 32 bits exactly where they are those of their parts.
pub agree-exactly : (v : Values) → length v.sums.present ≡ 16 → length v.sums.values ≡ 16 →
    ((c : ℕ) → c < 16 → T (fits binary32 (get_or v.sums.values c nan))) → (agree v.total_gain v.gains v.sums ≡ true) ↔ Summed v
agree-exactly v p q f = (agree-own v.total_gain v.gains v.sums p q f, own-agree v.total_gain v.gains v.sums)
