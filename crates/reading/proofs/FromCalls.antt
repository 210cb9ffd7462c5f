-- A cursor that came from a new one is never refused with 3: of any calls that meet the promises of Cursor::new, Cursor::step,
-- Cursor::accept and Cursor::lose_step.
use Prim.Native.Nat.{ℕ, ◌<◌}
use mathlib.Core.Path.{◌≡◌, refl, ap, sym, ◌∙◌}
use mathlib.Core.List.{List}
use mathlib.Core.Logic.{◌↔◌}
use lib.ListN.{length}
use Rattle.num.specs.Answer.{refuses}
use Rattle.num.specs.declared.Order.{Order}
use Rattle.reader.specs.Item.{item_said}
use Rattle.reader.specs.Step.{accepted, lost}
use Rattle.reader.specs.declared.Cursor.{Cursor}
use Rattle.reader.specs.declared.Item.TheVariants.{BadState}
use Rattle.reader.proofs.Cursor.accept.Kinds as acceptKinds
use Rattle.reader.proofs.Cursor.accept.Reads as acceptReads
use Rattle.reader.proofs.Cursor.lose_step.Kinds as loseKinds
use Rattle.reader.proofs.Cursor.lose_step.Reads as loseReads
use Rattle.ending.proofs.Calls.{Call, NewCall, new-met, StepCall, StepOn, step-met}
use Rattle.reading.specs.FromNew.{FromNew}
use Rattle.reading.specs.FromNew as From
use Rattle.reading.proofs.FromNew.{from-new-refused, never-three}

-- ---- Cursor::accept and Cursor::lose_step

abbrev pub AcceptCall : Type 0
AcceptCall = Call 0 acceptKinds.ps acceptKinds.r acceptReads.Post

pub accept-met : (a : AcceptCall) → a.result ≡ accepted a.args.0 a.args.1.0
accept-met a = a.met

abbrev pub LoseCall : Type 0
LoseCall = Call 0 loseKinds.ps loseKinds.r loseReads.Post

pub lose-met : (a : LoseCall) → a.result ≡ lost a.args.0
lose-met a = a.met

-- ---- cursors that calls gave

-- a call of new gave the cursor; or a call of step, accept or lose_step did, made with a cursor that came so
pub data FromCalls : Cursor → Type 0 where
  new : (a : NewCall) → FromCalls a.result
  step : (a : StepCall) → FromCalls a.args.0 → FromCalls a.result.cursor
  accept : (a : AcceptCall) → FromCalls a.args.0 → FromCalls a.result
  lose : (a : LoseCall) → FromCalls a.args.0 → FromCalls a.result

pub from-calls : (c : Cursor) → FromCalls c → FromNew c
from-calls c (new a) = rw (new-met a) From.new
from-calls c (step a h) =
    let o = a.args.1.0 in
    let s = a.args.1.1.0.now in
    let d = a.args.0 in
    rw (step-met o s d a (record { self = refl; order = refl; slice = refl })).cursor (From.step o s d (from-calls d h))
from-calls c (accept a h) = rw (accept-met a) (From.accept a.args.1.0 a.args.0 (from-calls a.args.0 h))
from-calls c (lose a h) = rw (lose-met a) (From.lose a.args.0 (from-calls a.args.0 h))

module _ (o : Order) (s : List ℕ) (c : Cursor) (h : FromCalls c) (a : StepCall) (on : StepOn o s c a) where
  -- A call of step with a cursor that such calls gave is refused exactly where its place is past the end, and then with number 2.
  pub call-refused : (n : ℕ) → (item_said a.result.item ≡ refuses n) ↔ ((n ≡ 2) × (length s < c.place))
  call-refused n =
      let t = (step-met o s c a on).item in
      let w = from-new-refused c (from-calls c h) o s n in
      (λ e. w.0 (sym t ∙ e), λ q. t ∙ w.1 q)

  -- So it never answers BadState.
  pub never-bad-state : a.result.item ≡ BadState → ⊥
  never-bad-state e = never-three c (from-calls c h) o s (sym (step-met o s c a on).item ∙ ap item_said e)
