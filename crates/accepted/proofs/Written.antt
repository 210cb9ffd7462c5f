-- Written, then read: of any calls that write and any calls of Cursor::step, as long as each meets its promise.
use Prim.Native.Nat.{ℕ, zero, suc, ◌<◌}
use mathlib.Core.Path.{◌≡◌, ap, sym, ◌∙◌}
use mathlib.Core.List.{List}
use native.Mathlib.Omega.{arith}
use lib.ListN.{length}
use Rattle.num.specs.Answer.{Answer, gives, reply_with}
use Rattle.num.specs.declared.Order.{Order}
use Rattle.reader.specs.Item.{end, item_said}
use Rattle.reader.specs.Step.{new_cursor, step_of, after}
use Rattle.reader.specs.declared.Cursor.{Cursor}
use Rattle.reader.specs.declared.Item.TheVariants.{End}
use Rattle.reader.proofs.Told.{item-told}
use Rattle.writer.specs.Records.{Ran}
use Rattle.writer.specs.Write.{written_said}
use Rattle.ending.proofs.Calls.{NewCall, new-met, StepCall}
use Rattle.ending.proofs.Runs.{Run, run-is-step}
use Rattle.accepted.specs.Read.{ReadAs, behind, StepsRead}
use Rattle.accepted.specs.Writing.{Writing, Accepted, place_at, WriteRun, bytes_written}
use Rattle.accepted.proofs.Accepted.{next-behind, accepted-steps}
use Rattle.accepted.proofs.Runs.{first_of, records_to, rest, run-rest, all-typed, all-written}

-- ---- the steps that read what a run wrote, by their number

module _ (o : Order) (s : List ℕ) where
  -- an accepted call goes on behind its record
  place-behind : (n : ℕ) (d : List ℕ) (p : ℕ) (writes : ℕ → Writing) → WriteRun (suc n) o d p writes → Accepted (writes 0) → place_at p writes 1 ≡ behind p (writes 0).wrote
  place-behind n d p writes r a =
      let w = writes 0 in
      let h = r.writes 0 (omega arith) in
      let t = r.turns 0 (omega arith) in
      let q : written_said w.result ≡ gives a.0 = ap written_said a.1 in
      ap (λ (x : Answer ℕ). (reply_with w.place x).value) q ∙ rw (← t.place) (next-behind w.order w.wrote (length w.out) w.place a.0 (sym h.said ∙ q))

  step-at : (n : ℕ) (d : List ℕ) (p : ℕ) (writes : ℕ → Writing) (c : Cursor) → WriteRun n o d p writes → ((k : ℕ) → k < n → Accepted (writes k)) →
      StepsRead o s c p (records_to n writes) → (k : ℕ) → k < n → ReadAs s (writes k).place (writes k).wrote (step_of o s (after k o s c)).item
  unfolding first_of after
  step-at zero d p writes c r a h k l = absurd (omega arith)
  step-at (suc n) d p writes c r a h zero l = rw (r.turns 0 (omega arith)).place h.0
  step-at (suc n) d p writes c r a h (suc k) l =
      step-at n (writes 0).left (place_at p writes 1) (rest writes) (step_of o s c).cursor (run-rest n o d p writes r) (λ j i. a (suc j) (omega arith)) (rw (place-behind n d p writes r (a 0 (omega arith))) h.1) k (omega arith)

  step-last : (n p : ℕ) (writes : ℕ → Writing) (c : Cursor) → StepsRead o s c p (records_to n writes) → (step_of o s (after n o s c)).item ≡ gives end
  unfolding first_of after
  step-last zero p writes c h = h
  step-last (suc n) p writes c h = step-last n (behind p (writes 0).wrote) (rest writes) (step_of o s c).cursor h.1

-- ---- n calls that write, one after the other from place 0 on, each answered Ok

module _ (o : Order) (d : List ℕ) (n : ℕ) (writes : ℕ → Writing) (w : WriteRun n o d 0 writes) (a : (k : ℕ) → k < n → Accepted (writes k)) where
  steps : StepsRead o (bytes_written n d writes) new_cursor 0 (records_to n writes)
  steps =
      let e = all-written n o d 0 writes w a in
      rw e at (accepted-steps o (records_to n writes) d (place_at 0 writes n) (ap (λ (x : Ran). x.place) e) (all-typed n o d 0 writes w))

  -- and calls of step, from a new cursor, over exactly the bytes that they wrote
  module _ (start : NewCall) (m : ℕ) (calls : ℕ → StepCall) (r : Run m o (bytes_written n d writes) start.result calls) where
    run : Run m o (bytes_written n d writes) new_cursor calls
    run = rw (new-met start) at r

    -- Step k gives the record of call k: a chunk at the place of that call, of its type and size, whose body is its body.
    pub written-read : (k : ℕ) → k < n → k < m → ReadAs (bytes_written n d writes) (writes k).place (writes k).wrote (item_said (calls k).result.item)
    written-read k h l =
        let s = bytes_written n d writes in
        rw (run-is-step m o s new_cursor calls run k l).item (step-at o s n d 0 writes new_cursor w a steps k h)

    -- The step after the last record gives End.
    pub written-end : n < m → (calls n).result.item ≡ End
    written-end l =
        let s = bytes_written n d writes in
        item-told (calls n).result.item End ((run-is-step m o s new_cursor calls run n l).item ∙ step-last o s n 0 writes new_cursor steps)
