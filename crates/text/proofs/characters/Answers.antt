-- A plain byte with those after it, or the character that stands at `at`, is passed over; where none stands, what is ahead is not
-- UTF-8.
use Rattle.std.proofs.Common.{◌≤◌, ◌+◌, ◌-◌, ℕ, length, take, drop, ap, sym, ◌∙◌, arith}
use Rattle.std.proofs.lemmas.List.{length-take, length-drop}
use Rattle.text.specs.Utf8.{character, Leads}
use Rattle.text.proofs.Laws.{first-rest, leads-on, stop-at, pass, plain-leads, plain-after}
use Rattle.text.proofs.characters.Goals as goal

pub returns-in_err-at : goal.returns-in_err-at
returns-in_err-at c =
    let s = c.args.s.now in
    let at = c.loop-at.at in
    let e = first-rest (take (length s - at) (drop at s)) (omega (arith, length-take {A = ℕ}, length-drop at s)) in
    rw c.from_residual.ensures (stop-at s at c.loop-at.invariant (omega arith) (sym (ap character e) ∙ c.in_err-at.ensures))

pub loop-at-preserved-then-rest-lt128 : goal.loop-at-preserved-then-rest-lt128
loop-at-preserved-then-rest-lt128 c =
    let s = c.args.s.now in
    let at = c.loop-at.at in
    let room : c.plains.result ≤ c.args.end - at - 1 = omega (arith, c.plains.ensures.within, length-take {A = ℕ}) in
    leads-on s at _ c.loop-at.invariant
    (plain-leads _ _ (plain-after _ _ c.plains.result (omega (arith, length-take {A = ℕ}, length-drop at s)) c.if-rest-lt128.true c.plains.ensures room))

on : (c : goal.In_ok-at) → Leads c.args.s.now (c.loop-at.at + c.in_ok-at.field-0)
on c =
    let s = c.args.s.now in
    let at = c.loop-at.at in
    let h = c.in_ok-at.ensures in
    let e = first-rest (take (length s - at) (drop at s)) (omega (arith, length-take {A = ℕ}, length-drop at s)) in
    leads-on s at _ c.loop-at.invariant (pass _ _ (h.1 ∙ ap character e) h.0)

pub overflow_add-at-else-rest-lt128 : goal.overflow_add-at-else-rest-lt128
overflow_add-at-else-rest-lt128 c = omega (arith, (on c).within)

pub loop-at-preserved : goal.loop-at-preserved
loop-at-preserved c = on c
