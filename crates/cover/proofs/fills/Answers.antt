-- The rule is the test of every channel. Offsets in order pass it, and else `all` asks each offset with its place.
use Rattle.std.proofs.Common.{ℕ, Bool, ◌*◌, ◌/◌, ◌%◌, ◌==◌, ◌∙◌, eqb, refl, sym, length, get_or, count_by, rules}
use Rattle.std.specs.Prelude.{ltb}
use Rattle.std.proofs.lemmas.Iterator.{YieldsList-from_slice}
use Rattle.std.proofs.lemmas.Iterator.Consumers.{YieldsList-from_enumerate}
use Rattle.std.proofs.lemmas.Iterator.Search.{all_from_yields_List}
use Rattle.num.specs.Choice.{both}
use Rattle.cover.proofs.Counts.{counted, each-same, placed}
use Rattle.cover.proofs.Laws.{in-order-test, unit_at, verdict}
use Rattle.cover.proofs.fills.Goals as goal

pub returns-then-in_order : goal.returns-then-in_order
returns-then-in_order c =
    let s = c.args.offsets.now in
    let p = c.requires in
    let u = c.unit_of-unit in
    c.if-in_order.true
    ∙ sym
    (rw u.ensures.0 (verdict (length s) c.args.increment c.args.pairs (λ c. get_or s c 0) p.0 p.1 p.2)
    ∙ in-order-test (length s) u.result (λ c. get_or s c 0) u.ensures.1 (sym c.in_order.ensures ∙ c.if-in_order.true))

pub returns-else-in_order : goal.returns-else-in_order
returns-else-in_order c =
    let s = c.args.offsets.now in
    let p = c.requires in
    let u = c.unit_of-unit in
    let test : ℕ → ℕ → Bool = λ k o. both (eqb (o % u.result) 0) (both (ltb (o / u.result) (length s)) (eqb (count_by (λ x. x == k * u.result) s) 1)) in
    all_from_yields_List (λ (p : ℕ × ℕ). test p.0 p.1) _ _ c.all.result c.all.ensures.ran
    (YieldsList-from_enumerate (YieldsList-from_slice s (cc)) c.enumerate.ensures.count) (λ x b q k. search rules)
    ∙ placed test s
    ∙ each-same (λ k. test k (get_or s k 0)) (unit_at (length s) u.result (λ c. get_or s c 0)) (length s) (λ k h. rw (counted (k * u.result) s) refl)
    ∙ sym (rw u.ensures.0 (verdict (length s) c.args.increment c.args.pairs (λ c. get_or s c 0) p.0 p.1 p.2))
