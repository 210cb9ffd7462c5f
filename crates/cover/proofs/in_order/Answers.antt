-- `all` asks each offset with its place.
use Rattle.std.proofs.Common.{ℕ, ◌*◌, ◌∙◌, eqb, rules}
use Rattle.std.proofs.lemmas.Iterator.{YieldsList-from_slice}
use Rattle.std.proofs.lemmas.Iterator.Consumers.{YieldsList-from_enumerate}
use Rattle.std.proofs.lemmas.Iterator.Search.{all_from_yields_List}
use Rattle.cover.proofs.Counts.{placed}
use Rattle.cover.proofs.in_order.Goals as goal

pub returns : goal.returns
returns c =
    let s = c.args.offsets.now in
    let u = c.args.unit in
    all_from_yields_List (λ (p : ℕ × ℕ). eqb p.1 (p.0 * u)) _ _ c.all.result c.all.ensures.ran
    (YieldsList-from_enumerate (YieldsList-from_slice s (cc)) c.enumerate.ensures.count) (λ x b q k. search rules)
    ∙ placed (λ c o. eqb o (c * u)) s
