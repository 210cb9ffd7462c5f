-- `all` asks each byte.
use Rattle.std.proofs.Common.{ℕ, rules, ◌∙◌}
use Rattle.std.specs.Prelude.{eqb}
use Rattle.std.proofs.lemmas.Iterator.{YieldsList-from_slice}
use Rattle.std.proofs.lemmas.Iterator.Search.{all_from_yields_List}
use Rattle.body.proofs.Texts.{zeros-all}
use Rattle.body.proofs.plain.zeros.Goals as goal

pub returns : goal.returns
returns c =
    all_from_yields_List (λ (b : ℕ). eqb b 0) _ _ c.all.result c.all.ensures.ran (YieldsList-from_slice c.args.s.now (cc)) (λ x b q k. search rules)
    ∙ zeros-all c.args.s.now
