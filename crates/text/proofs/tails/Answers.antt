-- The test of each byte is what the ranges ask for; too few bytes do not fit.
use Rattle.std.proofs.Common.{rules, tests, replicate, sym, ◌∙◌, arith}
use Rattle.std.proofs.lemmas.Iterator.{YieldsList-from_slice}
use Rattle.std.proofs.lemmas.Iterator.Search.{all_from_yields_List}
use Rattle.std.proofs.lemmas.List.{length-replicate}
use native.Mathlib.Nat.{sub-zero}
use Rattle.text.specs.Utf8.{within, utf8_tail}
use Rattle.text.proofs.Laws.{fits-short, fits-tails}
use Rattle.text.proofs.tails.Goals as goal

pub returns-in-Some : goal.returns-in-Some
returns-in-Some g c =
    let h = c.in-Some.ensures.lookup in
    all_from_yields_List (within utf8_tail) _ _ c.all.result c.all.ensures.ran (YieldsList-from_slice c.in-Some.bytes.now c.iter.ensures.rest)
    (λ x b q k. search (rules, tests))
    ∙ rw (h.0.2, sub-zero) (fits-tails g.row.N c.args.s.now h.0.1)

pub returns-in-None : goal.returns-in-None
returns-in-None g c =
    sym (fits-short (replicate g.row.N utf8_tail) c.args.s.now (omega (arith, length-replicate g.row.N utf8_tail, c.in-None.ensures.lookup)))
