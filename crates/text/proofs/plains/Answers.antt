-- The bytes before the first one that is not plain are passed over.
use Rattle.std.proofs.Common.{rules, tests, leb, ◌-◌, length, take, drop}
use Rattle.std.proofs.lemmas.Iterator.{YieldsList-from_slice}
use Rattle.std.proofs.lemmas.Iterator.Search.{position_from_yields_List}
use Rattle.text.proofs.Laws.{plain-on, plain-first}
use Rattle.text.proofs.plains.Goals as goal

pub returns : goal.returns
returns c =
    let s = c.args.s.now in
    let n = c.eights-n.result in
    let ahead = take (length s - n) (drop n s) in
    plain-on s n _ c.eights-n.ensures
    (rw c.unwrap_or.ensures
    (plain-first c.position.result ahead
    (position_from_yields_List (leb 128) _ _ c.position.result c.position.ensures.ran (YieldsList-from_slice ahead c.iter.ensures.rest) (λ x b q k. search (rules, tests)))))
