-- One line where the stream is too long or has no sync word, and else the lines in the order that was found.
use Rattle.std.proofs.Common.{◌≤◌, ◌∙◌, ap, arith, length, sym}
use Rattle.frame.specs.Place.{order_said}
use Rattle.listing.specs.Lines.{none_line}
use Rattle.lister.specs.Listed.{most}
use Rattle.lister.proofs.Cases.{listed-order, listed-none}
use Rattle.lister.proofs.Laws.{text-shows, one-lays}
use Rattle.lister.proofs.whole.Goals as goal

pub returns-in-Ok : goal.returns-in-Ok
returns-in-Ok c =
    let h : length c.args.s.now ≤ most = omega arith in
    rw (listed-order c.args.s.now _ h (sym c.find_order.ensures ∙ ap order_said c.in-Ok.is)) c.ordered.ensures

pub returns-in-Err : goal.returns-in-Err
returns-in-Err c =
    let e = text-shows _ none_line c.none_line.ensures (omega arith) in
    let p = one-lays c.args.out.now _ none_line c.alone-in-Err.result (rw e at c.alone-in-Err.ensures.said, rw e at c.alone-in-Err.ensures.left) in
    let h : length c.args.s.now ≤ most = omega arith in
    rw (listed-none c.args.s.now 1 h (sym c.find_order.ensures ∙ ap order_said c.in-Err.is)) (record { said = p.0; left = p.1 })
