-- The first line, the lines of the items and the last line, each laid where the one before it ends.
use Rattle.std.proofs.Common.{ℕ, ◌≡◌, ◌≤◌, ◌<◌, ◌∙◌, ap, arith, length, rules, sym}
use Rattle.reader.proofs.Rows.{items-most}
use Rattle.listing.specs.Lines.{first_line, last_line, item_lines}
use Rattle.listing.specs.Text.{shown, text_of}
use Rattle.lister.specs.Listed.{items_of}
use Rattle.lister.proofs.Lengths.{first-length, last-length}
use Rattle.lister.proofs.Laws.{text-room, text-shows, three-lay}
use Rattle.lister.proofs.Bound.{lines-length, items-many}
use Rattle.lister.proofs.ordered.Goals as goal

pub put-requires : goal.put-requires
put-requires c = (text-room _ _ c.first_line.ensures, omega arith)

pub lines-requires : goal.lines-requires
lines-requires c =
    let n = first-length c.args.order (length c.args.s.now) (omega (arith, c.requires)) in
    let e = text-shows _ (first_line c.args.order (length c.args.s.now)) c.first_line.ensures (omega arith) in
    (c.requires, omega (arith, c.put.ensures.said, ap length e, n))

pub put-requires-2 : goal.put-requires-2
put-requires-2 c =
    let o = c.args.order in
    let s = c.args.s.now in
    let m : length s < 100000 = omega (arith, c.requires) in
    let n = first-length o (length s) m in
    let e = text-shows _ (first_line o (length s)) c.first_line.ensures (omega arith) in (
      text-room _ _ c.last_line.ensures,
      omega (arith, c.lines.ensures.said, c.put.ensures.said, ap length e, n, lines-length o s m, items-most o s, c.requires),
    )

pub returns : goal.returns
returns c =
    let o = c.args.order in
    let s = c.args.s.now in
    let n = first-length o (length s) (omega (arith, c.requires)) in
    let f = text-shows _ (first_line o (length s)) c.first_line.ensures (omega arith) in
    let k : c.count.result ≡ length (items_of o s) = c.count.ensures ∙ sym (items-many o s) in
    let w : length (last_line (length (items_of o s))) ≤ 96 = omega (arith, last-length (length (items_of o s)) (omega (arith, items-many o s, items-most o s, c.requires))) in
    let e : shown c.last_line.result ≡ last_line (length (items_of o s)) =
    text-shows _ _ (c.last_line.ensures ∙ ap (λ (i : ℕ). text_of (last_line i)) k) w in
    let p = three-lay c.args.out.now _ _ _ (first_line o (length s)) (item_lines (items_of o s)) (last_line (length (items_of o s))) c.put.new.self.at c.lines.new.self.at c.put-2.new.self.at
    (rw f at c.put.ensures.said, rw f at c.put.ensures.left) (c.lines.ensures.said, c.lines.ensures.left) (rw e at c.put-2.ensures.said, rw e at c.put-2.ensures.left) in
    record { said = p.0; left = search (rules, p.1) }
