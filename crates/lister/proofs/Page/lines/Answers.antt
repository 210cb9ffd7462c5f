-- A step's line is laid whole, and the items ahead are then those ahead of its cursor; at the end none is ahead.
use Rattle.std.proofs.Common.{◌≡◌, ◌∙◌, ◌<◌, ap, arith, length}
use Rattle.num.specs.Answer.{Answer}
use Rattle.reader.specs.Item.{Item}
use Rattle.reader.specs.Step.{step_of}
use Rattle.reader.proofs.Theorems.{goes}
use Rattle.listing.specs.Lines.{answer_line}
use Rattle.listing.specs.Text.{text_of, shown}
use Rattle.lister.proofs.Lengths.{line-length}
use Rattle.lister.proofs.Laws.{text-room, text-shows, one-laid, all-laid}
use Rattle.lister.proofs.Page.lines.Goals as goal

pub put-requires : goal.put-requires
put-requires c =
    let f = c.loop-cursor.invariant.so_far in
    (text-room _ _ c.item_line.ensures, omega (arith, f.below, f.within, c.requires.0, c.requires.1))

pub loop-cursor-smaller : goal.loop-cursor-smaller
loop-cursor-smaller c =
    let l = c.loop-cursor in
    let g = goes c.args.order c.args.s.now l.cursor l.invariant.so_far.fit c.loop-cursor-test.true in
    rw c.step-stepped.ensures.cursor (omega (arith, g.on, c.loop-cursor-test.true))

pub loop-cursor-preserved : goal.loop-cursor-preserved
loop-cursor-preserved c =
    let l = c.loop-cursor in
    let b = c.args in
    let s = b.s.now in
    let m : length s < 100000 = omega (arith, c.requires.0) in
    let f = l.invariant.so_far in
    let h = c.loop-cursor-test.true in
    let e : shown c.item_line.result ≡ answer_line (step_of b.order s l.cursor).item =
    text-shows _ _ (c.item_line.ensures ∙ ap (λ (i : Answer Item). text_of (answer_line i)) c.step-stepped.ensures.item)
    (omega (arith, line-length b.order s l.cursor m f.within f.fit)) in
    record {
      same = c.put.ensures.same ∙ l.invariant.same;
      so_far = rw (c.step-stepped.ensures.cursor, c.put.ensures.said, e)
          (one-laid b.order s b.self.now.out.now b.self.now.at l.self.out.now _ l.cursor l.self.at f m h (rw e at c.put.ensures.left));
    }

pub returns : goal.returns
returns c =
    let l = c.loop-cursor in
    let p = all-laid c.args.order c.args.s.now c.args.self.now.out.now c.args.self.now.at l.self.out.now l.cursor l.self.at l.invariant.so_far c.loop-cursor-test.false in
    record { same = l.invariant.same; said = p.0; left = p.1 }
