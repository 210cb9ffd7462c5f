-- A block of plain bytes is passed over; at the end the bytes are UTF-8 where characters lead to the end.
use Rattle.std.proofs.Common.{refl, sym, ◌∙◌, arith}
use Rattle.text.proofs.Laws.{told-end, plain-leads, plain-front}
use Rattle.text.proofs.utf8.Goals as goal

pub loop-block-preserved-then-plain : goal.loop-block-preserved-then-plain
loop-block-preserved-then-plain c =
    let h = c.in-Some.ensures.cases in
    c.loop-block.invariant ∙ rw h.1 (plain-leads 32 _ (plain-front c.loop-block.rest.now c.in-Some.block.now 32 (omega arith) h.0 (c.if-plain.ensures refl))).same

pub returns : goal.returns
returns c = c.is_some.ensures ∙ told-end c.loop-block.rest.now c.characters-2.result c.characters-2.ensures ∙ sym c.loop-block.invariant
