-- The halves of the word are the two numbers: the packing and the order say whether they stand as they are wanted.
use Rattle.std.proofs.Common.{arith}
use Rattle.copy.proofs.Halves.{little-halves, big-halves, halves-turned}
use Rattle.copy.proofs.shorts.two_at.Goals as goal

pub returns-then-iq : goal.returns-then-iq
returns-then-iq c =
    let a = c.args in
    let h = big-halves 2 a.src.now a.place c.requires c.type_inv.src in
    let t = halves-turned c.word_at-word.result (omega arith) in
    rw (c.if-iq.true, c.in-Big.is, c.rotate_left.ensures, t.0, t.1, c.word_at-word.ensures, c.in-Big.is) (h.1, h.0)

pub returns-else-iq : goal.returns-else-iq
returns-else-iq c =
    let a = c.args in
    let h = big-halves 2 a.src.now a.place c.requires c.type_inv.src in
    rw (c.if-iq.false, c.in-Big.is, c.word_at-word.ensures, c.in-Big.is) h

pub returns-then-iq-2 : goal.returns-then-iq-2
returns-then-iq-2 c =
    let a = c.args in
    let h = little-halves 2 a.src.now a.place c.requires c.type_inv.src in
    rw (c.if-iq-2.true, c.in-Little.is, c.word_at-word.ensures, c.in-Little.is) h

pub returns-else-iq-2 : goal.returns-else-iq-2
returns-else-iq-2 c =
    let a = c.args in
    let h = little-halves 2 a.src.now a.place c.requires c.type_inv.src in
    let t = halves-turned c.word_at-word.result (omega arith) in
    rw (c.if-iq-2.false, c.in-Little.is, c.rotate_left-else-iq-2.ensures, t.0, t.1, c.word_at-word.ensures, c.in-Little.is) (h.1, h.0)
