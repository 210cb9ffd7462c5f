-- The first frame's width, by what is ahead.
use Rattle.std.proofs.Common.{sym, arith, drop}
use Rattle.frame.proofs.Frames.{width-complete}
use Rattle.frame.proofs.Looks.{is-chunk}
use Rattle.reader.proofs.Laws.{chunk-ends}
use Rattle.reader.proofs.past.Goals as goal

pub overflow_add-result-in-Chunk : goal.overflow_add-result-in-Chunk
overflow_add-result-in-Chunk c =
    let a = c.args in
    let n = c.in-Chunk in
    let e = is-chunk a.order (drop a.place a.s.now) n.code n.size (sym n.ensures) in
    record { fits = omega (arith, chunk-ends a.order a.s.now a.place n.code n.size e) }

pub returns-in-Chunk : goal.returns-in-Chunk
returns-in-Chunk c =
    let a = c.args in
    let n = c.in-Chunk in
    let e = is-chunk a.order (drop a.place a.s.now) n.code n.size (sym n.ensures) in
    omega (arith, width-complete a.order (drop a.place a.s.now) n.code n.size e)
