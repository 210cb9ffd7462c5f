-- The parts of the line stand one after the other.
use Rattle.listing.specs.Lines.{chunk_line}
use Rattle.listing.proofs.chunk.chunk.Goals as goal

pub returns : goal.returns
unfolding chunk_line
returns c =
    let t = c.joined.ensures _ _ c.numbered.ensures c.name.ensures in
    let u = c.joined-2.ensures _ _ t c.number.ensures in
    let v = c.joined-3.ensures _ _ u c.judged.ensures in
    c.joined-4.ensures _ _ v c.newline.ensures
