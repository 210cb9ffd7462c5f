-- The search's place, or the end where it found none.
use Rattle.reader.proofs.Laws.{stop-or}
use Rattle.reader.proofs.stop.Goals as goal

pub returns : goal.returns
returns c =
    let a = c.args in
    rw c.unwrap_or.ensures (stop-or a.order a.s.now a.from _ c.search.ensures c.requires)
