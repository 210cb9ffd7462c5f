-- A slice of ROOM bytes has room for every listing; for a shorter one the listing is measured, and laid where it fits.
use Rattle.std.proofs.Common.{arith}
use Rattle.lister.specs.Listed.{listed}
use Rattle.lister.proofs.Laws.{has-room}
use Rattle.lister.proofs.Theorems.{listed-room}
use Rattle.lister.proofs.lay.Goals as goal

pub returns-then-out-ge-ROOM : goal.returns-then-out-ge-ROOM
returns-then-out-ge-ROOM c =
    let w = c.whole in
    let a = c.args in
    let p = has-room a.out.now (listed a.s.now) w.result w.ensures.said _
    (omega (arith, listed-room a.s.now, w.ensures.said, c.if-out-ge-ROOM.true)) w.ensures.left in
    record { said = p.0; left = p.1 }
