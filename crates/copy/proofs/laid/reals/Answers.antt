-- One of the two is too short.
use Rattle.std.proofs.Common.{length, sym}
use Rattle.copy.proofs.Fits.{reals-outside, reals-no-room}
use Rattle.copy.proofs.laid.reals.Goals.{then-src-SIZE-via-then-src-SIZE, then-src-SIZE-via-else-src-SIZE+then-out-count}
use Rattle.copy.proofs.laid.reals.Goals as goal

pub returns-then-src-SIZE-clause-said : goal.returns-then-src-SIZE-clause-said
returns-then-src-SIZE-clause-said g c =
    let a = c.args in
    elim c.then-src-SIZE.branch [
      | then-src-SIZE-via-then-src-SIZE w ↦ sym (reals-outside g.T.Paired.SIZE (length a.src.now) a.count (length a.out.now) g.met.T.Paired.wide.0 (rw c.SIZE.ensures at w.if-src-SIZE.true))
      | then-src-SIZE-via-else-src-SIZE+then-out-count w ↦ sym (reals-no-room g.T.Paired.SIZE (length a.src.now) a.count (length a.out.now) w.if-out-count.true)
    ]
