-- The value that is put into the state is the bandwidth that was read with an offset of 0, or its absence.
use Rattle.std.proofs.Common.{rules}
use Rattle.effect.specs.Effect.{effect}
use Rattle.effect.proofs.Laws.{read-is-effect, read-centred}
use Rattle.effect.proofs.effects.bw.Goals as goal

pub returns : goal.returns
unfolding effect
returns c =
    let e = c.bw-read.ensures in
    read-is-effect e c.set.ensures c.judged.ensures (rw (read-centred e c.held-bandwidth.ensures) (search rules))
