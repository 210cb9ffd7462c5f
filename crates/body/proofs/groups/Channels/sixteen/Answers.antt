-- One place more holds its value.
use Rattle.std.proofs.Common.{arith}
use Rattle.body.proofs.Lists.{upto-none, upto-next}
use Rattle.body.proofs.groups.Channels.sixteen.Goals as goal

pub loop-c-init : goal.loop-c-init
loop-c-init g c = λ f k. upto-none f c.args.absent 0 16

pub loop-c-preserved : goal.loop-c-preserved
loop-c-preserved g c =
    let l = c.loop-c in
    λ f k. upto-next f c.args.absent l.c 16 l.a c.value.result (omega arith) (l.invariant f k) (k l.c c.value.result (omega arith) c.value.ensures)
