-- After the last turn all the numbers are laid.
use Rattle.std.proofs.Common.{arith}
use Rattle.lay.proofs.Numbers.{numbers-all}
use Rattle.lay.proofs.runs.fill_run.Goals as goal

pub returns : goal.returns
returns g c = numbers-all _ _ _ c.args.xs.now c.args.out.now c.requires c.loop-j.j _ (omega arith) c.loop-j.invariant.laid
