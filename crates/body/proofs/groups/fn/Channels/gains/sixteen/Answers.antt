-- A finite gain is no NaN.
use Rattle.body.specs.Groups.{gain_at}
use Rattle.body.proofs.Floats.{no-nan, finite-small}
use Rattle.body.proofs.groups.fn.Channels.gains.sixteen.Goals as goal

pub float_from_bits-result : goal.float_from_bits-result
unfolding gain_at
float_from_bits-result c = no-nan c.at.result (finite-small c.at.result (rw c.at.ensures c.requires.1))
