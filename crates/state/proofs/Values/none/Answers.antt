-- The empty values are their parts put together, and each call promises the absent value of one part.
use Rattle.body.specs.Groups.{no_gains}
use Rattle.state.proofs.Summed.{no-level-sums}
use Rattle.state.proofs.Values.none.Goals as goal

pub returns : goal.returns
returns c = cc (no-level-sums no_gains)
