-- Each place holds its frequency.
use Rattle.std.proofs.Common.{rules}
use Rattle.body.specs.Groups.{hertz_at}
use Rattle.body.proofs.groups.Channels.hertz.Goals as goal

pub returns : goal.returns
unfolding hertz_at
returns c = c.sixteen.ensures (hertz_at c.args.order c.args.body.now) (λ k v l e. search rules)
