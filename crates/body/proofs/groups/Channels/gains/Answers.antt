-- Each place holds its gain.
use Rattle.std.proofs.Common.{ℕ, rules, arith}
use Rattle.num.proofs.Tests.{each-at}
use Rattle.body.specs.Levels.{is_finite}
use Rattle.body.specs.Groups.{gain_at}
use Rattle.body.proofs.groups.Channels.gains.Goals as goal

pub sixteen-requires : goal.sixteen-requires
sixteen-requires c =
    let a = c.args in
    (omega arith, λ k l. (omega arith, each-at (λ (j : ℕ). is_finite (gain_at a.order a.body.now j)) a.self.n k c.requires l))

pub returns : goal.returns
unfolding gain_at
returns c = c.sixteen.ensures (gain_at c.args.order c.args.body.now) (λ k v l e. search rules)
