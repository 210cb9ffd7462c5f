-- A gain is finite where the code finds its pattern so.
use Rattle.std.proofs.Common.{ℕ, refl, rules}
use Rattle.body.specs.Levels.{is_finite}
use Rattle.body.specs.Groups.{gain_at}
use Rattle.body.proofs.Ranges.{each-by-all}
use Rattle.body.proofs.groups.Channels.good_gains.Goals as goal

pub returns : goal.returns
unfolding gain_at
returns c =
    each-by-all (λ (k : ℕ). is_finite (gain_at c.args.order c.args.body.now k)) c.args.self.n c.all.result refl c.all.ensures.ran (λ x b q k. search rules)
