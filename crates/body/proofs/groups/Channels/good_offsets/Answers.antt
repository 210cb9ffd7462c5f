-- The number at a place is at least 0 where the code finds it so.
use Rattle.std.proofs.Common.{ℕ, refl, rules, pos}
use Rattle.std.specs.Int.Signed.{le_z}
use Rattle.body.specs.Groups.{offset_at}
use Rattle.body.proofs.Ranges.{each-by-all}
use Rattle.body.proofs.groups.Channels.good_offsets.Goals as goal

pub returns : goal.returns
unfolding offset_at
returns c =
    each-by-all (λ (k : ℕ). le_z (pos 0) (offset_at c.args.order c.args.body.now k)) c.args.self.n c.all.result refl c.all.ensures.ran (λ x b q k. search rules)
