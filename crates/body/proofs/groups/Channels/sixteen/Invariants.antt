-- After c turns the first c places hold their values.
use Rattle.std.proofs.Common.{◌≡◌, ℕ, ◌<◌}
use Rattle.body.specs.Lists.{sixteen}
use Rattle.body.proofs.groups.Channels.sixteen.Given as goal

abbrev pub invariant-loop-c : goal.invariant-loop-c
invariant-loop-c g l =
    (f : ℕ → _) → ((c : ℕ) (v : _) → c < l.fn.self.n → goal.F-post g l.value c v → v ≡ f c) → l.a ≡ sixteen f l.fn.absent l.c
