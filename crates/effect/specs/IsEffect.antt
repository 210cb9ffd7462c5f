-- That an answer is an effect.
use Rattle.std.specs.Prelude.{◌≡◌}
use Rattle.effect.specs.Says.{verdict_said}
use Rattle.effect.specs.Effect.{Effect}
use Rattle.effect.specs.declared.Taken.{Taken}

pub record IsEffect (r : Taken) (e : Effect) : Type 0 where
  pub says : verdict_said r.verdict ≡ e.says
  pub shown : r.shown ≡ e.shown
  pub after : r.state ≡ e.after
