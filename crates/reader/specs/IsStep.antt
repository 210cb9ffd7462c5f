-- That an answer is a step.
use Rattle.std.specs.Prelude.{◌≡◌}
use Rattle.reader.specs.Item.{item_said}
use Rattle.reader.specs.Step.{Step}
use Rattle.reader.specs.declared.Stepped.{Stepped}

pub record IsStep (r : Stepped) (e : Step) : Type 0 where
  pub item : item_said r.item ≡ e.item
  pub shown : r.shown ≡ e.shown
  pub cursor : r.cursor ≡ e.cursor
