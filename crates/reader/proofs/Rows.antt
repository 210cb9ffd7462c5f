-- How many items a stream has at most.
use Prim.Native.Nat.{ℕ, ◌/◌, ◌≤◌}
use mathlib.Core.Bool.{false}
use mathlib.Core.List.{List}
use native.Mathlib.Omega.{arith}
use lib.ListN.{length}
use Rattle.num.specs.declared.Order.{Order}
use Rattle.frame.specs.Frames.{frames}
use Rattle.frame.proofs.Rows.{Rows, rows}
use Rattle.effect.specs.Ready.{no_state}
use Rattle.reader.specs.Items.{items}
use Rattle.reader.specs.Rows.{rows_for}
use Rattle.reader.proofs.Theorems.{items-length}

module _ (o : Order) (s : List ℕ) where
  -- there is an item for each frame, so the items are not too many either
  pub item-rows : Rows o s (length (items o s))
  item-rows = rw (items-length o 0 false no_state (frames o s)) (rows o s)

  -- A table of so many rows has one for each item of the stream, in either order.
  pub items-most : length (items o s) ≤ rows_for (length s)
  items-most = item-rows.more (length s / 13) (omega arith)
