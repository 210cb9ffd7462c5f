-- A table of as many rows as rows_for says has a row for each item: of any calls that meet the promises of rows_for, of count, and of
-- Cursor::new and Cursor::step.
use Prim.Native.Nat.{ℕ, ◌%◌, ◌≤◌, ◌<◌}
use mathlib.Core.Path.{◌≡◌, ap}
use mathlib.Core.List.{List}
use native.Mathlib.Omega.{arith}
use lib.ListN.{length}
use Rattle.num.specs.declared.Order.{Order}
use Rattle.reader.specs.Items.{items}
use Rattle.reader.specs.Rows.{rows_for}
use Rattle.reader.specs.declared.Item.TheVariants.{End}
use Rattle.reader.proofs.Rows.{items-most}
use Rattle.reader.proofs.count.Kinds as countKinds
use Rattle.reader.proofs.count.Reads as countReads
use Rattle.reader.proofs.rows_for.Kinds as rowsKinds
use Rattle.reader.proofs.rows_for.Reads as rowsReads
use Rattle.ending.proofs.Calls.{Call, NewCall, StepCall}
use Rattle.ending.proofs.Runs.{Run}
use Rattle.reading.specs.Fullest.{fullest}
use Rattle.reading.proofs.Fullest.{bound-met}
use Rattle.reading.proofs.Runs.{new-run-all}

abbrev pub RowsCall : Type 0
RowsCall = Call 0 rowsKinds.ps rowsKinds.r rowsReads.Post

abbrev pub CountCall : Type 0
CountCall = Call 1 countKinds.ps countKinds.r countReads.Post

module _ (rows : RowsCall) where
  rows-met : rows.result ≡ rows_for rows.args.0
  rows-met = rows.met

  -- No stream of so many bytes has more items, in either order.
  pub rows-enough : (o : Order) (s : List ℕ) → length s ≡ rows.args.0 → length (items o s) ≤ rows.result
  rows-enough o s e = omega (arith, items-most o s, ap rows_for e, rows-met)

  -- Where the division of the bytes by 13 leaves 2 or more, the fullest stream of so many bytes has an item for each row.
  pub rows-needed : (o : Order) → 2 ≤ rows.args.0 % 13 → length (items o (fullest o rows.args.0)) ≡ rows.result
  rows-needed o h = omega (arith, bound-met o rows.args.0 h, rows-met)

  -- A call of count on a stream of so many bytes answers no more than the rows.
  pub rows-counted : (count : CountCall) → length count.args.1.0.now ≡ rows.args.0 → count.result ≤ rows.result
  rows-counted count e = omega (arith, rows-enough count.args.0 count.args.1.0.now e, count.met)

  -- Steps from a new cursor through a stream of so many bytes answer End at the latest behind the last row.
  pub rows-end : (o : Order) (s : List ℕ) → length s ≡ rows.args.0 → (start : NewCall) (m : ℕ) (calls : ℕ → StepCall) → Run m o s start.result calls →
      (k : ℕ) → k < m → rows.result ≤ k → (calls k).result.item ≡ End
  rows-end o s e start m calls r k l h = ((new-run-all o s start m calls r).ends k l (omega (arith, rows-enough o s e))).item
