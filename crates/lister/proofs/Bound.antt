-- How long a listing is at most.
use Prim.Native.Nat.{ℕ, zero, suc, ◌+◌, ◌*◌, ◌≤◌, ◌<◌}
use mathlib.Core.Path.{◌≡◌, refl, ap}
use mathlib.Core.Bool.{Bool, true, false}
use mathlib.Core.List.{List, ◌++◌}
use native.Mathlib.Omega.{arith}
use lib.Dec.{ltb}
use lib.ListN.{length, length-append, length-map}
use borrow.Author.Tests.{ltb-true, ltb-false}
use Rattle.num.specs.declared.Order.{Order}
use Rattle.reader.specs.Items.{Given, items}
use Rattle.reader.specs.Reading.{ahead}
use Rattle.reader.specs.Rows.{rows_for}
use Rattle.reader.specs.Step.{new_cursor, step_of, Fit}
use Rattle.reader.specs.declared.Cursor.{Cursor}
use Rattle.reader.proofs.Theorems.{new-fit, step-keeps-fit, goes}
use Rattle.reader.proofs.Rows.{items-most}
use Rattle.listing.specs.Lines.{first_line, last_line, answer_line, item_lines, listing}
use Rattle.lister.specs.Listed.{most, longest_line, longest, items_of}
use Rattle.lister.proofs.Lengths.{first-length, last-length, line-length}
use Rattle.lister.proofs.Laws.{lines_of, lines_ahead, count-next, line-next, none-ahead}

module _ (o : Order) (s : List ℕ) (m : length s < 100000) where
  -- no line ahead of a cursor is longer than the longest
  Short : Cursor → Type 0
  Short c = length (lines_ahead o s c) ≤ longest_line * length (ahead o s c)

  short-by : (f : ℕ) (c : Cursor) (b : Bool) → ltb c.place (length s) ≡ b → Fit c → c.place ≤ length s → length s < c.place + suc f →
      ((d : Cursor) → Fit d → d.place ≤ length s → length s < d.place + f → Short d) → Short c
  unfolding Short
  short-by f c true e k h n r =
      let q = ltb-true c.place (length s) e in
      let g = goes o s c k q in
      let d = (step_of o s c).cursor in
      let i = r d (step-keeps-fit o s c k) g.within (omega (arith, g.on)) in
      let w = line-length o s c m h k in
      let j = ap length (line-next o s c q k) in
      omega (arith, count-next o s c q k, length-append (answer_line (step_of o s c).item) (lines_ahead o s d))
  short-by f c false e k h n r =
      let z = none-ahead o s c (ltb-false c.place (length s) e) in
      omega (arith, ap (λ (gs : List Given). length (lines_of gs)) z)

  short : (f : ℕ) (c : Cursor) → Fit c → c.place ≤ length s → length s < c.place + f → Short c
  short zero c k h n = absurd (omega arith)
  short (suc f) c k h n = short-by f c (ltb c.place (length s)) refl k h n (λ d. short f d)

  -- nor is the line of any item
  pub lines-length : length (item_lines (items_of o s)) ≤ longest_line * length (items o s)
  unfolding Short
  lines-length = short (suc (length s)) new_cursor new-fit (omega arith) (omega arith)

-- there is a line for each item
module _ (o : Order) (s : List ℕ) where
  pub items-many : length (items_of o s) ≡ length (items o s)
  items-many = length-map (items o s) (λ (g : Given). g.item)

-- the whole listing of a stream that is not too long
pub listing-length : (o : Order) (s : List ℕ) → length s ≤ most → length (listing o (length s) (items_of o s)) ≤ longest
listing-length o s h =
    let n = length (items_of o s) in
    let k : n ≤ rows_for (length s) = rw (items-many o s) (items-most o s) in
    let l : length (item_lines (items_of o s)) ≤ longest_line * n = rw (items-many o s) (lines-length o s (omega arith)) in
    omega (
      arith,
      first-length o (length s) (omega arith),
      last-length n (omega arith),
      length-append (first_line o (length s) ++ item_lines (items_of o s)) (last_line n),
      length-append (first_line o (length s)) (item_lines (items_of o s)),
    )
