-- The three cases of a listing.
use Prim.Native.Nat.{ℕ, ◌+◌, ◌≤◌, ◌<◌}
use mathlib.Core.Path.{◌≡◌, refl}
use mathlib.Core.Bool.{Bool, true, false}
use mathlib.Core.List.{List, ◌++◌}
use native.Mathlib.Omega.{arith}
use lib.Dec.{ltb}
use lib.ListN.{length, drop}
use borrow.Author.Tests.{lt-ltb, le-ltb, ltb-true, ltb-false, le-leb}
use Rattle.num.specs.Answer.{Answer, gives, refuses}
use Rattle.num.specs.declared.Order.{Order}
use Rattle.frame.specs.Place.{order_of}
use Rattle.listing.specs.Lines.{long_line, none_line, listing}
use Rattle.listing.specs.Text.{text_of, shown}
use Rattle.listing.specs.declared.string.Text.{Text}
use Rattle.lay.specs.Splice.{overlaid}
use Rattle.lister.proofs.Laws.{text-shows}
use Rattle.lister.specs.Listed.{most, items_of, listed}

module _ (s : List ℕ) where
  -- A stream of more than 65,536 bytes, whatever they are, has the listing `long`.
  pub listed-long : most < length s → listed s ≡ long_line
  unfolding listed
  listed-long h = rw (lt-ltb most (length s) h)

  -- A stream of at most so many bytes, in which an order is found, has the lines of its items in that order.
  pub listed-order : (o : Order) → length s ≤ most → order_of s ≡ gives o → listed s ≡ listing o (length s) (items_of o s)
  unfolding listed
  listed-order o h e = rw (le-ltb most (length s) h, e)

  -- One in which no order is found has the listing `none`.
  pub listed-none : (n : ℕ) → length s ≤ most → order_of s ≡ refuses n → listed s ≡ none_line
  unfolding listed
  listed-none n h e = rw (le-ltb most (length s) h, e)

  -- what holds in each of the three cases holds of the listing
  module _ (P : List ℕ → Type 0) (long : most < length s → P long_line)
      (lines : (o : Order) → length s ≤ most → order_of s ≡ gives o → P (listing o (length s) (items_of o s)))
      (none : (n : ℕ) → length s ≤ most → order_of s ≡ refuses n → P none_line) where
    by_order : length s ≤ most → (a : Answer Order) → order_of s ≡ a → P (listed s)
    by_order h (gives o) e = rw (listed-order o h e) (lines o h e)
    by_order h (refuses n) e = rw (listed-none n h e) (none n h e)

    by_length : (b : Bool) → ltb most (length s) ≡ b → P (listed s)
    by_length true e = let h = ltb-true most (length s) e in rw (listed-long h) (long h)
    by_length false e = by_order (ltb-false most (length s) e) (order_of s) refl

    pub listed-by : P (listed s)
    listed-by = by_length (ltb most (length s)) refl

-- a text that was made of the line `long` shows it
pub shows-long : (t : Text) → t ≡ text_of long_line → shown t ≡ long_line
shows-long t e = text-shows t long_line e (omega arith)

-- what is laid where it fits, where it fits
pub laid-fits : (d vs : List ℕ) → 0 + length vs ≤ length d → overlaid d 0 vs ≡ vs ++ drop (0 + length vs) d
laid-fits d vs h = rw (le-leb (0 + length vs) (length d) h)

-- a stream that is too long
pub ruleset too_long = (listed-long, shows-long, laid-fits)
