-- The number at the end of a listing is the number of items.
use Prim.Native.Nat.{ℕ, ◌≤◌}
use mathlib.Core.Path.{◌≡◌, ap, ◌∙◌}
use mathlib.Core.List.{List, [], ◌∷◌, ◌++◌}
use lib.ListN.{length}
use Rattle.num.specs.Answer.{gives}
use Rattle.num.specs.declared.Order.{Order}
use Rattle.frame.specs.Place.{order_of}
use Rattle.reader.specs.Item.{Item}
use Rattle.reader.specs.Items.{items}
use Rattle.listing.specs.Lines.{count_line, first_line, item_lines, last_line, listing}
use Rattle.listing.specs.Read.{read_from, last_number}
use Rattle.listing.specs.Words.{newline, number_word}
use Rattle.listing.proofs.Theorems.{read-append, reads-back}
use Rattle.lister.specs.Listed.{most, items_of, listed}
use Rattle.lister.proofs.Bound.{items-many}
use Rattle.lister.proofs.Cases.{listed-order}

-- whatever was read before, a line that ends in a number leaves that number
read-line : (a : ℕ) (head : List ℕ) (n : ℕ) → read_from a (count_line head n) ≡ n
unfolding count_line
read-line a head n = read-append a (head ++ number_word n) newline ∙ read-append a head (number_word n) ∙ reads-back n

-- The number at the end of a listing of some items is how many they are.
pub printed-listing : (o : Order) (n : ℕ) (is : List Item) → last_number (listing o n is) ≡ length is
printed-listing o n is =
    let front = first_line o n ++ item_lines is in
    read-append 0 front (last_line (length is)) ∙ read-line (read_from 0 front) (0x65 ∷ 0x6E ∷ 0x64 ∷ []) (length is)

-- So where an order is found and the stream is not too long, the number at the end of its listing is the length of its list of items.
pub printed-count : (s : List ℕ) (o : Order) → length s ≤ most → order_of s ≡ gives o → last_number (listed s) ≡ length (items o s)
printed-count s o h e = ap last_number (listed-order s o h e) ∙ printed-listing o (length s) (items_of o s) ∙ items-many o s
