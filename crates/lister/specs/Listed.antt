-- The whole listing of a stream, and what laying it into a slice answers.
use Rattle.std.specs.Prelude.{ℕ, ◌+◌, ◌*◌, List, map, ltb, leb, length, Result, Ok, Err}
use Rattle.num.specs.Answer.{Answer, gives, refuses}
use Rattle.num.specs.Choice.{pick}
use Rattle.num.specs.declared.Order.{Order}
use Rattle.frame.specs.Place.{order_of}
use Rattle.reader.specs.Item.{Item}
use Rattle.reader.specs.Items.{Given, items}
use Rattle.reader.specs.Rows.{rows_for}
use Rattle.listing.specs.Lines.{long_line, none_line, listing}
use Rattle.lister.specs.declared.Needs.{Needs}

-- the most bytes of a stream that are listed
abbrev pub most : ℕ
most = 65536

-- the items of a stream, without what each shows
abbrev pub items_of : Order → List ℕ → List Item
items_of o s = map (λ (g : Given). g.item) (items o s)

-- by the order that was found: the lines of the stream's items in that order, or none where no sync word stands
abbrev pub listed_by : Answer Order → List ℕ → List ℕ
listed_by (gives o) s = listing o (length s) (items_of o s)
listed_by (refuses n) s = none_line

-- the listing of a stream: long where it has more than 65,536 bytes
unfoldable pub listed : List ℕ → List ℕ
listed s = pick (ltb most (length s)) long_line (listed_by (order_of s) s)

-- the bytes that the line of an item, the first line and the last line have at most
abbrev pub longest_line : ℕ
longest_line = 35

abbrev pub longest_first : ℕ
longest_first = 18

abbrev pub longest_last : ℕ
longest_last = 10

-- no listing has more bytes: the first line, a line for each item that so many bytes may have, and the last line
abbrev pub longest : ℕ
longest = longest_first + rows_for most * longest_line + longest_last

-- the answer that a listing of n bytes needs room for them
abbrev pub needs : ℕ → Result ℕ Needs
needs n = Err record { 0 = n }

-- the answer for a listing of n bytes and a slice of `room` bytes: it is laid where it fits
abbrev pub laid_in : ℕ → ℕ → Result ℕ Needs
laid_in n room = pick (leb n room) (Ok n) (needs n)
