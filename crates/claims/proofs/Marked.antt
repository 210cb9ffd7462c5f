-- The marked cases and the example of a listing hold of the rules: computing them gives what the tables name.
use Prim.Native.Nat.{ℕ}
use mathlib.Core.Path.{◌≡◌, refl}
use mathlib.Core.List.{List, [], map}
use lib.ListN.{length}
use Rattle.num.specs.Choice.{each}
use Rattle.num.specs.Answer.{gives}
use Rattle.num.specs.declared.Order.TheVariants.{Big}
use Rattle.text.specs.Utf8.{fits, first_fit, run_by}
use Rattle.frame.specs.Frames.{frames_by}
use Rattle.frame.specs.Place.{starts, shows, gap, order_of}
use Rattle.body.specs.Groups.{listed, offset_at, packed}
use Rattle.body.specs.Kind.{known, kind_in, kind_of}
use Rattle.body.specs.Lists.{upto}
use Rattle.body.specs.Plain.{zeros, texts, text}
use Rattle.cover.specs.Cover.{total, covers, group_covers}
use Rattle.effect.specs.Effect.{effect}
use Rattle.reader.specs.Item.{Item, end}
use Rattle.reader.specs.Items.{Given, items_from, items}
use Rattle.reader.specs.Step.{new_cursor, step_of}
use Rattle.listing.specs.Digits.{decimal, decimal_by, hex_digits}
use Rattle.listing.specs.Lines.{count_line, stretch_line, chunk_line, listing}
use Rattle.claims.specs.Marked.{Stream, table, in_step, short_ends, example, example_text}

-- the items of a stream in big order
abbrev pub read : List ℕ → List Item
read s = map (λ (g : Given). g.item) (items Big s)

-- there are twelve, each stream has the items that its row names, and where nothing is ahead, as in the first, a step gives End
pub marked-cases : (length table ≡ 12) × (map (map (λ (s : Stream). read s.bytes)) table ≡ map (map (λ (s : Stream). s.holds)) table) × ((step_of Big [] new_cursor).item ≡ gives end)
unfolding step_of table items_from frames_by gap shows starts kind_of kind_in known effect text texts zeros run_by first_fit fits listed packed offset_at each upto group_covers covers total
marked-cases = (refl, refl, refl)

-- and those that skip have these causes where a reader comes to them in step
pub marked-in-step : map (λ (s : Stream). read s.bytes) in_step ≡ map (λ (s : Stream). s.holds) in_step
unfolding in_step items_from frames_by gap shows starts kind_of kind_in known effect
marked-in-step = refl

-- ends of one to three bytes: unfinished where they begin the sync word and no chunk covers them
pub short-ends : map (λ (s : Stream). read s.bytes) short_ends ≡ map (λ (s : Stream). s.holds) short_ends
unfolding short_ends items_from frames_by gap shows starts kind_of kind_in known effect
short-ends = refl

-- the order of the example is found, it has 73 bytes, and its listing is the text
pub listing-example : (order_of example ≡ gives Big) × (length example ≡ 73) × (listing Big (length example) (read example) ≡ example_text)
unfolding example order_of items_from frames_by gap shows starts kind_of kind_in known effect count_line stretch_line chunk_line decimal decimal_by hex_digits
listing-example = (refl, refl, refl)
