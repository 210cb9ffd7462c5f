-- Samples of one channel, copied out of the chunk that a step gave. The cursor that the step left has no say.
use Rattle.std.specs.Prelude.{ℕ, Bool, false, List, eqb, ℤ, pos, negsuc, take, drop}
use Rattle.num.specs.Answer.{Answer, gives, refuses, then}
use Rattle.num.specs.Choice.{pick, both}
use Rattle.num.specs.declared.Order.{Order}
use Rattle.frame.specs.Ahead.{ahead_of}
use Rattle.frame.specs.Ahead as Ahead
use Rattle.frame.specs.Place.{header_size}
use Rattle.frame.specs.declared.Ahead.{Ahead}
use Rattle.body.specs.Kind.{kind_of}
use Rattle.body.specs.declared.sampled.Data.{Data}
use Rattle.effect.specs.Says.{Says}
use Rattle.effect.specs.Ready.{ready_data}
use Rattle.effect.specs.Effect.{effect}
use Rattle.reader.specs.Item.{Item, of_chunk, item_said}
use Rattle.reader.specs.declared.Stepped.{Stepped}
use Rattle.state.specs.declared.State.{State}
use Rattle.samples.specs.Copy.{layout_in, count_within, samples_by}
use Rattle.samples.specs.declared.Layout.{Layout}

abbrev pub same_time : ℤ → ℤ → Bool
same_time (pos m) (pos n) = eqb m n
same_time (negsuc m) (negsuc n) = eqb m n
same_time (pos m) (negsuc n) = false
same_time (negsuc m) (pos n) = false

-- the same time and as many samples
abbrev pub same_data : Data → Data → Bool
same_data a b = both (same_time a.time b.time) (eqb a.samples b.samples)

-- there is data in both, and it is the same
abbrev pub both_give : Answer Data → Answer Data → Bool
both_give (gives a) (gives b) = same_data a b
both_give (gives a) (refuses n) = false
both_give (refuses n) b = false

-- what is ahead is a chunk of this type and size
abbrev pub is_that : ℕ → ℕ → Ahead → Bool
is_that code size a = Ahead.of_chunk false (λ k n. both (eqb k code) (eqb n size)) a

-- l begins with the chunk that an item tells of, and with the state that was shown it is ready, with the time and the
-- count of samples that the item tells of
abbrev pub is_there : Order → List ℕ → State → ℕ → ℕ → Says → Bool
is_there o l shown code size says =
    both (is_that code size (ahead_of o l))
    (both_give (ready_data (effect o (kind_of code) (take size (drop header_size l)) shown).says) (ready_data says))

-- where the channel's numbers lie in it: number 35 unless it is there and of the width, then 34
abbrev pub layout_there : Bool → Order → List ℕ → ℕ → State → Answer Item → Answer Layout
layout_there float o s channel shown (refuses n) = refuses 35
layout_there float o s channel shown (gives i) =
    of_chunk (refuses 35) (λ place code size says.
    pick (is_there o (drop place s) shown code size says) (layout_in float channel shown says code) (refuses 35)) i

unfoldable pub layout_given : Bool → Order → List ℕ → Stepped → ℕ → Answer Layout
layout_given float o s t channel = layout_there float o s channel t.shown (item_said t.item)

-- then 33, and else the count
unfoldable pub count_given : Bool → Order → List ℕ → Stepped → ℕ → ℕ → Answer ℕ
count_given float o s t channel room = then (layout_given float o s t channel) (count_within room)

-- the place of the chunk, and its sample bytes
abbrev pub place_given : Answer Item → ℕ
place_given (refuses n) = 0
place_given (gives i) = of_chunk 0 (λ place code size says. place) i

abbrev pub samples_given : List ℕ → Stepped → List ℕ
samples_given s t = samples_by (item_said t.item) (drop (place_given (item_said t.item)) s)
