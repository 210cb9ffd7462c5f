-- Samples of one channel, copied out of the chunk at a cursor.
use Rattle.std.specs.Prelude.{ℕ, ◌-◌, Bool, List, [], leb, take, drop, Result}
use Rattle.num.specs.Answer.{Answer, gives, refuses, answered, Reply, reply_with, then}
use Rattle.num.specs.Choice.{pick}
use Rattle.num.specs.declared.Order.{Order}
use Rattle.frame.specs.Place.{front_size}
use Rattle.body.specs.Kind.{kind_of}
use Rattle.body.specs.Table.{shaped}
use Rattle.copy.specs.Samples.{front_filled}
use Rattle.effect.specs.Says.{Says, ok, unknown, bad, waits, ready}
use Rattle.reader.specs.Item.{Item, of_chunk}
use Rattle.reader.specs.Step.{Step, step_of}
use Rattle.reader.specs.declared.Cursor.{Cursor}
use Rattle.state.specs.declared.State.{State}
use Rattle.samples.specs.Layout.{layout, numbers, values_of}
use Rattle.samples.specs.declared.Layout.{Layout}
use Rattle.samples.specs.declared.Uncopied.{Uncopied}
use Rattle.samples.specs.declared.Uncopied.TheVariants.{PastEnd, BadState, NotReady, NoChannel, TooShort}

-- the number of each reason for which nothing is copied
abbrev pub uncopied_number : Uncopied → ℕ
uncopied_number PastEnd = 2
uncopied_number BadState = 3
uncopied_number NotReady = 35
uncopied_number NoChannel = 34
uncopied_number TooShort = 33

-- what an answer says: the count of numbers written, or a number of refusal
abbrev pub copied_said : Result ℕ Uncopied → Answer ℕ
copied_said r = answered uncopied_number r

-- its number, and the count that goes with it: 0 with a refusal
abbrev pub copied_reply : Result ℕ Uncopied → Reply ℕ
copied_reply r = reply_with 0 (copied_said r)

-- where the channel's numbers lie in the chunk that a step would give, if it is ready data of the width
abbrev pub layout_in : Bool → ℕ → State → Says → ℕ → Answer Layout
layout_in float channel shown ok code = refuses 35
layout_in float channel shown unknown code = refuses 35
layout_in float channel shown (bad n) code = refuses 35
layout_in float channel shown (waits n t) code = refuses 35
layout_in float channel shown (ready d) code = layout float (shaped (kind_of code)) channel shown d

abbrev pub layout_by : Bool → ℕ → State → Answer Item → Answer Layout
layout_by float channel shown (refuses n) = refuses n
layout_by float channel shown (gives i) =
    of_chunk (refuses 35) (λ place code size says. layout_in float channel shown says code) i

-- numbers 2 and 3 as in a step, then 35, then 34
unfoldable pub layout_at : Bool → Order → List ℕ → Cursor → ℕ → Answer Layout
layout_at float o s c channel =
    let t : Step = step_of o s c in
    layout_by float channel t.shown t.item

-- then 33 where the slice has no room for the numbers, and else their count
abbrev pub count_within : ℕ → Layout → Answer ℕ
count_within room l = pick (leb (numbers l) room) (gives (numbers l)) (refuses 33)

unfoldable pub count_of : Bool → Order → List ℕ → Cursor → ℕ → ℕ → Answer ℕ
count_of float o s c channel room = then (layout_at float o s c channel) (count_within room)

-- the sample bytes of the chunk that a step would give: after its header and its time, up to its end
abbrev pub samples_by : Answer Item → List ℕ → List ℕ
samples_by (refuses n) l = []
samples_by (gives i) l = of_chunk [] (λ place code size says. take (size - 8) (drop front_size l)) i

abbrev pub samples_at : Order → List ℕ → Cursor → List ℕ
samples_at o s c = samples_by (step_of o s c).item (drop c.place s)

-- what the slice holds afterwards: the numbers at its front where they were copied, else what it held
abbrev pub filled : {A : Type 0} → Answer ℕ → Answer Layout → (ℕ → A) → List A → List A
filled (gives n) (gives l) value out = front_filled (values_of value l) out
filled (gives n) (refuses k) value out = out
filled (refuses k) l value out = out
