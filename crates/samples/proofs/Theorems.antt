-- The promise of a copy leaves one answer, and where there is room the answer is the count of the channel's numbers.
use Prim.Native.Nat.{ℕ, ◌≤◌}
use mathlib.Core.Path.{◌≡◌, refl, ap, sym, ◌∙◌}
use mathlib.Core.Bool.{Bool}
use mathlib.Core.List.{List}
use borrow.Author.Tests.{le-leb}
use lib.Dec.{eqb}
use Rattle.std.specs.Prelude.{Result, Ok, Err}
use Rattle.num.specs.Answer.{Answer, gives, refuses}
use Rattle.num.specs.Choice.{pick}
use Rattle.num.specs.declared.Order.{Order}
use Rattle.reader.specs.declared.Cursor.{Cursor}
use Rattle.samples.specs.Copy.{copied_said, layout_at, count_of}
use Rattle.samples.specs.Layout.{numbers}
use Rattle.samples.specs.declared.Layout.{Layout}
use Rattle.samples.specs.declared.Uncopied.{Uncopied}
use Rattle.samples.specs.declared.Uncopied.TheVariants.{PastEnd, BadState, NotReady, NoChannel, TooShort}

-- the result that says an answer
unsaid : Answer ℕ → Result ℕ Uncopied
unsaid (gives n) = Ok n
unsaid (refuses n) =
    Err (pick (eqb n 2) PastEnd
    (pick (eqb n 3) BadState
    (pick (eqb n 35) NotReady
    (pick (eqb n 34) NoChannel
    TooShort))))

unsaid-said : (a : Result ℕ Uncopied) → unsaid (copied_said a) ≡ a
unfolding unsaid
unsaid-said (Ok n) = refl
unsaid-said (Err PastEnd) = refl
unsaid-said (Err BadState) = refl
unsaid-said (Err NotReady) = refl
unsaid-said (Err NoChannel) = refl
unsaid-said (Err TooShort) = refl

pub copied-told : (a b : Result ℕ Uncopied) → copied_said a ≡ copied_said b → a ≡ b
copied-told a b e = sym (unsaid-said a) ∙ ap unsaid e ∙ unsaid-said b

-- where a layout is given and the slice has room, its numbers are counted
pub count-given : (float : Bool) (o : Order) (s : List ℕ) (c : Cursor) (channel room : ℕ) (l : Layout) → layout_at float o s c channel ≡ gives l → numbers l ≤ room →
    count_of float o s c channel room ≡ gives (numbers l)
unfolding count_of
count-given float o s c channel room l e r = rw (e, le-leb (numbers l) room r)
