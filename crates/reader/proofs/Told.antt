-- The cases of a step's answer say different things, so the promise fixes the case: two answers that say the same are the same.
use Prim.Native.Nat.{ℕ}
use mathlib.Core.Path.{◌≡◌, refl, ap, sym, ◌∙◌}
use lib.Dec.{eqb}
use Rattle.num.specs.Answer.{Answer, gives, refuses}
use Rattle.num.specs.Choice.{pick}
use Rattle.body.specs.Fault.{fault_number}
use Rattle.body.specs.declared.faults.Fault.{Fault}
use Rattle.body.specs.declared.faults.Fault.TheVariants.{Size, Value, Count, Padding, Text}
use Rattle.effect.specs.Says.{Says, ok, unknown, bad, waits, ready, verdict_said}
use Rattle.effect.specs.declared.Lack.{Lack}
use Rattle.effect.specs.declared.Lack.TheVariants.{Packing, Rate, Scale}
use Rattle.effect.specs.declared.Verdict.{Verdict}
use Rattle.effect.specs.declared.Verdict.TheVariants as Said
use Rattle.reader.specs.Item.{Item, end, skipped, unfinished, chunk, item_said}
use Rattle.reader.specs.declared.Item as declared
use Rattle.reader.specs.declared.Item.TheVariants.{PastEnd, BadState, End, Skipped, Unfinished, Chunk}

-- what can be undone tells apart
pub told : {A B : Type 0} (said : A → B) (unsaid : B → A) → ((a : A) → unsaid (said a) ≡ a) → (a b : A) → said a ≡ said b → a ≡ b
told said unsaid back a b e = sym (back a) ∙ ap unsaid e ∙ back b

-- the fault of a number of 11 to 15
pub fault_of : ℕ → Fault
fault_of n = pick (eqb n 11) Size (pick (eqb n 12) Value (pick (eqb n 13) Count (pick (eqb n 14) Padding Text)))

pub fault-back : (f : Fault) → fault_of (fault_number f) ≡ f
unfolding fault_of
fault-back Size = refl
fault-back Value = refl
fault-back Count = refl
fault-back Padding = refl
fault-back Text = refl

-- ---- what is said of a chunk

lack_of : ℕ → Lack
lack_of n = pick (eqb n 21) Packing (pick (eqb n 22) Rate Scale)

verdict_of : Says → Verdict
verdict_of ok = Said.Good
verdict_of unknown = Said.Unknown
verdict_of (bad n) = pick (eqb n 16) Said.NotCovered (Said.Malformed (fault_of n))
verdict_of (waits n t) = Said.Waits (lack_of n) t
verdict_of (ready d) = Said.Ready d

verdict-back : (v : Verdict) → verdict_of (verdict_said v) ≡ v
unfolding fault_of lack_of verdict_of
verdict-back Said.Good = refl
verdict-back Said.Unknown = refl
verdict-back (Said.Malformed Size) = refl
verdict-back (Said.Malformed Value) = refl
verdict-back (Said.Malformed Count) = refl
verdict-back (Said.Malformed Padding) = refl
verdict-back (Said.Malformed Text) = refl
verdict-back Said.NotCovered = refl
verdict-back (Said.Waits Packing t) = refl
verdict-back (Said.Waits Rate t) = refl
verdict-back (Said.Waits Scale t) = refl
verdict-back (Said.Ready d) = refl

pub verdict-told : (x y : Verdict) → verdict_said x ≡ verdict_said y → x ≡ y
verdict-told = told verdict_said verdict_of verdict-back

-- ---- the item of a step

item_of : Answer Item → declared.Item
item_of (refuses n) = pick (eqb n 2) PastEnd BadState
item_of (gives end) = End
item_of (gives (skipped place length cause)) = Skipped place length cause
item_of (gives (unfinished place length)) = Unfinished place length
item_of (gives (chunk place code size says)) = Chunk place code size (verdict_of says)

item-back : (i : declared.Item) → item_of (item_said i) ≡ i
unfolding item_of
item-back PastEnd = refl
item-back BadState = refl
item-back End = refl
item-back (Skipped place length cause) = refl
item-back (Unfinished place length) = refl
item-back (Chunk place code size v) = ap (Chunk place code size) (verdict-back v)

pub item-told : (x y : declared.Item) → item_said x ≡ item_said y → x ≡ y
item-told = told item_said item_of item-back
