-- Laws of the slots: what stands in each after one was set, and that the values are what their slots hold.
use mathlib.Core.Path.{◌≡◌, refl, sym, ap, ◌∙◌}
use mathlib.Core.Bool.{Bool, true, false}
use Rattle.num.specs.Choice.{pick}
use Rattle.body.specs.Table.{Slot, packing, rate, band, group_band, centre, full_scale, total_gain, float_scale, group, frequencies, gains, Value, none, is_slot}
use Rattle.state.specs.State.{value_in, set_in, built, with_sums, Summed}
use Rattle.state.specs.declared.sums.GainSums.{GainSums}
use Rattle.state.specs.declared.Values.{Values}

pub in-built : (f : (x : Slot) → Value x) (x : Slot) → value_in x (built f) ≡ f x
in-built f packing = refl
in-built f rate = refl
in-built f band = refl
in-built f group_band = refl
in-built f centre = refl
in-built f full_scale = refl
in-built f total_gain = refl
in-built f float_scale = refl
in-built f group = refl
in-built f frequencies = refl
in-built f gains = refl

-- values are what their slots hold, with the sums that follow, where their sums are those of their parts
rebuilt-is : (v : Values) → Summed v → built (λ x. value_in x v) ≡ v
rebuilt-is v h = λ i. with_sums v (sym h i)

-- so two that hold the same in every slot, and whose sums are those of their parts, are the same
pub same-values : (v w : Values) → Summed v → Summed w → ((x : Slot) → value_in x v ≡ value_in x w) → v ≡ w
same-values v w p q h = sym (rebuilt-is v p) ∙ (λ i. built (λ x. h x i)) ∙ rebuilt-is w q

-- the values w where the test holds, and v where it does not
abbrev mixed : (Slot → Bool) → Values → Values → (x : Slot) → Value x
mixed test w v x = pick (test x) (value_in x w) (value_in x v)

-- after a slot was set, it holds what it holds where that is set in no values at all; the others are as they were
put-mixed : (y : Slot) (a : Value y) (v : Values) → built (λ x. value_in x (set_in y a v)) ≡ built (mixed (is_slot y) (set_in y a (built none)) v)
put-mixed packing a v = refl
put-mixed rate a v = refl
put-mixed band a v = refl
put-mixed group_band a v = refl
put-mixed centre a v = refl
put-mixed full_scale a v = refl
put-mixed total_gain a v = refl
put-mixed float_scale a v = refl
put-mixed group a v = refl
put-mixed frequencies a v = refl
put-mixed gains a v = refl

in-put : (y : Slot) (a : Value y) (v : Values) (x : Slot) (b : Bool) → is_slot y x ≡ b → value_in x (set_in y a v) ≡ pick b (value_in x (set_in y a (built none))) (value_in x v)
in-put y a v x b e =
    sym (in-built (λ z. value_in z (set_in y a v)) x) ∙ ap (value_in x) (put-mixed y a v) ∙ in-built (mixed (is_slot y) (set_in y a (built none)) v) x ∙ rw e

-- every other slot is left
pub set-other : (y : Slot) (a : Value y) (v : Values) (x : Slot) → is_slot y x ≡ false → value_in x (set_in y a v) ≡ value_in x v
set-other y a v x e = in-put y a v x false e

-- and the slot itself does not depend on what was there
pub set-own : (y : Slot) (a : Value y) (v w : Values) (x : Slot) → is_slot y x ≡ true → value_in x (set_in y a v) ≡ value_in x (set_in y a w)
set-own y a v w x e = in-put y a v x true e ∙ rw (in-put y a w x true e)

-- a slot holds what it was set to
pub in-set : (x : Slot) (a : Value x) (v : Values) → value_in x (set_in x a v) ≡ a
in-set packing a v = refl
in-set rate a v = refl
in-set band a v = refl
in-set group_band a v = refl
in-set centre a v = refl
in-set full_scale a v = refl
in-set total_gain a v = refl
in-set float_scale a v = refl
in-set group a v = refl
in-set frequencies a v = refl
in-set gains a v = refl

-- the sums are in no slot
pub sums-other : (v : Values) (s : GainSums) (x : Slot) → value_in x (with_sums v s) ≡ value_in x v
sums-other v s packing = refl
sums-other v s rate = refl
sums-other v s band = refl
sums-other v s group_band = refl
sums-other v s centre = refl
sums-other v s full_scale = refl
sums-other v s total_gain = refl
sums-other v s float_scale = refl
sums-other v s group = refl
sums-other v s frequencies = refl
sums-other v s gains = refl

-- an absent value set where none is present changes nothing
pub set-none : (x : Slot) → set_in x (none x) (built none) ≡ built none
set-none packing = refl
set-none rate = refl
set-none band = refl
set-none group_band = refl
set-none centre = refl
set-none full_scale = refl
set-none total_gain = refl
set-none float_scale = refl
set-none group = refl
set-none frequencies = refl
set-none gains = refl
