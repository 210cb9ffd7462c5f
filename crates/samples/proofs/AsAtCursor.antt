-- Copying what a step gave is copying at the cursor that the step was made from.
use Prim.Native.Nat.{ℕ, ◌-◌}
use mathlib.Core.Path.{◌≡◌, sym, ap, ◌∙◌}
use mathlib.Core.Bool.{Bool, true, false}
use mathlib.Core.List.{List, []}
use lib.IntN.{ℤ}
use lib.ListN.{length, take, drop}
use contract.Lifetimes.{Lfts}
use denote.Ref.{Bor}
use denote.MutBor.{MutBor}
use Rattle.num.specs.Answer.{gives, refuses}
use Rattle.num.specs.Choice.{pick}
use Rattle.num.specs.declared.Order.{Order}
use Rattle.body.specs.Kind.{kind_of}
use Rattle.copy.specs.Samples.{short_at, pattern_at}
use Rattle.effect.specs.Says.{Says, ok, unknown, bad, waits, ready}
use Rattle.reader.specs.Item.{Item, chunk, item_said}
use Rattle.reader.specs.Step.{before, step_of}
use Rattle.reader.specs.IsStep.{IsStep}
use Rattle.reader.specs.declared.Cursor.{Cursor}
use Rattle.reader.specs.declared.Stepped.{Stepped}
use Rattle.reader.proofs.Cursor.step.Reads as step
use Rattle.reader.proofs.Laws.{item-by, other-item}
use Rattle.samples.specs.Copy.{copied_said, layout_in, layout_by, layout_at, count_of, samples_by, samples_at, filled}
use Rattle.samples.specs.Given.{is_there, layout_there, layout_given, count_given, place_given, samples_given}
use Rattle.samples.specs.declared.Uncopied.{Uncopied}
use Rattle.std.specs.Prelude.{Result}
use Rattle.samples.proofs.Again.{ready-again}
use Rattle.samples.proofs.AtCursor.{stands}
use Rattle.samples.proofs.There.{own-data, own-that, pick-same}
use Rattle.samples.proofs.Theorems.{copied-told}
use Rattle.samples.proofs.patterns.patterns_at.Reads as patterns_at
use Rattle.samples.proofs.patterns.patterns_of.Reads as patterns_of
use Rattle.samples.proofs.shorts.shorts_at.Reads as shorts_at
use Rattle.samples.proofs.shorts.shorts_of.Reads as shorts_of

module _ (o : Order) (s : List ℕ) (c : Cursor) where
  -- a chunk that the step gives is there
  there : (p code size : ℕ) (says : Says) → (step_of o s c).item ≡ gives (chunk p code size says) → (float : Bool) (channel : ℕ) →
      layout_there float o s channel (step_of o s c).shown (gives (chunk c.place code size says)) ≡ layout_in float channel (step_of o s c).shown says code
  there p code size ok e float channel = pick-same (is_there o (drop c.place s) (step_of o s c).shown code size ok) (refuses 35)
  there p code size unknown e float channel = pick-same (is_there o (drop c.place s) (step_of o s c).shown code size unknown) (refuses 35)
  there p code size (bad n) e float channel = pick-same (is_there o (drop c.place s) (step_of o s c).shown code size (bad n)) (refuses 35)
  there p code size (waits n t) e float channel = pick-same (is_there o (drop c.place s) (step_of o s c).shown code size (waits n t)) (refuses 35)
  there p code size (ready d) e float channel =
      let t = stands o c p code size (ready d) s e in
      let r = rw (← ap (λ x. x.shown) t.step) at (ready-again o (take size (drop 12 (drop c.place s))) (before c.in_step c.state) d (kind_of code) t.said) in
      rw (t.ahead, own-that code size, r, own-data d)

  -- at the cursor's place
  place-is : (p code size : ℕ) (says : Says) → (step_of o s c).item ≡ gives (chunk p code size says) → p ≡ c.place
  place-is p code size says e =
      let t = ap (λ x. x.item) (stands o c p code size says s e).step in
      cc

  layout-by : (i : Item) → (step_of o s c).item ≡ gives i → (float : Bool) (channel : ℕ) →
      layout_there float o s channel (step_of o s c).shown (gives i) ≡ layout_by float channel (step_of o s c).shown (gives i)
  layout-by i e float channel =
      let shown = (step_of o s c).shown in
      item-by (λ (j : Item). (step_of o s c).item ≡ gives j → layout_there float o s channel shown (gives j) ≡ layout_by float channel shown (gives j))
      (λ p code size says q. rw (place-is p code size says q) (there p code size says q float channel))
      (λ j n q.
      other-item (refuses 35) (λ p code size says. pick (is_there o (drop p s) shown code size says) (layout_in float channel shown says code) (refuses 35)) j n
      ∙ sym (other-item (refuses 35) (λ p code size says. layout_in float channel shown says code) j n))
      i e

  samples-by : (i : Item) → (step_of o s c).item ≡ gives i → samples_by (gives i) (drop (place_given (gives i)) s) ≡ samples_by (gives i) (drop c.place s)
  samples-by i e =
      item-by (λ (j : Item). (step_of o s c).item ≡ gives j → samples_by (gives j) (drop (place_given (gives j)) s) ≡ samples_by (gives j) (drop c.place s))
      (λ p code size says q. rw (place-is p code size says q))
      (λ j n q.
      other-item [] (λ p code size says. take (size - 8) (drop 20 (drop (place_given (gives j)) s))) j n
      ∙ sym (other-item [] (λ p code size says. take (size - 8) (drop 20 (drop c.place s))) j n))
      i e

-- what a copy of what t gave answers and leaves is what one at c does: for both widths, every channel and every slice
pub record AsAtCursor (o : Order) (s : List ℕ) (c : Cursor) (t : Stepped) : Type 1 where
  pub layout : (float : Bool) (channel : ℕ) → layout_given float o s t channel ≡ layout_at float o s c channel
  pub count : (float : Bool) (channel room : ℕ) → count_given float o s t channel room ≡ count_of float o s c channel room
  pub samples : samples_given s t ≡ samples_at o s c
  pub left : {A : Type 0} (value : List ℕ → ℕ → A) (float : Bool) (channel room : ℕ) (out : List A) →
      filled (count_given float o s t channel room) (layout_given float o s t channel) (value (samples_given s t)) out
      ≡ filled (count_of float o s c channel room) (layout_at float o s c channel) (value (samples_at o s c)) out

module _ (o : Order) (s : List ℕ) (c : Cursor) (t : Stepped) (i : Item) (e : (step_of o s c).item ≡ gives i) (k : IsStep t (step_of o s c)) where
  layout-as : (float : Bool) (channel : ℕ) → layout_given float o s t channel ≡ layout_at float o s c channel
  unfolding layout_given layout_at
  layout-as float channel = rw (k.item, k.shown, e) (layout-by o s c i e float channel)

  count-as : (float : Bool) (channel room : ℕ) → count_given float o s t channel room ≡ count_of float o s c channel room
  unfolding count_given count_of
  count-as float channel room = rw (layout-as float channel)

  samples-as : samples_given s t ≡ samples_at o s c
  samples-as = rw (k.item, e) (samples-by o s c i e)

  -- where a step at a cursor gave an item
  pub given-as-at-cursor : AsAtCursor o s c t
  given-as-at-cursor = record {
    layout = layout-as;
    count = count-as;
    samples = samples-as;
    left = λ value float channel room out. rw (count-as float channel room, layout-as float channel, samples-as);
  }

-- ---- said of the promises: whatever the calls answer, as long as each meets its promise

same-copy : {A : Type 0} {o : Order} {s : List ℕ} {c : Cursor} {t : Stepped} (float : Bool) (value : List ℕ → ℕ → A) (channel : ℕ) (out : List A) (r r' : Result ℕ Uncopied) (x x' : List A) →
    AsAtCursor o s c t →
    (copied_said r ≡ count_of float o s c channel (length out)) × (x ≡ filled (count_of float o s c channel (length out)) (layout_at float o s c channel) (value (samples_at o s c)) out) →
    (copied_said r' ≡ count_given float o s t channel (length out)) × (x' ≡ filled (count_given float o s t channel (length out)) (layout_given float o s t channel) (value (samples_given s t)) out) →
    (r ≡ r') × (x ≡ x')
same-copy float value channel out r r' x x' h p q =
    (copied-told r r' (p.0 ∙ sym (h.count float channel (length out)) ∙ sym q.0), p.1 ∙ sym (h.left value float channel (length out) out) ∙ sym q.1)

-- a step that gave an item, a copy at its cursor and a copy of what it gave, from slices that hold the same: equal answers, and equal slices at the end
module _ (κ : Lfts 1) (κ' κ'' : Lfts 2) (o : Order) (s s' s'' : Bor (List ℕ)) (c : Cursor) (t : Stepped) (end : _) (i : Item) (channel : ℕ) (r r' : Result ℕ Uncopied)
    (made : step.Post κ (c, (o, (s, tt))) t end) (gave : item_said t.item ≡ gives i) (same : s'.now ≡ s.now) (alike : s''.now ≡ s.now) where
  stepped-as : AsAtCursor o s.now c t
  stepped-as = given-as-at-cursor o s.now c t i (sym made.item ∙ gave) made

  pub shorts-of-as-at : (out out' : MutBor (List ℤ)) → out'.now ≡ out.now → (x x' : _) →
      shorts_at.Post κ' (o, (s', (c, (channel, (out, tt))))) r x → shorts_of.Post κ'' (o, (s'', (t, (channel, (out', tt))))) r' x' →
      (r ≡ r') × (x.1.1.1.1.0.now ≡ x'.1.1.1.1.0.now)
  shorts-of-as-at out out' h x x' p q =
      same-copy false (short_at o) channel out.now r r' x.1.1.1.1.0.now x'.1.1.1.1.0.now stepped-as (rw same at p) (rw (alike, h) at q)

  pub patterns-of-as-at : (out out' : MutBor (List ℕ)) → out'.now ≡ out.now → (x x' : _) →
      patterns_at.Post κ' (o, (s', (c, (channel, (out, tt))))) r x → patterns_of.Post κ'' (o, (s'', (t, (channel, (out', tt))))) r' x' →
      (r ≡ r') × (x.1.1.1.1.0.now ≡ x'.1.1.1.1.0.now)
  patterns-of-as-at out out' h x x' p q =
      same-copy true (pattern_at o) channel out.now r r' x.1.1.1.1.0.now x'.1.1.1.1.0.now stepped-as (rw same at p) (rw (alike, h) at q)
