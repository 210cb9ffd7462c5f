-- A copy looks at what a step gives and at the bytes ahead, and at no place.
use Prim.Native.Nat.{ℕ, ◌-◌}
use mathlib.Core.Path.{◌≡◌, refl, sym, ◌∙◌}
use mathlib.Core.Bool.{Bool}
use mathlib.Core.List.{List, []}
use lib.ListN.{take, drop}
use Rattle.num.specs.Answer.{Answer, gives, refuses}
use Rattle.num.specs.declared.Order.{Order}
use Rattle.state.specs.declared.State.{State}
use Rattle.reader.specs.Item.{Item}
use Rattle.reader.proofs.Laws.{placed-chunk}
use Rattle.reader.specs.Step.{step_of}
use Rattle.reader.specs.declared.Cursor.{Cursor}
use Rattle.samples.specs.Copy.{layout_in, layout_by, layout_at, count_of, samples_by, samples_at, filled}
use Rattle.ending.specs.Ending.{onto, answer_by}
use Rattle.ending.proofs.Accepted.{AsIn}

-- what each copying call answers and leaves at c in s is what it does at d in t: for both widths, every channel and every slice
pub record SameCopies (o : Order) (s : List ℕ) (c : Cursor) (t : List ℕ) (d : Cursor) : Type 1 where
  pub layout : (float : Bool) (channel : ℕ) → layout_at float o s c channel ≡ layout_at float o t d channel
  pub count : (float : Bool) (channel room : ℕ) → count_of float o s c channel room ≡ count_of float o t d channel room
  pub bytes : samples_at o s c ≡ samples_at o t d
  pub left : {A : Type 0} (value : List ℕ → ℕ → A) (float : Bool) (channel room : ℕ) (out : List A) →
      filled (count_of float o s c channel room) (layout_at float o s c channel) (value (samples_at o s c)) out
      ≡ filled (count_of float o t d channel room) (layout_at float o t d channel) (value (samples_at o t d)) out

layout-told : (f : ℕ → ℕ) (float : Bool) (channel : ℕ) (shown : State) (a : Answer Item) → layout_by float channel shown (answer_by f a) ≡ layout_by float channel shown a
layout-told f float channel shown (refuses n) = refl
layout-told f float channel shown (gives i) = placed-chunk f (refuses 35) (λ place code size says. layout_in float channel shown says code) i

samples-told : (f : ℕ → ℕ) (a : Answer Item) (l : List ℕ) → samples_by (answer_by f a) l ≡ samples_by a l
samples-told f (refuses n) l = refl
samples-told f (gives i) l = placed-chunk f [] (λ place code size says. take (size - 8) (drop 20 l)) i

module _ (o : Order) (p : ℕ) (s : List ℕ) (c : Cursor) (l : List ℕ) (e : Cursor) (a : AsIn o p s c l e) where
  layout-as : (float : Bool) (channel : ℕ) → layout_at float o s c channel ≡ layout_at float o l e channel
  unfolding layout_at
  layout-as float channel = rw a.step (layout-told (onto p) float channel (step_of o l e).shown (step_of o l e).item)

  count-as : (float : Bool) (channel room : ℕ) → count_of float o s c channel room ≡ count_of float o l e channel room
  unfolding count_of
  count-as float channel room = rw (layout-as float channel)

  samples-as : samples_at o s c ≡ samples_at o l e
  samples-as = rw (a.step, a.bytes) (samples-told (onto p) (step_of o l e).item (drop e.place l))

  pub copies-as : SameCopies o s c l e
  copies-as = record {
    layout = layout-as;
    count = count-as;
    bytes = samples-as;
    left = λ value float channel room out. rw (count-as float channel room, layout-as float channel, samples-as);
  }

-- it goes both ways, and from one stream to the next
pub copies-sym : {o : Order} {s : List ℕ} {c : Cursor} {t : List ℕ} {d : Cursor} → SameCopies o s c t d → SameCopies o t d s c
copies-sym e = record {
  layout = λ float channel. sym (e.layout float channel);
  count = λ float channel room. sym (e.count float channel room);
  bytes = sym e.bytes;
  left = λ value float channel room out. sym (e.left value float channel room out);
}

pub copies-trans : {o : Order} {s : List ℕ} {c : Cursor} {t : List ℕ} {d : Cursor} {u : List ℕ} {e : Cursor} →
    SameCopies o s c t d → SameCopies o t d u e → SameCopies o s c u e
copies-trans a b = record {
  layout = λ float channel. a.layout float channel ∙ b.layout float channel;
  count = λ float channel room. a.count float channel room ∙ b.count float channel room;
  bytes = a.bytes ∙ b.bytes;
  left = λ value float channel room out. a.left value float channel room out ∙ b.left value float channel room out;
}
