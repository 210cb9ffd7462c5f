-- Laws of the count of sound items, and of a walk that makes it.
use Prim.Native.Nat.{ℕ, zero, suc, ◌+◌, ◌-◌, ◌<◌, ◌≤◌}
use mathlib.Core.Path.{◌≡◌, refl, ap, ◌∙◌}
use mathlib.Core.List.{List}
use mathlib.Core.Logic.{◌⊎◌, inl, inr}
use native.Mathlib.Omega.{arith}
use lib.ListN.{length, drop, length-drop, drop_of_length-le}
use Rattle.num.specs.Answer.{Answer, gives, refuses}
use Rattle.num.specs.declared.Order.{Order}
use Rattle.effect.specs.Says.{Says, ok, unknown, bad, waits, ready}
use Rattle.frame.specs.Ahead.{ahead_of}
use Rattle.frame.specs.declared.Ahead.{Ahead}
use Rattle.frame.specs.declared.Ahead.TheVariants.{End}
use Rattle.frame.proofs.Looks.{is-end}
use Rattle.frame.proofs.Frames.{frames-nil}
use Rattle.reader.specs.Items.{Given, items_from}
use Rattle.reader.specs.Step.{Step, step_by, step_of, after, Fit}
use Rattle.reader.specs.declared.Cursor.{Cursor}
use Rattle.reader.proofs.Laws.{step-ahead, step-end, of-chunk, gives-on}
use Rattle.reader.specs.Item.{Item, item_said}
use Rattle.reader.specs.IsStep.{IsStep}
use Rattle.reader.specs.Reading.{told, ahead}
use Rattle.reader.specs.declared.Stepped.{Stepped}
use Rattle.reader.proofs.Theorems.{step-keeps-fit, one, goes}
use Rattle.bench.specs.Plain.{sound, sound_count}
use Rattle.bench.specs.Inner.Sound.{sound_in}

-- a chunk is sound or not
says-most : (says : Says) → sound says ≤ 1
says-most ok = omega arith
says-most unknown = omega arith
says-most (bad n) = omega arith
says-most (waits n t) = omega arith
says-most (ready d) = omega arith

most : (a : Answer Item) → sound_in a ≤ 1
most (refuses n) = omega arith
most (gives i) = of-chunk (λ n. n ≤ 1) 0 (λ p code size says. sound says) i (omega arith) (λ p code size says. says-most says)

-- one item counts by itself, and the rest after it
count-by : (o : Order) (l : List ℕ) (c : Cursor) (rest : List Given) (a : Ahead) → (a ≡ End → ⊥) →
    let t : Step = step_by o l c a in
    sound_count (told t.item t.shown rest) ≡ sound_in t.item + sound_count rest
unfolding sound_count
count-by o l c rest a h =
    let g = gives-on o l c a h in
    rw (g.1, g.2)

count-one : (o : Order) (s : List ℕ) (c : Cursor) → c.place < length s → Fit c → (rest : List Given) →
    let t : Step = step_of o s c in
    sound_count (told t.item t.shown rest) ≡ sound_in t.item + sound_count rest
count-one o s c h f rest =
    let l = drop c.place s in
    rw (step-ahead o s c (omega arith) f) (count-by o l c rest (ahead_of o l) (λ e. omega (arith, is-end o l e, length-drop c.place s)))

-- no step, and a step before the others
after-none : (o : Order) (s : List ℕ) (c : Cursor) → after 0 o s c ≡ c
unfolding after
after-none o s c = refl

after-next : (o : Order) (s : List ℕ) (c : Cursor) (m : ℕ) → after (suc m) o s c ≡ after m o s (step_of o s c).cursor
unfolding after
after-next o s c m = refl

-- one turn of a walk: the cursor moves on inside the stream and stays fit, n of its item is sound, and more steps go on from it
pub record Turn (o : Order) (s : List ℕ) (c d : Cursor) (n : ℕ) : Type 0 where
  pub fit : Fit d
  pub on : c.place < d.place
  pub within : d.place ≤ length s
  pub most : n ≤ 1
  pub sum : sound_count (ahead o s c) ≡ n + sound_count (ahead o s d)
  pub next : (m : ℕ) → after (suc m) o s c ≡ after m o s d

pub turn : (o : Order) (s : List ℕ) (c : Cursor) {r : Stepped} {n : ℕ} → c.place < length s → Fit c → IsStep r (step_of o s c) → n ≡ sound_in (item_said r.item) → Turn o s c r.cursor n
turn o s c h f t e =
    let g = goes o s c f h in
    rw (e, t.item, t.cursor) (record { fit = step-keeps-fit o s c f; on = g.on; within = g.within; most = most (step_of o s c).item; sum = ap sound_count (one o s c h f) ∙ count-one o s c h f (ahead o s (step_of o s c).cursor); next = after-next o s c })

-- nothing is ahead at the end
pub sound-end : (o : Order) (s : List ℕ) (c : Cursor) → length s ≤ c.place → sound_count (ahead o s c) ≡ 0
unfolding sound_count items_from
sound-end o s c h = rw (drop_of_length-le s {i = c.place} h, frames-nil o)

-- with no byte left, steps leave the cursor
after-end : (m : ℕ) (o : Order) (s : List ℕ) (c : Cursor) → Fit c → c.place ≡ length s → after m o s c ≡ c
after-end zero o s c f e = after-none o s c
after-end (suc m) o s c f e = after-next o s c m ∙ rw (step-end o s c e f) (after-end m o s c f e)

-- where a walk stops, the steps that are left leave the cursor
pub stays : (o : Order) (s : List ℕ) (c : Cursor) (k n : ℕ) → Fit c → c.place ≤ length s → (length s ≤ c.place) ⊎ (n ≤ k) → after (n - k) o s c ≡ c
stays o s c k n f w (inl h) = after-end (n - k) o s c f (omega arith)
stays o s c k n f w (inr h) = let m : n - k ≡ 0 = omega arith in rw m (after-none o s c)
