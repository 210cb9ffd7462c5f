-- What the rules say of reading a stream.
use Prim.Native.Nat.{ℕ, zero, suc, ◌+◌, ◌≤◌, ◌<◌}
use mathlib.Core.Path.{◌≡◌, refl, ap, sym, ◌∙◌}
use mathlib.Core.Bool.{Bool, true, false, not}
use mathlib.Core.List.{List, [], ◌∷◌}
use native.Mathlib.Omega.{arith}
use lib.Dec.{ltb}
use lib.ListN.{length, take, drop, length-drop, drop_of_length-le}
use lib.Seq.{length-take-le}
use borrow.Author.Tests.{not-false, ltb-true, ltb-false}
use Rattle.num.specs.Choice.{pick, both}
use Rattle.num.specs.declared.Order.{Order}
use Rattle.frame.specs.Frames.{Frame}
use Rattle.frame.specs.Frames as Frames
use Rattle.frame.specs.Place.{shows, gap, stops}
use Rattle.frame.specs.Ahead.{ahead_of}
use Rattle.frame.specs.declared.Stray.{Stray}
use Rattle.frame.specs.declared.Ahead.{Ahead}
use Rattle.frame.specs.declared.Ahead.TheVariants.{End, Stretch, Cut, Chunk}
use Rattle.frame.proofs.Looks.{is-chunk, is-cut, is-stretch, is-end}
use Rattle.frame.proofs.Frames.{gap-le, frames-nil, frames-chunk, frames-cut, frames-skip}
use Rattle.frame.proofs.Laws.{gap-step}
use Rattle.body.specs.Kind.{kind_of}
use Rattle.state.specs.Good.{good_state}
use Rattle.state.specs.declared.State.{State}
use Rattle.state.proofs.Laws.{empty-good}
use Rattle.effect.specs.Effect.{effect}
use Rattle.effect.proofs.Good.{effect-good}
use Rattle.reader.specs.Step.{Step, new_cursor, before, refused, skips, step_by, step_of, after, Fit}
use Rattle.reader.specs.Items.{items_from, items}
use Rattle.reader.specs.Reading.{told, reading, ahead}
use Rattle.reader.specs.declared.Cursor.{Cursor}
use Rattle.reader.proofs.Laws.{step-end, step-ahead, chunk-ends, chunk-size}

-- an item for each frame
pub items-length : (o : Order) (p : ℕ) (step : Bool) (s : State) (fs : List Frame) → length (items_from o p step s fs) ≡ length fs
unfolding items_from
items-length o p step s [] = refl
items-length o p step s (Frames.chunk code body ∷ rest) =
    ap suc (items-length o (p + 12 + length body) true (effect o (kind_of code) body (before step s)).after rest)
items-length o p step s (Frames.skipped stray bytes ∷ rest) = ap suc (items-length o (p + length bytes) false s rest)
items-length o p step s (Frames.unfinished bytes ∷ rest) = ap suc (items-length o (p + length bytes) step s rest)

-- one step more, at the end of the others
pub after-suc : (k : ℕ) (o : Order) (s : List ℕ) (c : Cursor) → after (suc k) o s c ≡ (step_of o s (after k o s c)).cursor
unfolding after
after-suc zero o s c = refl
after-suc (suc k) o s c = after-suc k o s (step_of o s c).cursor

-- ---- a cursor that the reader gave is never refused with 3

pub new-fit : Fit new_cursor
new-fit = refl

-- the state before a chunk takes effect is good
pub before-good : (step : Bool) (s : State) → both step (not (good_state s)) ≡ false → good_state (before step s) ≡ true
before-good true s h = not-false (good_state s) h
before-good false s h = empty-good true

fit-by : (o : Order) (l : List ℕ) (c : Cursor) (a : Ahead) → Fit c → Fit (step_by o l c a).cursor
fit-by o l c (Chunk code size) h =
    rw (effect-good o (take size (drop 12 l)) (before c.in_step c.state) (before-good c.in_step c.state h) (kind_of code))
fit-by o l c End h = h
fit-by o l c Cut h = h
fit-by o l c (Stretch stray) h = refl

fit-past : (o : Order) (l : List ℕ) (c : Cursor) (b : Bool) → Fit c → Fit (pick b (refused 2 c) (step_by o l c (ahead_of o l))).cursor
fit-past o l c true h = h
fit-past o l c false h = fit-by o l c (ahead_of o l) h

-- a step leaves a cursor that is fit where it came fit, so from a new cursor on number 3 is never due
pub step-keeps-fit : (o : Order) (s : List ℕ) (c : Cursor) → Fit c → Fit (step_of o s c).cursor
unfolding step_of
step-keeps-fit o s c h = rw h (fit-past o (drop c.place s) c (ltb (length s) c.place) h)

-- ---- stepping from a new cursor to End gives the items

-- one step, by what stands there, and then what is ahead of the cursor that it leaves
module _ (o : Order) (s : List ℕ) (c : Cursor) (h : c.place < length s) where
  skip-one : (stray : Stray) → ahead_of o (drop c.place s) ≡ Stretch stray →
      let t : Step = skips c stray (gap o (drop c.place s)) in
      ahead o s c ≡ told t.item t.shown (ahead o s t.cursor)
  unfolding items_from
  skip-one stray e =
      ap (items_from o c.place c.in_step c.state) (frames-skip o s c.place h stray e)
      ∙ rw (length-take-le (gap o (drop c.place s)) (drop c.place s) (gap-le o (drop c.place s)))

  one-by : (a : Ahead) → ahead_of o (drop c.place s) ≡ a →
      let t : Step = step_by o (drop c.place s) c a in
      ahead o s c ≡ told t.item t.shown (ahead o s t.cursor)
  unfolding items_from
  one-by (Chunk code size) e =
      let k = is-chunk o (drop c.place s) code size e in
      ap (items_from o c.place c.in_step c.state) (frames-chunk o s c.place h code size k)
      ∙ rw (chunk-size o s c.place code size k)
  one-by Cut e = ap (items_from o c.place c.in_step c.state) (frames-cut o s c.place h (is-cut o (drop c.place s) e))
  one-by (Stretch stray) e = skip-one stray e
  one-by End e = absurd (omega (arith, is-end o (drop c.place s) e, length-drop c.place s))

  pub one : Fit c → let t : Step = step_of o s c in ahead o s c ≡ told t.item t.shown (ahead o s t.cursor)
  one f = rw (step-ahead o s c (omega arith) f) (one-by (ahead_of o (drop c.place s)) refl)

-- the cursor moves on, and not past the end
pub record Goes (s : List ℕ) (c d : Cursor) : Type 0 where
  pub on : c.place < d.place
  pub within : d.place ≤ length s

passed-on : (o : Order) (s : List ℕ) (c : Cursor) (stray : Stray) → c.place < length s → stops (shows o (drop c.place s)) ≡ false → Goes s c (skips c stray (gap o (drop c.place s))).cursor
passed-on o s c stray h k =
    let n = length-drop c.place s in
    record { on = omega (arith, gap-step o s c.place h k); within = omega (arith, gap-le o (drop c.place s)) }

goes-by : (o : Order) (s : List ℕ) (c : Cursor) (a : Ahead) → ahead_of o (drop c.place s) ≡ a → c.place < length s → Goes s c (step_by o (drop c.place s) c a).cursor
goes-by o s c (Chunk code size) e h =
    record { on = omega arith; within = omega (arith, chunk-ends o s c.place code size (is-chunk o (drop c.place s) code size e)) }
goes-by o s c Cut e h = let n = length-drop c.place s in record { on = omega arith; within = omega arith }
goes-by o s c (Stretch stray) e h = passed-on o s c stray h (is-stretch o (drop c.place s) stray e)
goes-by o s c End e h = absurd (omega (arith, is-end o (drop c.place s) e, length-drop c.place s))

pub goes : (o : Order) (s : List ℕ) (c : Cursor) → Fit c → c.place < length s → Goes s c (step_of o s c).cursor
goes o s c f h = rw (step-ahead o s c (omega arith) f) (goes-by o s c (ahead_of o (drop c.place s)) refl h)

-- steps from a cursor that is fit give what is ahead of it
reads-by : (f : ℕ) (o : Order) (s : List ℕ) (c : Cursor) (b : Bool) → ltb c.place (length s) ≡ b → Fit c → c.place ≤ length s → length s < c.place + suc f →
    ((d : Cursor) → Fit d → d.place ≤ length s → length s < d.place + f → reading f o s d ≡ ahead o s d) → reading (suc f) o s c ≡ ahead o s c
unfolding reading items_from
reads-by f o s c true e k h n r =
    let q = ltb-true c.place (length s) e in
    let g = goes o s c k q in
    let t : Step = step_of o s c in
    ap (told t.item t.shown) (r t.cursor (step-keeps-fit o s c k) g.within (omega (arith, g.on))) ∙ sym (one o s c q k)
reads-by f o s c false e k h n r =
    let q = ltb-false c.place (length s) e in
    let d : drop c.place s ≡ [] = drop_of_length-le s {i = c.place} q in
    rw (step-end o s c (omega arith) k, d, frames-nil o)

pub reads : (f : ℕ) (o : Order) (s : List ℕ) (c : Cursor) → Fit c → c.place ≤ length s → length s < c.place + f → reading f o s c ≡ ahead o s c
reads zero o s c k h n = absurd (omega arith)
reads (suc f) o s c k h n = reads-by f o s c (ltb c.place (length s)) refl k h n (λ d. reads f o s d)

-- from a new cursor, they give the items of the stream
pub reading-items : (o : Order) (s : List ℕ) → reading (suc (length s)) o s new_cursor ≡ items o s
reading-items o s = reads (suc (length s)) o s new_cursor new-fit (omega arith) (omega arith)
