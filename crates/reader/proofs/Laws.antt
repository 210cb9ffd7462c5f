-- Laws of a step, by what stands at the cursor's place.
use Rattle.std.specs.Prelude.{Option, Some, None}
use Rattle.std.specs.Option.{unwrap_or}
use Rattle.frame.proofs.Laws.{search-at, search-end}
use Prim.Native.Nat.{ℕ, ◌+◌, ◌-◌, ◌≤◌, ◌<◌}
use mathlib.Core.Path.{◌≡◌, refl, sym, ap, ◌∙◌}
use mathlib.Core.Bool.{true, false}
use mathlib.Core.List.{List, [], ◌∷◌}
use mathlib.Core.Logic.{◌⊎◌, inl, inr}
use native.Mathlib.Omega.{arith}
use denote.Enum.Declared.{tag_of}
use lib.ListN.{length, take, drop, length-drop}
use lib.Seq.{drop-drop, drop-length, length-take-le}
use borrow.Author.Tests.{lt-ltb, le-ltb}
use types.Run.{OneOf, miss}
use Rattle.num.specs.Answer.{gives, refuses}
use Rattle.num.specs.declared.Order.{Order}
use Rattle.frame.specs.Place.{shows, stops, gap, search_from}
use Rattle.frame.specs.Ahead.{ahead_of}
use Rattle.frame.specs.Ahead as Ahead
use Rattle.frame.specs.declared.At.TheVariants.{Complete}
use Rattle.frame.specs.declared.Stray.{Stray}
use Rattle.frame.specs.declared.Ahead.{Ahead}
use Rattle.frame.specs.declared.Ahead.TheVariants.{End, Stretch, Cut, Chunk}
use Rattle.frame.proofs.Looks.{ahead-at, stretch-ahead}
use Rattle.frame.proofs.Frames.{complete, gap-le}
use Rattle.effect.specs.Ready.{no_state}
use Rattle.effect.specs.Says.{Says}
use Rattle.reader.specs.Item.{Item, end, skipped, unfinished, chunk, of_chunk, is_chunk, is_end, placed_by, item_said}
use Rattle.reader.specs.Step.{refused, skips, step_by, step_of, unfit}
use Rattle.reader.specs.IsStep.{IsStep}
use Rattle.reader.specs.declared.Cursor.{Cursor}
use Rattle.reader.specs.declared.Item as declared
use Rattle.reader.specs.declared.Item.TheVariants as variants
use Rattle.reader.specs.contracts.Item.{the_type}
use Rattle.reader.specs.declared.Stepped.{Stepped}

module _ (o : Order) (s : List ℕ) (c : Cursor) where
  pub step-past : length s < c.place → step_of o s c ≡ refused 2 c
  unfolding step_of
  step-past h = rw (lt-ltb (length s) c.place h)

  pub step-unfit : c.place ≤ length s → unfit c ≡ true → step_of o s c ≡ refused 3 c
  unfolding step_of
  step-unfit h k = rw (le-ltb (length s) c.place h, k)

  pub step-ahead : c.place ≤ length s → unfit c ≡ false → step_of o s c ≡ step_by o (drop c.place s) c (ahead_of o (drop c.place s))
  unfolding step_of
  step-ahead h k = rw (le-ltb (length s) c.place h, k)

  pub step-end : c.place ≡ length s → unfit c ≡ false → step_of o s c ≡ record { item = gives end; shown = no_state; cursor = c }
  step-end e k = step-ahead (omega arith) k ∙ rw (e, drop-length s)

-- a complete chunk is accepted
pub step-accepts : (o : Order) (s : List ℕ) (c : Cursor) (code size : ℕ) → c.place < length s → unfit c ≡ false → shows o (drop c.place s) ≡ Complete code size →
    step_of o s c ≡ step_by o (drop c.place s) c (Chunk code size)
step-accepts o s c code size h k e =
    let n : 0 < length (drop c.place s) = simp length-drop (omega arith) in
    step-ahead o s c (omega arith) k ∙ rw (ahead-at o (drop c.place s) n, e)

-- where a search does not stop, the stretch up to where it does is skipped
pub step-skips : (o : Order) (l : List ℕ) (c : Cursor) → 0 < length l → stops (shows o l) ≡ false → (stray : Stray) × (step_by o l c (ahead_of o l) ≡ skips c stray (gap o l))
step-skips o l c n h = let w = stretch-ahead o l n h in (w.0, rw w.1)

-- the body of a complete chunk at a place: where it ends, and what it is
module _ (o : Order) (s : List ℕ) (at code size : ℕ) (e : shows o (drop at s) ≡ Complete code size) where
  pub chunk-ends : at + 12 + size ≤ length s
  chunk-ends = omega (arith, (complete o (drop at s) code size e).fits, length-drop at s)

  pub chunk-body : take (at + 12 + size - (at + 12)) (drop (at + 12) s) ≡ take size (drop 12 (drop at s))
  chunk-body =
      let q : at + 12 + size - (at + 12) ≡ size = omega arith in
      rw (q, drop-drop 12 at s)

  pub chunk-size : length (take size (drop 12 (drop at s))) ≡ size
  chunk-size = length-take-le size (drop 12 (drop at s)) (simp length-drop (omega (arith, chunk-ends)))

-- an answer that shows nothing and leaves the cursor
pub still-is-step : {r : Stepped} {i : declared.Item} {c : Cursor} → (r.item ≡ i) × (r.shown ≡ no_state) × (r.cursor ≡ c) →
    IsStep r (record { item = item_said i; shown = no_state; cursor = c })
still-is-step h = record { item = ap item_said h.0; shown = h.1; cursor = h.2 }

-- what holds of what is made of every chunk, and of what is made of every other item, holds of what is made of an item
pub of-chunk : {A : Type 0} (P : A → Type 0) (other : A) (g : ℕ → ℕ → ℕ → Says → A) (i : Item) → P other → ((p code size : ℕ) (says : Says) → P (g p code size says)) →
    P (of_chunk other g i)
of-chunk P other g end h k = h
of-chunk P other g (skipped p n cause) h k = h
of-chunk P other g (unfinished p n) h k = h
of-chunk P other g (chunk p code size says) h k = k p code size says

-- an item is a chunk, or it is none: what holds of both holds of every item
pub item-by : (P : Item → Type 0) → ((p code size : ℕ) (says : Says) → P (chunk p code size says)) → ((i : Item) → is_chunk i ≡ false → P i) → (i : Item) → P i
item-by P k h end = h end refl
item-by P k h (skipped p n cause) = h (skipped p n cause) refl
item-by P k h (unfinished p n) = h (unfinished p n) refl
item-by P k h (chunk p code size says) = k p code size says

-- what is made of an item that is no chunk
pub other-item : {A : Type 0} (other : A) (g : ℕ → ℕ → ℕ → Says → A) (i : Item) → is_chunk i ≡ false → of_chunk other g i ≡ other
other-item other g end e = refl
other-item other g (skipped p n cause) e = refl
other-item other g (unfinished p n) e = refl
other-item other g (chunk p code size says) e = let z : ◌≡◌ {A = ℕ} 0 1 = cc in absurd (omega arith)

-- the other arm of a `let .. else` on a chunk says only the variant's number: the answer is a refusal, or an item that is no chunk
pub no-chunk-told : (i : declared.Item) → OneOf (0 ∷ 1 ∷ 2 ∷ 3 ∷ 4 ∷ []) (tag_of the_type i) →
    ((n : ℕ) × (item_said i ≡ refuses n)) ⊎ ((j : Item) × (item_said i ≡ gives j) × (is_chunk j ≡ false))
no-chunk-told variants.PastEnd e = inl (2, refl)
no-chunk-told variants.BadState e = inl (3, refl)
no-chunk-told variants.End e = inr (end, refl, refl)
no-chunk-told (variants.Skipped p n cause) e = inr (skipped p n cause, refl, refl)
no-chunk-told (variants.Unfinished p n) e = inr (unfinished p n, refl, refl)
no-chunk-told (variants.Chunk p code size v) e = absurd (miss (0 ∷ 1 ∷ 2 ∷ 3 ∷ 4 ∷ []) 5 tt e)

-- where no chunk is ahead a step gives an item that is no chunk
pub gives-other : (o : Order) (l : List ℕ) (c : Cursor) (a : Ahead) → Ahead.is_chunk a ≡ false → (i : Item) × ((step_by o l c a).item ≡ gives i) × (is_chunk i ≡ false)
gives-other o l c End e = (end, refl, refl)
gives-other o l c (Stretch stray) e = (_, refl, refl)
gives-other o l c Cut e = (unfinished c.place (length l), refl, refl)
gives-other o l c (Chunk code size) e = let z : ◌≡◌ {A = ℕ} 0 1 = cc in absurd (omega arith)

-- before the end a step gives an item that is not the end
pub gives-on : (o : Order) (l : List ℕ) (c : Cursor) (a : Ahead) → (a ≡ End → ⊥) → (i : Item) × ((step_by o l c a).item ≡ gives i) × (is_end i ≡ false)
gives-on o l c End h = absurd (h refl)
gives-on o l c (Stretch stray) h = (_, refl, refl)
gives-on o l c Cut h = (unfinished c.place (length l), refl, refl)
gives-on o l c (Chunk code size) h = (_, refl, refl)

-- an item at another place is a chunk, or the end, where it was
pub placed-chunk : {A : Type 0} (f : ℕ → ℕ) (other : A) (g : ℕ → ℕ → ℕ → Says → A) (i : Item) → of_chunk other g (placed_by f i) ≡ of_chunk other (λ p. g (f p)) i
placed-chunk f other g end = refl
placed-chunk f other g (skipped p n cause) = refl
placed-chunk f other g (unfinished p n) = refl
placed-chunk f other g (chunk p code size says) = refl

pub placed-end : (f : ℕ → ℕ) (i : Item) → is_end (placed_by f i) ≡ is_end i
placed-end f end = refl
placed-end f (skipped p n cause) = refl
placed-end f (unfinished p n) = refl
placed-end f (chunk p code size says) = refl

-- an item whose place is counted from another start, and then back again, is what it was
pub placed-back : (f g : ℕ → ℕ) → ((k : ℕ) → f (g k) ≡ k) → (i : Item) → placed_by f (placed_by g i) ≡ i
placed-back f g h end = refl
placed-back f g h (skipped p n cause) = rw (h p)
placed-back f g h (unfinished p n) = rw (h p)
placed-back f g h (chunk p code size says) = rw (h p)

-- the place where a search stops, or the end
pub stop-or : (o : Order) (s : List ℕ) (from : ℕ) (r : Option ℕ) → r ≡ search_from o s from → from ≤ length s →
    (unwrap_or r (length s) ≡ from + gap o (drop from s)) × (unwrap_or r (length s) ≤ length s)
stop-or o s from (Some p) e le = let h = search-at o s from p (sym e) in (sym h.0, omega (arith, h.1))
stop-or o s from None e le =
    let h = search-end o s from (sym e) in
    (omega (arith, h, gap-le o (drop from s), length-drop from s), omega arith)
