-- Reading ends: each step gives the next item of the stream, and after the last of them every step gives End.
use Prim.Native.Nat.{ℕ, zero, suc, ◌≤◌, ◌<◌}
use mathlib.Core.Path.{◌≡◌, ap, sym, ◌∙◌}
use mathlib.Core.Bool.{true, false}
use mathlib.Core.List.{List}
use mathlib.Core.Logic.{⊎_elim, ◌↔◌}
use native.Mathlib.Omega.{arith}
use native.Mathlib.Nat.{lt_of_not-le}
use lib.ListN.{length}
use Rattle.num.specs.Answer.{Answer, gives}
use Rattle.num.specs.declared.Order.{Order}
use Rattle.reader.specs.Item.{Item, end, is_end}
use Rattle.reader.specs.Items.{Given, items}
use Rattle.reader.specs.Reading.{ahead}
use Rattle.reader.specs.Step.{Step, new_cursor, step_of, after}
use Rattle.reader.specs.declared.Cursor.{Cursor}
use Rattle.reading.specs.Bytes.{Spans}
use Rattle.reading.specs.Ends.{Sound, step_after, given_at, GivesItem, GivesEnd, GivesAll}
use Rattle.reading.proofs.Next.{Next, Done, stands, new-sound}

-- an item that is not the end is not End
no-end : {a : Answer Item} {i : Item} → a ≡ gives i → is_end i ≡ false → a ≡ gives end → ⊥
no-end {a} {i} e n h =
    let q : i ≡ end = cc in
    let w : false ≡ true = sym n ∙ ap is_end q in
    let z : ◌≡◌ {A = ℕ} 0 1 = cc in absurd (omega arith)

module _ (o : Order) (s : List ℕ) where
  -- how many items are ahead: one more than after a step, or none
  next-length : {c : Cursor} → (n : Next o s c) → length (ahead o s c) ≡ suc (length (ahead o s (step_of o s c).cursor))
  next-length n = ap length n.rest

  done-length : {c : Cursor} → Done o s c → length (ahead o s c) ≡ 0
  done-length d = ap length d.rest

  -- step k gives item k of those ahead, whose bytes are those from the place before the step to the place after it
  pub each : (k : ℕ) (c : Cursor) → Sound s c → k < length (ahead o s c) →
      GivesItem (step_after k o s c) (given_at (ahead o s c) k) × Spans (given_at (ahead o s c) k).item (after k o s c).place (step_after k o s c).cursor.place
  unfolding after
  each zero c h l =
      ⊎_elim (λ (n : Next o s c). rw n.rest (n.gives, n.spans)) (λ (d : Done o s c). absurd (omega (arith, done-length d))) (stands o s c h)
  each (suc k) c h l =
      ⊎_elim
      (λ (n : Next o s c). rw n.rest (each k (step_of o s c).cursor n.sound (omega (arith, next-length n))))
      (λ (d : Done o s c). absurd (omega (arith, done-length d)))
      (stands o s c h)

  -- after the last of them, the cursor stands at the end and a step gives End
  pub ends : (k : ℕ) (c : Cursor) → Sound s c → length (ahead o s c) ≤ k → GivesEnd s (after k o s c) (step_after k o s c)
  unfolding after
  ends zero c h l =
      ⊎_elim (λ (n : Next o s c). absurd (omega (arith, next-length n))) (λ (d : Done o s c). record { place = d.place; step = d.step }) (stands o s c h)
  ends (suc k) c h l =
      ⊎_elim
      (λ (n : Next o s c). ends k (step_of o s c).cursor n.sound (omega (arith, next-length n)))
      (λ (d : Done o s c). rw d.step (ends k c h (omega (arith, done-length d))))
      (stands o s c h)

  -- From a cursor that no step refuses, the steps give the items that are ahead of it, one each and in order, and then End.
  pub gives-all : (c : Cursor) → Sound s c → GivesAll o s c (ahead o s c)
  gives-all c h = record { each = λ k l. (each k c h l).0; ends = λ k l. ends k c h l }

  -- From a new cursor, the steps give the items of the stream, one each and in order, and then End.
  pub reading-ends : GivesAll o s new_cursor (items o s)
  reading-ends = gives-all new_cursor (new-sound s)

  -- End is given after the last item, and not before.
  pub ends-exactly : (c : Cursor) (gs : List Given) → GivesAll o s c gs → (k : ℕ) → ((step_after k o s c).item ≡ gives end) ↔ (length gs ≤ k)
  ends-exactly c gs a k = (
    λ e. omega (arith, lt_of_not-le (λ l. no-end (a.each k l).item (a.each k l).some e)),
    λ l. ap (λ (t : Step). t.item) (a.ends k l).step,
  )
