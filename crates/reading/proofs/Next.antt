-- One step from a cursor that no step refuses: the next of the items that are ahead of it, or End.
use Prim.Native.Nat.{ℕ, ◌+◌, ◌<◌}
use mathlib.Core.Path.{◌≡◌, refl, ◌∙◌}
use mathlib.Core.Bool.{Bool, true, false}
use mathlib.Core.List.{List, [], ◌∷◌}
use mathlib.Core.Logic.{◌⊎◌, inl, inr}
use native.Mathlib.Omega.{arith}
use lib.Dec.{ltb}
use lib.ListN.{length, drop, length-drop, drop_of_length-le}
use borrow.Author.Tests.{ltb-true, ltb-false}
use Rattle.num.specs.declared.Order.{Order}
use Rattle.frame.specs.Ahead.{ahead_of}
use Rattle.frame.specs.declared.Ahead.{Ahead}
use Rattle.frame.specs.declared.Ahead.TheVariants.{End, Stretch, Cut, Chunk}
use Rattle.frame.proofs.Looks.{is-end}
use Rattle.frame.proofs.Frames.{frames-nil}
use Rattle.reader.specs.Items.{Given, items_from}
use Rattle.reader.specs.Reading.{ahead}
use Rattle.reader.specs.Step.{Step, new_cursor, step_by, step_of, Fit}
use Rattle.reader.specs.declared.Cursor.{Cursor}
use Rattle.reader.proofs.Laws.{step-ahead, step-end}
use Rattle.reader.proofs.Theorems.{new-fit, step-keeps-fit, one, goes}
use Rattle.reading.specs.Bytes.{begins, extent, Spans}
use Rattle.reading.specs.Ends.{Sound, GivesItem, end_step}

pub new-sound : (s : List ℕ) → Sound s new_cursor
new-sound s = record { within = omega arith; fit = new-fit }

-- a step from c gives g, and its bytes are those from the place of c to the next
record Takes (c : Cursor) (t : Step) (g : Given) : Type 0 where
  pub gives : GivesItem t g
  pub from : begins g.item ≡ c.place
  pub to : begins g.item + extent g.item ≡ t.cursor.place

-- where something is ahead, a step gives an item
takes-by : (o : Order) (l : List ℕ) (c : Cursor) (a : Ahead) → (a ≡ End → ⊥) → (g : Given) × Takes c (step_by o l c a) g
takes-by o l c End h = absurd (h refl)
takes-by o l c (Stretch stray) h = (_, record { gives = record { item = refl; shown = refl; some = refl }; from = refl; to = refl })
takes-by o l c Cut h = (_, record { gives = record { item = refl; shown = refl; some = refl }; from = refl; to = refl })
takes-by o l c (Chunk code size) h = (_, record { gives = record { item = refl; shown = refl; some = refl }; from = refl; to = omega arith })

-- a byte is left: a step gives the first of the items ahead, and the others are ahead of the cursor that it leaves
pub record Next (o : Order) (s : List ℕ) (c : Cursor) : Type 0 where
  pub given : Given
  pub gives : GivesItem (step_of o s c) given
  pub spans : Spans given.item c.place (step_of o s c).cursor.place
  pub sound : Sound s (step_of o s c).cursor
  pub rest : ahead o s c ≡ given ∷ ahead o s (step_of o s c).cursor

-- no byte is left: a step gives End, and no item is ahead
pub record Done (o : Order) (s : List ℕ) (c : Cursor) : Type 0 where
  pub place : c.place ≡ length s
  pub step : step_of o s c ≡ end_step c
  pub rest : ahead o s c ≡ []

module _ (o : Order) (s : List ℕ) (c : Cursor) (f : Fit c) where
  next-by : c.place < length s → (g : Given) → Takes c (step_of o s c) g → Next o s c
  next-by h g w =
      let t = goes o s c f h in
      record {
        given = g;
        gives = w.gives;
        spans = record { from = w.from; to = w.to; some = omega (arith, w.from, w.to, t.on) };
        sound = record { within = t.within; fit = step-keeps-fit o s c f };
        rest = one o s c h f ∙ rw (w.gives.item, w.gives.shown, w.gives.some);
      }

  next : c.place < length s → Next o s c
  next h =
      let n : ahead_of o (drop c.place s) ≡ End → ⊥ = λ e. absurd (omega (arith, is-end o (drop c.place s) e, length-drop c.place s)) in
      let w = takes-by o (drop c.place s) c (ahead_of o (drop c.place s)) n in
      next-by h w.0 (rw (step-ahead o s c (omega arith) f) w.1)

  done : c.place ≡ length s → Done o s c
  unfolding items_from
  done e =
      let d : drop c.place s ≡ [] = drop_of_length-le s {i = c.place} (omega arith) in
      record { place = e; step = step-end o s c e f; rest = rw (d, frames-nil o) }

stands-by : (o : Order) (s : List ℕ) (c : Cursor) (b : Bool) → ltb c.place (length s) ≡ b → Sound s c → Next o s c ⊎ Done o s c
stands-by o s c true e h = inl (next o s c h.fit (ltb-true c.place (length s) e))
stands-by o s c false e h = inr (done o s c h.fit (omega (arith, ltb-false c.place (length s) e, h.within)))

-- a byte is left, or none
pub stands : (o : Order) (s : List ℕ) (c : Cursor) → Sound s c → Next o s c ⊎ Done o s c
stands o s c h = stands-by o s c (ltb c.place (length s)) refl h
