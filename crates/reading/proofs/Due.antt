-- Every answer of a step is given exactly when it is due.
use Prim.Native.Nat.{ℕ, ◌+◌, ◌<◌}
use mathlib.Core.Path.{◌≡◌, refl, ap, subst, sym, ◌∙◌}
use mathlib.Core.Bool.{Bool, true, false}
use mathlib.Core.List.{List}
use mathlib.Core.Logic.{◌↔◌}
use native.Mathlib.Omega.{arith}
use native.Mathlib.Nat.{lt_of_not-le}
use lib.Dec.{ltb, eqb}
use lib.ListN.{length, drop, length-drop}
use lib.Seq.{drop-drop}
use borrow.Author.Tests.{ltb-true, ltb-false, eqb-true, not-true}
use Rattle.num.specs.Answer.{Answer, gives, refuses}
use Rattle.num.specs.Choice.{pick}
use Rattle.num.specs.declared.Order.{Order}
use Rattle.num.proofs.Tests.{both-true}
use Rattle.frame.specs.Place.{stops, gap}
use Rattle.frame.specs.Ahead.{ahead_by, ahead_of}
use Rattle.frame.specs.declared.At.{At}
use Rattle.frame.specs.declared.At.TheVariants.{NoSync, Bad, Unfinished, Complete}
use Rattle.frame.specs.declared.BadSize.TheVariants.{Large, Uneven}
use Rattle.frame.specs.declared.Stray.{Stray}
use Rattle.frame.specs.declared.Ahead.{Ahead}
use Rattle.frame.specs.declared.Ahead.TheVariants.{End, Stretch, Cut, Chunk}
use Rattle.frame.proofs.Looks.{is-chunk, is-cut, is-stretch, is-end, ahead-at, ahead-none, stretch-ahead}
use Rattle.frame.proofs.Laws.{gap-step}
use Rattle.effect.specs.Says.{Says}
use Rattle.reader.specs.Cause.{cause_of}
use Rattle.reader.specs.Item.{Item, end, skipped, unfinished, chunk}
use Rattle.reader.specs.Step.{Step, step_by, step_of, unfit}
use Rattle.reader.specs.declared.Cause.{Cause}
use Rattle.reader.specs.declared.Cursor.{Cursor}
use Rattle.reader.proofs.Laws.{step-past, step-unfit, step-ahead, step-end, step-accepts}
use Rattle.reading.specs.Due.{shows_at, PastEndDue, BadStateDue, CauseDue, SkippedDue, UnfinishedDue, ChunkDue, Due}
use Rattle.reading.specs.Ends.{Sound}
use Rattle.reading.proofs.Stretch.{stop-within, reaches-within, stretch, stretch-only}

-- the cause of a stretch is due, and no other is
cause-due : (a : At) (stray : Stray) (step : Bool) → ahead_by a ≡ Stretch stray → CauseDue step a (cause_of step stray)
cause-due a stray false e = refl
cause-due NoSync stray true e = let q : stray ≡ Stray.NoSync = cc in rw q (refl, refl)
cause-due (Bad Large) stray true e = let q : stray ≡ Stray.Bad Large = cc in rw q (refl, refl)
cause-due (Bad Uneven) stray true e = let q : stray ≡ Stray.Bad Uneven = cc in rw q (refl, refl)
cause-due Unfinished stray true e = let z : ◌≡◌ {A = ℕ} 0 1 = cc in absurd (omega arith)
cause-due (Complete code size) stray true e = let z : ◌≡◌ {A = ℕ} 0 1 = cc in absurd (omega arith)

told-stray : (a b : At) (stray other : Stray) → ahead_by a ≡ Stretch stray → a ≡ b → ahead_by b ≡ Stretch other → stray ≡ other
told-stray a b stray other e q k = let w : Stretch stray ≡ Stretch other = sym e ∙ ap ahead_by q ∙ k in cc

cause-only : (a : At) (stray : Stray) (step : Bool) (cause : Cause) → ahead_by a ≡ Stretch stray → CauseDue step a cause → cause_of step stray ≡ cause
cause-only a stray step Cause.Searching e d = rw d
cause-only a stray step Cause.NoSync e d = rw (d.0, told-stray a NoSync stray Stray.NoSync e d.1 refl)
cause-only a stray step Cause.Large e d = rw (d.0, told-stray a (Bad Large) stray (Stray.Bad Large) e d.1 refl)
cause-only a stray step Cause.Uneven e d = rw (d.0, told-stray a (Bad Uneven) stray (Stray.Bad Uneven) e d.1 refl)

module _ (o : Order) (s : List ℕ) (c : Cursor) where
  -- ---- what a step gives is due

  module _ (h : Sound s c) where
    -- a byte is left where a stretch is ahead
    stretch-inside : (stray : Stray) → ahead_of o (drop c.place s) ≡ Stretch stray → c.place < length s
    stretch-inside stray e =
        lt_of_not-le
        (λ l.
        let w : End ≡ Stretch stray = sym (ahead-none o (drop c.place s) (omega (arith, length-drop c.place s))) ∙ e in
        let z : ◌≡◌ {A = ℕ} 0 1 = cc in absurd (omega arith))

    skipped-due : (stray : Stray) → ahead_of o (drop c.place s) ≡ Stretch stray → SkippedDue o s c c.place (gap o (drop c.place s)) (cause_of c.in_step stray)
    skipped-due stray e =
        let w = stretch o s c.place h.within in
        let k = is-stretch o (drop c.place s) stray e in
        let i = stretch-inside stray e in
        let a : ahead_by (shows_at o s c.place) ≡ Stretch stray = sym (ahead-at o (drop c.place s) (omega (arith, length-drop c.place s))) ∙ e in
        record {
          sound = h;
          place = refl;
          some = omega (arith, gap-step o s c.place i k);
          none = w.0;
          to = w.1;
          why = cause-due (shows_at o s c.place) stray c.in_step a;
        }

    due-by : (a : Ahead) → ahead_of o (drop c.place s) ≡ a → Due o s c (step_by o (drop c.place s) c a).item
    due-by End e = record { sound = h; place = omega (arith, h.within, is-end o (drop c.place s) e, length-drop c.place s) }
    due-by (Stretch stray) e = skipped-due stray e
    due-by Cut e = record { sound = h; place = refl; here = is-cut o (drop c.place s) e; to = omega (arith, h.within, length-drop c.place s) }
    due-by (Chunk code size) e = record { sound = h; place = refl; here = is-chunk o (drop c.place s) code size e; said = rw (drop-drop 12 c.place s) }

  sorted : (past bad : Bool) → ltb (length s) c.place ≡ past → unfit c ≡ bad → Due o s c (step_of o s c).item
  sorted true bad e k = let l = ltb-true (length s) c.place e in rw (step-past o s c l) l
  sorted false true e k =
      let l = ltb-false (length s) c.place e in
      let w = both-true c.in_step _ k in
      rw (step-unfit o s c l k) (record { within = l; step = w.0; state = not-true _ w.1 })
  sorted false false e k =
      let l = ltb-false (length s) c.place e in
      rw (step-ahead o s c l k) (due-by (record { within = l; fit = k }) (ahead_of o (drop c.place s)) refl)

  -- ---- what is due, a step gives

  refused-only : (n : ℕ) (two three : Bool) → eqb n 2 ≡ two → eqb n 3 ≡ three → pick two (PastEndDue s c) (pick three (BadStateDue s c) ⊥) → (step_of o s c).item ≡ refuses n
  refused-only n true three e k d = ap (λ (t : Step). t.item) (step-past o s c d) ∙ ap refuses (sym (eqb-true n 2 e))
  refused-only n false true e k d =
      let u : unfit c ≡ true = rw (d.step, d.state) in
      ap (λ (t : Step). t.item) (step-unfit o s c d.within u) ∙ ap refuses (sym (eqb-true n 3 k))
  refused-only n false false e k d = absurd d

  cause-there : (stray : Stray) (cause : Cause) → ahead_of o (drop c.place s) ≡ Stretch stray → 0 < length (drop c.place s) → CauseDue c.in_step (shows_at o s c.place) cause →
      (step_by o (drop c.place s) c (ahead_of o (drop c.place s))).item ≡ gives (skipped c.place (gap o (drop c.place s)) cause)
  cause-there stray cause e l d =
      rw (e, cause-only (shows_at o s c.place) stray c.in_step cause (sym (ahead-at o (drop c.place s) l) ∙ e) d)

  skipped-only : (p n : ℕ) (cause : Cause) → SkippedDue o s c p n cause → (step_of o s c).item ≡ gives (skipped p n cause)
  skipped-only p n cause d =
      let e : stops (shows_at o s c.place) ≡ false = rw (← d.place) (d.none p (omega arith) (omega (arith, d.some))) in
      let g : gap o (drop c.place s) ≡ n = rw (← d.place) (stretch-only o s p n d.none d.to) in
      let l : 0 < length (drop c.place s) = omega (arith, length-drop c.place s, d.place, d.some, reaches-within o s (p + n) d.to) in
      let w = stretch-ahead o (drop c.place s) l e in
      ap (λ (t : Step). t.item) (step-ahead o s c d.sound.within d.sound.fit)
      ∙ cause-there w.0 cause w.1 l (rw (← d.place) d.why)
      ∙ rw (g, d.place)

  unfinished-only : (p n : ℕ) → UnfinishedDue o s c p n → (step_of o s c).item ≡ gives (unfinished p n)
  unfinished-only p n d =
      let e : shows_at o s c.place ≡ Unfinished = rw (← d.place) d.here in
      let l : c.place < length s = stop-within o s c.place (rw e) in
      let m : length (drop c.place s) ≡ n = omega (arith, length-drop c.place s, d.place, d.to) in
      ap (λ (t : Step). t.item) (step-ahead o s c d.sound.within d.sound.fit) ∙ rw (ahead-at o (drop c.place s) (omega (arith, length-drop c.place s)), e, m, d.place)

  chunk-only : (p code size : ℕ) (says : Says) → ChunkDue o s c p code size says → (step_of o s c).item ≡ gives (chunk p code size says)
  chunk-only p code size says d =
      let e : shows_at o s c.place ≡ Complete code size = rw (← d.place) d.here in
      let l : c.place < length s = stop-within o s c.place (rw e) in
      ap (λ (t : Step). t.item) (step-accepts o s c code size l d.sound.fit e) ∙ rw (drop-drop 12 c.place s, d.said, d.place)

  only : (a : Answer Item) → Due o s c a → (step_of o s c).item ≡ a
  only (refuses n) d = refused-only n (eqb n 2) (eqb n 3) refl refl d
  only (gives end) d = ap (λ (t : Step). t.item) (step-end o s c d.place d.sound.fit)
  only (gives (skipped p n cause)) d = skipped-only p n cause d
  only (gives (unfinished p n)) d = unfinished-only p n d
  only (gives (chunk p code size says)) d = chunk-only p code size says d

  -- A step gives an answer exactly when that answer is due: for every stream, cursor and order.
  pub due-exactly : (a : Answer Item) → ((step_of o s c).item ≡ a) ↔ Due o s c a
  due-exactly a = (λ e. subst (Due o s c) e (sorted (ltb (length s) c.place) (unfit c) refl refl), only a)
