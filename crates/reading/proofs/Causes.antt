-- Why bytes were skipped, of any call of a step and of each item of a stream; and that no skipped stretch follows another.
use Prim.Native.Nat.{ℕ, zero, suc, ◌+◌, ◌<◌}
use mathlib.Core.Path.{◌≡◌, refl, ap, sym, subst, ◌∙◌}
use mathlib.Core.Bool.{true, false}
use mathlib.Core.List.{List}
use mathlib.Core.Logic.{◌↔◌, ⊎_elim}
use native.Mathlib.Omega.{arith}
use lib.Dec.{ltb}
use lib.ListN.{length, drop, length-drop}
use borrow.Author.Tests.{lt-ltb}
use Rattle.num.specs.Answer.{gives}
use Rattle.num.specs.declared.Order.{Order}
use Rattle.frame.specs.Place.{stops, gap}
use Rattle.frame.specs.Ahead.{ahead_of}
use Rattle.frame.specs.declared.Ahead.{Ahead}
use Rattle.frame.specs.declared.Ahead.TheVariants.{End, Stretch, Cut, Chunk}
use Rattle.frame.proofs.Looks.{is-end}
use Rattle.reader.specs.Item.{skipped, item_said}
use Rattle.reader.specs.Items.{items}
use Rattle.reader.specs.Step.{new_cursor, step_by, step_of, after}
use Rattle.reader.specs.declared.Cause.{Cause}
use Rattle.reader.specs.declared.Cursor.{Cursor}
use Rattle.reader.specs.declared.Item.TheVariants.{Skipped}
use Rattle.reader.proofs.Laws.{step-ahead}
use Rattle.reader.proofs.Theorems.{after-suc}
use Rattle.ending.proofs.Calls.{StepCall, StepOn, step-met}
use Rattle.reading.specs.Due.{shows_at, CauseDue, SkippedDue}
use Rattle.reading.specs.Ends.{Sound, given_at}
use Rattle.reading.proofs.Next.{Next, Done, stands, new-sound}
use Rattle.reading.proofs.Ends.{reading-ends}
use Rattle.reading.proofs.Stretch.{reaches-within, stretch}
use Rattle.reading.proofs.Due.{due-exactly}
use Rattle.reading.proofs.Answers.{skipped-exactly}

-- ---- why

module _ (o : Order) (s : List ℕ) where
  -- where a step skips, the cause is that of how the cursor came and what the stream shows, and no other
  why-exactly : (c : Cursor) (p n : ℕ) (cause : Cause) → (step_of o s c).item ≡ gives (skipped p n cause) → (k : Cause) → (cause ≡ k) ↔ CauseDue c.in_step (shows_at o s p) k
  why-exactly c p n cause e k =
      let d = (due-exactly o s c (gives (skipped p n cause))).0 e in (
        λ q. subst (CauseDue c.in_step (shows_at o s p)) q d.why,
        λ w.
            let t = (due-exactly o s c (gives (skipped p n k))).1 (record { sound = d.sound; place = d.place; some = d.some; none = d.none; to = d.to; why = w }) in
            let i : gives (skipped p n cause) ≡ gives (skipped p n k) = sym e ∙ t in
            cc,
      )

  -- The cause that a call names for a stretch from p on, exactly when: the cursor came searching; or it came in step, and at
  -- p the stream shows no sync, a header whose size is too large, or one whose size is uneven.
  pub cause-exactly : (c : Cursor) (a : StepCall) → StepOn o s c a → (p n : ℕ) (cause : Cause) → a.result.item ≡ Skipped p n cause →
      (k : Cause) → (cause ≡ k) ↔ CauseDue c.in_step (shows_at o s p) k
  cause-exactly c a on p n cause e k = why-exactly c p n cause (sym (step-met o s c a on).item ∙ ap item_said e) k

  -- ---- two steps, one behind the other

  -- a stretch begins before the end of the stream
  begins-within : (c : Cursor) (p n : ℕ) (cause : Cause) → SkippedDue o s c p n cause → c.place < length s
  begins-within c p n cause d = omega (arith, d.place, d.some, reaches-within o s (p + n) d.to)

  came-by : (c : Cursor) → Sound s c → (a : Ahead) → ahead_of o (drop c.place s) ≡ a → (p n : ℕ) (cause : Cause) →
      let next = (step_by o (drop c.place s) c a).cursor in
      SkippedDue o s next p n cause → next.in_step ≡ true
  came-by c h (Chunk code size) e p n cause d = refl
  came-by c h End e p n cause d = absurd (omega (arith, begins-within c p n cause d, is-end o (drop c.place s) e, length-drop c.place s))
  came-by c h Cut e p n cause d = absurd (omega (arith, begins-within _ p n cause d, length-drop c.place s))
  came-by c h (Stretch stray) e p n cause d =
      let f : stops (shows_at o s (c.place + gap o (drop c.place s))) ≡ false = rw (← d.place) (d.none p (omega arith) (omega (arith, d.some))) in
      absurd (⊎_elim (λ z. omega (arith, begins-within _ p n cause d)) (λ z. let v : true ≡ false = sym z ∙ f in let u : ◌≡◌ {A = ℕ} 0 1 = cc in omega arith) (stretch o s c.place h.within).1)

  -- a reader that comes to a stretch by a step comes in step: that step gave a chunk
  came-in-step : (c : Cursor) → Sound s c → (p n : ℕ) (cause : Cause) → (step_of o s (step_of o s c).cursor).item ≡ gives (skipped p n cause) → (step_of o s c).cursor.in_step ≡ true
  came-in-step c h p n cause e =
      let l = step-ahead o s c h.within h.fit in
      let d = (due-exactly o s (step_of o s c).cursor (gives (skipped p n cause))).0 e in
      rw l (came-by c h (ahead_of o (drop c.place s)) refl p n cause (rw l at d))

  -- and one that skipped is searching
  left-by : (l : List ℕ) (c : Cursor) (p n : ℕ) (cause : Cause) (a : Ahead) → (step_by o l c a).item ≡ gives (skipped p n cause) → (step_by o l c a).cursor.in_step ≡ false
  left-by l c p n cause (Stretch stray) e = refl
  left-by l c p n cause End e = let z : ◌≡◌ {A = ℕ} 0 1 = cc in absurd (omega arith)
  left-by l c p n cause Cut e = let z : ◌≡◌ {A = ℕ} 0 1 = cc in absurd (omega arith)
  left-by l c p n cause (Chunk code size) e = let z : ◌≡◌ {A = ℕ} 0 1 = cc in absurd (omega arith)

  -- so a step behind one that skipped does not skip
  pub no-second-skip : (c : Cursor) → Sound s c → (p n : ℕ) (cause : Cause) → (step_of o s c).item ≡ gives (skipped p n cause) →
      (q m : ℕ) (k : Cause) → (step_of o s (step_of o s c).cursor).item ≡ gives (skipped q m k) → ⊥
  no-second-skip c h p n cause e q m k i =
      let l = step-ahead o s c h.within h.fit in
      let f : (step_of o s c).cursor.in_step ≡ false = rw l (left-by (drop c.place s) c p n cause (ahead_of o (drop c.place s)) (rw l at e)) in
      let v : true ≡ false = sym (came-in-step c h q m k i) ∙ f in
      let z : ◌≡◌ {A = ℕ} 0 1 = cc in omega arith

  -- Of two calls, one behind the other, not both skip.
  pub never-skips-twice : (c : Cursor) (a b : StepCall) → StepOn o s c a → StepOn o s a.result.cursor b →
      (p n : ℕ) (cause : Cause) → a.result.item ≡ Skipped p n cause → (q m : ℕ) (k : Cause) → b.result.item ≡ Skipped q m k → ⊥
  never-skips-twice c a b on next p n cause e q m k i =
      let t = step-met o s c a on in
      let d = (skipped-exactly o s c a on p n cause).0 e in
      no-second-skip c d.sound p n cause (sym t.item ∙ ap item_said e) q m k
      (rw t.cursor at (sym (step-met o s a.result.cursor b next).item ∙ ap item_said i))

  -- ---- in the list of a stream's items

  sound-after : (k : ℕ) (c : Cursor) → Sound s c → Sound s (after k o s c)
  unfolding after
  sound-after zero c h = h
  sound-after (suc k) c h = sound-after k (step_of o s c).cursor (⊎_elim (λ (n : Next o s c). n.sound) (λ (d : Done o s c). rw d.step h) (stands o s c h))

  -- the reader comes searching to the first item, and in step to any other that is skipped
  listed-step : (k p n : ℕ) (cause : Cause) → (step_of o s (after k o s new_cursor)).item ≡ gives (skipped p n cause) → (after k o s new_cursor).in_step ≡ ltb 0 k
  unfolding after
  listed-step zero p n cause e = refl
  listed-step (suc k) p n cause e =
      rw (after-suc k o s new_cursor, lt-ltb 0 (suc k) (omega arith))
      (came-in-step (after k o s new_cursor) (sound-after k new_cursor (new-sound s)) p n cause (rw (after-suc k o s new_cursor) at e))

  -- The cause of item k of a stream, where that item is skipped, exactly when: searching for the first item; for any other, by
  -- what the stream shows at its place: no sync, a header whose size is too large, or one whose size is uneven.
  pub listed-cause : (k p n : ℕ) (cause : Cause) → k < length (items o s) → (given_at (items o s) k).item ≡ skipped p n cause →
      (x : Cause) → (cause ≡ x) ↔ CauseDue (ltb 0 k) (shows_at o s p) x
  listed-cause k p n cause h e x =
      let t = ((reading-ends o s).each k h).item ∙ ap gives e in
      rw (← listed-step k p n cause t) (why-exactly (after k o s new_cursor) p n cause t x)

  -- The item behind a skipped one is not skipped.
  pub never-two-skips : (k p n : ℕ) (cause : Cause) → suc k < length (items o s) → (given_at (items o s) k).item ≡ skipped p n cause →
      (q m : ℕ) (x : Cause) → (given_at (items o s) (suc k)).item ≡ skipped q m x → ⊥
  never-two-skips k p n cause h e q m x i =
      let a = ((reading-ends o s).each k (omega arith)).item ∙ ap gives e in
      let b = ((reading-ends o s).each (suc k) h).item ∙ ap gives i in
      no-second-skip (after k o s new_cursor) (sound-after k new_cursor (new-sound s)) p n cause a q m x (rw (after-suc k o s new_cursor) at b)
