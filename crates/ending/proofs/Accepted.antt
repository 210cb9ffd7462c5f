-- From the first chunk that a searching reader accepts, it is as if the stream began there: the state that it came with is gone.
use Prim.Native.Nat.{ℕ, zero, suc, ◌+◌, ◌-◌, ◌≤◌, ◌<◌}
use mathlib.Core.Path.{◌≡◌, refl, ap, subst, sym, ◌∙◌}
use mathlib.Core.Bool.{Bool, true, false}
use mathlib.Core.List.{List, map}
use native.Mathlib.Omega.{arith}
use native.Mathlib.Nat.{add-zero, zero-add}
use lib.Dec.{eqb}
use lib.ListN.{length, drop, length-drop}
use lib.Seq.{drop-drop}
use borrow.Author.Tests.{eqb-true, eqb-false}
use Rattle.num.specs.declared.Order.{Order}
use Rattle.frame.specs.Place.{shows, gap}
use Rattle.frame.specs.declared.Stray.{Stray}
use Rattle.frame.specs.declared.At.TheVariants.{Complete}
use Rattle.frame.proofs.Laws.{search-at}
use Rattle.frame.proofs.Theorems.{search-stopped}
use Rattle.state.specs.declared.State.{State}
use Rattle.effect.specs.Ready.{no_state}
use Rattle.reader.specs.Items.{items}
use Rattle.reader.specs.Reading.{reading}
use Rattle.reader.specs.Step.{Step, cursor_at, new_cursor, skips, accepts, step_of, after, unfit}
use Rattle.reader.specs.declared.Cursor.{Cursor}
use Rattle.reader.proofs.Laws.{step-ahead, step-accepts, step-skips}
use Rattle.reader.proofs.Theorems.{reads, new-fit}
use Rattle.samples.proofs.AtCursor.{effect_of}
use Rattle.ending.specs.Ending.{onto, given_by, cursor_by, step_counted, AcceptsFirstAt, lead, from_chunk, BeginsAt}
use Rattle.ending.proofs.Moved.{step-moved, told-moved, reading-moved, after-moved}

-- a cursor c of s gives what e gives in l, each place p further on
pub record AsIn (o : Order) (p : ℕ) (s : List ℕ) (c : Cursor) (l : List ℕ) (e : Cursor) : Type 0 where
  pub step : step_of o s c ≡ step_counted (onto p) (step_of o l e)
  pub bytes : drop c.place s ≡ drop e.place l

-- the cursor where the search stopped, with the state that it came with
abbrev pub reached : ℕ → Cursor → Cursor
reached p c = cursor_at p false c.state

module _ (o : Order) (s : List ℕ) (p : ℕ) (h : p < length s) where
  -- a searching reader that accepts a chunk forgets its state
  pub forgets : (code size : ℕ) → shows o (drop p s) ≡ Complete code size → (a b : State) → step_of o s (cursor_at p false a) ≡ step_of o s (cursor_at p false b)
  forgets code size e a b = step-accepts o s (cursor_at p false a) code size h refl e ∙ sym (step-accepts o s (cursor_at p false b) code size h refl e)

  pub moved-as-in : (k : ℕ) (e : Cursor) → AsIn o p s (after k o s (cursor_by (onto p) e)) (drop p s) (after k o (drop p s) e)
  moved-as-in k e =
      let n = after k o (drop p s) e in
      rw (after-moved o p s (omega arith) k e)
      (record { step = step-moved o p n s (omega arith); bytes = sym (drop-drop n.place p s) })

after-add : (j k : ℕ) (o : Order) (s : List ℕ) (c : Cursor) → after (j + k) o s c ≡ after k o s (after j o s c)
unfolding after
after-add zero k o s c = rw (zero-add k)
after-add (suc j) k o s c = let q : suc j + k ≡ suc (j + k) = omega arith in rw q (after-add j k o s (step_of o s c).cursor)

module _ (o : Order) (s : List ℕ) (c : Cursor) (p : ℕ) (f : AcceptsFirstAt o s c p) where
  pub inside : p < length s
  inside = (search-at o s c.place p f.stopped).1

  -- a searching reader is not refused, whatever its state
  pub searching-fit : unfit c ≡ false
  searching-fit = rw f.searching

  -- at the first chunk, whatever the state
  pub first-step : step_of o s (reached p c) ≡ step_counted (onto p) (step_of o (drop p s) new_cursor)
  first-step =
      let m : step_of o s (cursor_by (onto p) new_cursor) ≡ step_counted (onto p) (step_of o (drop p s) new_cursor) = step-moved o p new_cursor s (omega (arith, inside)) in
      forgets o s p inside f.code f.size f.complete c.state no_state ∙ rw (add-zero p) at m

  pub reached-as-in : (k : ℕ) → AsIn o p s (after k o s (reached p c)) (drop p s) (after k o (drop p s) new_cursor)
  unfolding after
  reached-as-in zero = record { step = first-step; bytes = refl }
  reached-as-in (suc k) = rw first-step (moved-as-in o s p inside k (step_of o (drop p s) new_cursor).cursor)

  -- the first chunk is accepted there
  pub chunk-there : step_of o s (reached p c) ≡ accepts (reached p c) f.code f.size (effect_of o (drop p s) (reached p c) f.code f.size)
  chunk-there = step-accepts o s (reached p c) f.code f.size inside refl f.complete

  -- a cursor that stands there is that cursor, and any other skips the stretch up to it
  stands-there : eqb c.place p ≡ true → c ≡ reached p c
  stands-there h =
      let e : cursor_at c.place c.in_step c.state ≡ reached p c = rw (eqb-true c.place p h, f.searching) in
      e

  skips-there : eqb c.place p ≡ false → (stray : Stray) × (step_of o s c ≡ skips c stray (p - c.place))
  skips-there n =
      let h = search-stopped o s c.place p f.stopped in
      let u : c.place < p = omega (arith, h.low, eqb-false c.place p n) in
      let g : gap o (drop c.place s) ≡ p - c.place = omega (arith, (search-at o s c.place p f.stopped).0) in
      let w = step-skips o (drop c.place s) c (omega (arith, length-drop c.place s, inside)) (h.before c.place (omega arith) u) in
      (w.0, step-ahead o s c (omega (arith, inside)) searching-fit ∙ w.1 ∙ rw g)

  skipped-to : eqb c.place p ≡ false → c.place + (p - c.place) ≡ p
  skipped-to n = omega (arith, (search-stopped o s c.place p f.stopped).low)

  lead-by : (b : Bool) → eqb c.place p ≡ b → after (lead p c) o s c ≡ reached p c
  unfolding after
  lead-by true h = rw h (stands-there h)
  lead-by false h = rw h (ap (λ (t : Step). t.cursor) (skips-there h).1 ∙ rw (skipped-to h))

  -- so many steps lead there
  pub leads : after (lead p c) o s c ≡ reached p c
  leads = lead-by (eqb c.place p) refl

  pub as-in : (k : ℕ) → AsIn o p s (after (lead p c + k) o s c) (drop p s) (after k o (drop p s) new_cursor)
  as-in k = rw (after-add (lead p c) k o s c, leads) (reached-as-in k)

  -- ---- the items

  -- enough steps from there give the items of what is ahead, and the first of them is a chunk
  reached-items : (g : ℕ) → length s < p + g → from_chunk (reading g o s (reached p c)) ≡ map (given_by (onto p)) (items o (drop p s))
  unfolding reading from_chunk
  reached-items zero h = absurd (omega (arith, inside))
  reached-items (suc g) h =
      let t : Step = step_of o (drop p s) new_cursor in
      let n = length-drop p s in
      let m : reading (suc g) o s (reached p c) ≡ map (given_by (onto p)) (reading (suc g) o (drop p s) new_cursor) =
      rw (first-step, reading-moved o p s (omega (arith, inside)) g t.cursor)
      (told-moved (onto p) t.item t.shown (reading g o (drop p s) t.cursor)) in
      let k : from_chunk (reading (suc g) o s (reached p c)) ≡ reading (suc g) o s (reached p c) = rw chunk-there in
      k ∙ m ∙ ap (map (given_by (onto p))) (reads (suc g) o (drop p s) new_cursor new-fit (omega arith) (omega arith))

  items-by : (b : Bool) → eqb c.place p ≡ b → from_chunk (reading (suc (length s)) o s c) ≡ map (given_by (onto p)) (items o (drop p s))
  unfolding reading from_chunk
  items-by true h = ap (λ (d : Cursor). from_chunk (reading (suc (length s)) o s d)) (stands-there h) ∙ reached-items (suc (length s)) (omega arith)
  items-by false h =
      rw ((skips-there h).1, skipped-to h)
      (reached-items (length s) (omega (arith, (search-stopped o s c.place p f.stopped).low, eqb-false c.place p h)))

  -- the items from the first chunk on are those of the bytes from there on, each place that much further on
  pub first-items : from_chunk (reading (suc (length s)) o s c) ≡ map (given_by (onto p)) (items o (drop p s))
  first-items = items-by (eqb c.place p) refl

  -- ---- the first chunk among the items

  begins-there : (g : ℕ) → 1 ≤ g → BeginsAt p (from_chunk (reading g o s (reached p c)))
  unfolding reading from_chunk
  begins-there zero h = absurd (omega arith)
  begins-there (suc g) h = rw chunk-there refl

  begins-by : (b : Bool) → eqb c.place p ≡ b → BeginsAt p (from_chunk (reading (suc (length s)) o s c))
  unfolding reading from_chunk
  begins-by true h = subst (λ (d : Cursor). BeginsAt p (from_chunk (reading (suc (length s)) o s d))) (sym (stands-there h)) (begins-there (suc (length s)) (omega arith))
  begins-by false h = rw ((skips-there h).1, skipped-to h) (begins-there (length s) (omega (arith, inside)))

  -- stands at that place
  pub first-begins : BeginsAt p (from_chunk (reading (suc (length s)) o s c))
  first-begins = begins-by (eqb c.place p) refl
