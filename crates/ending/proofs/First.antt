-- The search stops at a complete chunk where the first chunk among the items that the steps give stands there, and only then.
use Prim.Native.Nat.{ℕ, zero, suc, ◌+◌, ◌≤◌, ◌<◌}
use mathlib.Core.Path.{◌≡◌, refl, ap, ◌∙◌}
use mathlib.Core.Bool.{Bool, true, false}
use mathlib.Core.List.{List}
use native.Mathlib.Omega.{arith}
use lib.Dec.{ltb}
use lib.ListN.{length, drop, length-drop}
use borrow.Author.Tests.{lt-ltb, ltb-true, ltb-false}
use Rattle.num.specs.declared.Order.{Order}
use Rattle.frame.specs.Place.{shows, gap, stops, search_from}
use Rattle.frame.specs.Ahead.{ahead_of}
use Rattle.frame.specs.declared.Ahead.{Ahead}
use Rattle.frame.specs.declared.Ahead.TheVariants.{End, Stretch, Cut, Chunk}
use Rattle.frame.specs.declared.At.TheVariants.{Complete}
use Rattle.frame.proofs.Looks.{is-chunk, is-stretch, is-end}
use Rattle.std.specs.Prelude.{Some}
use Rattle.frame.proofs.Laws.{gap-stop, search-here, search-at}
use Rattle.frame.proofs.Frames.{gap-le}
use Rattle.frame.proofs.Theorems.{search-stopped}
use Rattle.reader.specs.Reading.{reading}
use Rattle.reader.specs.Step.{cursor_at, skips, step_of, unfit}
use Rattle.reader.specs.declared.Cursor.{Cursor}
use Rattle.reader.proofs.Laws.{step-end, step-ahead, step-skips}
use Rattle.ending.specs.Ending.{AcceptsFirstAt, from_chunk, BeginsAt}

-- a complete chunk at q, and no other place is asked for
record Here (o : Order) (s : List ℕ) (q p : ℕ) : Type 0 where
  code : ℕ
  size : ℕ
  complete : shows o (drop q s) ≡ Complete code size
  same : q ≡ p

module _ (o : Order) (s : List ℕ) (p : ℕ) where
  -- no chunk comes at the end
  end-none : (f : ℕ) (d : Cursor) → d.place ≡ length s → unfit d ≡ false → BeginsAt p (from_chunk (reading f o s d)) → ⊥
  unfolding reading from_chunk
  end-none zero d e k b = b
  end-none (suc f) d e k b = rw (step-end o s d e k) at b

  -- where a search stops, the first chunk stands, or none comes
  here-by : (f : ℕ) (d : Cursor) (a : Ahead) → ahead_of o (drop d.place s) ≡ a → stops (shows o (drop d.place s)) ≡ true → d.in_step ≡ false → d.place < length s →
      BeginsAt p (from_chunk (reading (suc f) o s d)) → Here o s d.place p
  unfolding reading from_chunk
  here-by f d (Chunk code size) e t k h b =
      let u : unfit d ≡ false = rw k in
      record { code = code; size = size; complete = is-chunk o (drop d.place s) code size e; same = rw (step-ahead o s d (omega arith) u, e) at b }
  here-by f d Cut e t k h b =
      let u : unfit d ≡ false = rw k in
      let n = length-drop d.place s in
      absurd (end-none f (cursor_at (d.place + length (drop d.place s)) d.in_step d.state) (omega arith) u (rw (step-ahead o s d (omega arith) u, e) at b))
  here-by f d (Stretch stray) e t k h b =
      let n = is-stretch o (drop d.place s) stray e in
      let z : ◌≡◌ {A = ℕ} 0 1 = cc in
      absurd (omega arith)
  here-by f d End e t k h b = absurd (omega (arith, is-end o (drop d.place s) e, length-drop d.place s))

  here : (f : ℕ) (d : Cursor) → stops (shows o (drop d.place s)) ≡ true → d.in_step ≡ false → d.place < length s →
      BeginsAt p (from_chunk (reading f o s d)) → Here o s d.place p
  unfolding reading from_chunk
  here zero d t k h b = absurd b
  here (suc f) d t k h b = here-by f d (ahead_of o (drop d.place s)) refl t k h b

module _ (o : Order) (s : List ℕ) (c : Cursor) (k : c.in_step ≡ false) where
  found : (q : ℕ) → c.place + gap o (drop c.place s) ≡ q → q < length s → search_from o s c.place ≡ Some q
  found q e h = rw (e, lt-ltb q (length s) h)

  accepts-at : (q p : ℕ) → c.place + gap o (drop c.place s) ≡ q → q < length s → Here o s q p → AcceptsFirstAt o s c p
  accepts-at q p e h r =
      let i = r.same in
      record { searching = k; stopped = found q e h ∙ ap Some i; code = r.code; size = r.size; complete = rw (← i) r.complete }

  -- after a skipped stretch
  skipped-by : (p : ℕ) (b : Bool) →
      let to : ℕ = c.place + gap o (drop c.place s) in
      ltb to (length s) ≡ b → c.place ≤ length s → BeginsAt p (from_chunk (reading (length s) o s (cursor_at to false c.state))) → AcceptsFirstAt o s c p
  skipped-by p true t h b =
      let to = c.place + gap o (drop c.place s) in
      let u = ltb-true to (length s) t in
      accepts-at to p refl u (here o s p (length s) (cursor_at to false c.state) (search-stopped o s c.place to (found to refl u)).here refl u b)
  skipped-by p false t h b =
      let to = c.place + gap o (drop c.place s) in
      let e : to ≡ length s = omega (arith, ltb-false to (length s) t, gap-le o (drop c.place s), length-drop c.place s) in
      absurd (end-none o s p (length s) (cursor_at to false c.state) e refl b)

  first-by : (p : ℕ) (b : Bool) → stops (shows o (drop c.place s)) ≡ b → c.place < length s → BeginsAt p (from_chunk (reading (suc (length s)) o s c)) → AcceptsFirstAt o s c p
  unfolding reading from_chunk
  first-by p true t h b = accepts-at c.place p (omega (arith, gap-stop o (drop c.place s) t)) h (here o s p (suc (length s)) c t k h b)
  first-by p false t h b =
      let u : unfit c ≡ false = rw k in
      let g = gap o (drop c.place s) in
      let w = step-skips o (drop c.place s) c (simp length-drop (omega arith)) t in
      let e : step_of o s c ≡ skips c w.0 g = step-ahead o s c (omega arith) u ∙ w.1 in
      skipped-by p (ltb (c.place + g) (length s)) refl (omega arith) (rw e at b)

  in-by : (p : ℕ) (b : Bool) → ltb c.place (length s) ≡ b → c.place ≤ length s → BeginsAt p (from_chunk (reading (suc (length s)) o s c)) → AcceptsFirstAt o s c p
  in-by p true t h b = first-by p (stops (shows o (drop c.place s))) refl (ltb-true c.place (length s) t) b
  in-by p false t h b =
      let u : unfit c ≡ false = rw k in
      absurd (end-none o s p (suc (length s)) c (omega (arith, ltb-false c.place (length s) t)) u b)

  -- a searching reader accepts first the chunk that is first among its items
  pub first-found : (p : ℕ) → c.place ≤ length s → BeginsAt p (from_chunk (reading (suc (length s)) o s c)) → AcceptsFirstAt o s c p
  first-found p h b = in-by p (ltb c.place (length s)) refl h b

-- A reader in step that comes to no sync or a bad header begins to search there, and accepts first what the search stops at.
pub lost-first : (o : Order) (s : List ℕ) (c : Cursor) (p code size : ℕ) → unfit c ≡ false → c.place < length s → stops (shows o (drop c.place s)) ≡ false →
    search_from o s c.place ≡ Some p → shows o (drop p s) ≡ Complete code size → AcceptsFirstAt o s (step_of o s c).cursor p
lost-first o s c p code size u h n w e =
    let a = search-at o s c.place p w in
    let t : stops (shows o (drop p s)) ≡ true = rw e in
    let k = step-skips o (drop c.place s) c (simp length-drop (omega arith)) n in
    let i : step_of o s c ≡ skips c k.0 (gap o (drop c.place s)) = step-ahead o s c (omega arith) u ∙ k.1 in
    rw (i, a.0) (record { searching = refl; stopped = search-here o s p p a.1 t refl; code = code; size = size; complete = e })
