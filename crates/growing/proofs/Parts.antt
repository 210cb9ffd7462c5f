-- Reading part by part, each time from the cursor before an unfinished end, gives the chunks of the whole.
use Prim.Native.Nat.{ℕ, zero, suc, ◌+◌, ◌-◌, ◌≤◌}
use mathlib.Core.Path.{◌≡◌, refl, ap, sym, ◌∙◌}
use mathlib.Core.Bool.{Bool, true, false}
use mathlib.Core.List.{List, [], ◌∷◌, ◌++◌, flatten, append_assoc, append-nil}
use mathlib.Core.Logic.{⊎_elim}
use native.Mathlib.Omega.{arith}
use lib.Dec.{ltb}
use lib.ListN.{length, length-drop}
use borrow.Author.Tests.{ltb-true, ltb-false}
use Rattle.num.specs.declared.Order.{Order}
use Rattle.frame.specs.Place.{gap}
use Rattle.frame.specs.declared.Stray.{Stray}
use Rattle.frame.specs.declared.Ahead.{Ahead}
use Rattle.frame.specs.declared.Ahead.TheVariants.{End, Stretch, Cut, Chunk}
use Rattle.frame.proofs.Looks.{ahead-none, stretch-ahead}
use Rattle.frame.proofs.Frames.{gap-le}
use Rattle.frame.proofs.More.{stretch-more, gap-more}
use Rattle.reader.specs.Items.{Given, items}
use Rattle.reader.specs.Reading.{ahead}
use Rattle.reader.specs.Step.{new_cursor, cursor_at, step_of}
use Rattle.reader.specs.declared.Cursor.{Cursor}
use Rattle.reader.proofs.Laws.{step-ahead}
use Rattle.reading.specs.Ends.{Sound}
use Rattle.reading.proofs.Next.{Next, Done, stands, new-sound}
use Rattle.reading.proofs.Stretch.{stretch, stretch-only}
use Rattle.growing.specs.Settled.{chunks_of}
use Rattle.growing.specs.Held.{waits, held_by, held, by_parts}
use Rattle.growing.proofs.Steps.{bytes_ahead, ahead_at, some-chunk, some-stretch, bytes-more, sound-more, chunk-same, skip-more}
use Rattle.growing.proofs.Appended.{ahead-end, ahead-cut, next-item, next-more, next-chunk, next-skip}

-- ---- a skipped stretch in pieces

-- the cursor k bytes into a stretch that is skipped
abbrev inside : Cursor → ℕ → Cursor
inside c k = cursor_at (c.place + k) false c.state

module _ (o : Order) (s : List ℕ) where
  -- the chunks behind a stretch are those that come from its end
  skip-chunks : (c : Cursor) → Sound s c → (stray : Stray) → ahead_at o s c ≡ Stretch stray → chunks_of (ahead o s c) ≡ chunks_of (ahead o s (inside c (gap o (bytes_ahead s c))))
  unfolding chunks_of
  skip-chunks c h stray e =
      let n = next-item o s c h (some-stretch o (bytes_ahead s c) stray e) in
      let d : (step_of o s c).cursor ≡ inside c (gap o (bytes_ahead s c)) = rw (step-ahead o s c h.within h.fit, e) in
      rw (n.rest, next-skip o s c h n stray e, d)

  pieces-by : (c : Cursor) → Sound s c → (k : ℕ) (b : Bool) → ltb k (gap o (bytes_ahead s c)) ≡ b → k ≤ gap o (bytes_ahead s c) →
      chunks_of (ahead o s (inside c k)) ≡ chunks_of (ahead o s (inside c (gap o (bytes_ahead s c))))
  pieces-by c h k false e l =
      let q : k ≡ gap o (bytes_ahead s c) = omega (arith, ltb-false k (gap o (bytes_ahead s c)) e) in
      rw q
  pieces-by c h k true e l =
      let g = gap o (bytes_ahead s c) in
      let i = ltb-true k g e in
      let w = stretch o s c.place h.within in
      let d = inside c k in
      let m : length (bytes_ahead s c) ≡ length s - c.place = length-drop c.place s in
      let n : length (bytes_ahead s d) ≡ length s - d.place = length-drop d.place s in
      let z = gap-le o (bytes_ahead s c) in
      let q : c.place + k + (g - k) ≡ c.place + g = omega arith in
      let r : gap o (bytes_ahead s d) ≡ g - k = stretch-only o s d.place (g - k) (λ j a b. w.0 j (omega arith) (omega arith)) (rw q w.1) in
      let a = stretch-ahead o (bytes_ahead s d) (omega arith) (w.0 d.place (omega arith) (omega arith)) in
      skip-chunks d (record { within = omega arith; fit = refl }) a.0 a.1 ∙ rw (r, q)

  -- and also from any place within it
  pieces : (c : Cursor) → Sound s c → (stray : Stray) → ahead_at o s c ≡ Stretch stray → (k : ℕ) → k ≤ gap o (bytes_ahead s c) → chunks_of (ahead o s c) ≡ chunks_of (ahead o s (inside c k))
  pieces c h stray e k l = skip-chunks c h stray e ∙ sym (pieces-by c h k (ltb k (gap o (bytes_ahead s c))) refl l)

-- ---- one part more

module _ (o : Order) (s t : List ℕ) where
  -- with t appended, the chunks from c on are those that c gives in s, and then those from where a reader waited
  abbrev Split : Cursor → Cursor → Type 0
  Split c d = chunks_of (ahead o (s ++ t) c) ≡ chunks_of (ahead o s c) ++ chunks_of (ahead o (s ++ t) d)

  none-split : (c : Cursor) → chunks_of (ahead o s c) ≡ [] → Split c c
  none-split c e = rw e

  module _ (c : Cursor) (h : Sound s c) where
    chunk-split : (code size : ℕ) → ahead_at o s c ≡ Chunk code size → (d : Cursor) → Split (step_of o s c).cursor d → Split c d
    unfolding chunks_of
    chunk-split code size e d r =
        let n = next-item o s c h (some-chunk o (bytes_ahead s c) code size e) in
        let m = next-more o s t c h n (chunk-same o s t c h code size e) in
        let k = next-chunk o s c h n code size e in
        rw (m, n.rest, k) (ap (λ (gs : List Given). n.given ∷ gs) r)

    skip-split : (stray : Stray) → ahead_at o s c ≡ Stretch stray → (d : Cursor) → Split (step_of o s c).cursor d → Split c d
    unfolding chunks_of
    skip-split stray e d r =
        let l = bytes_ahead s c in
        let w = skip-more o s t c h stray e in
        let b = bytes-more o s t c h in
        let q : (step_of o s c).cursor ≡ inside c (gap o l) = rw w.0 in
        let a : ahead_at o (s ++ t) c ≡ Stretch stray = rw b (stretch-more o l t (some-stretch o l stray e) stray e) in
        let g : gap o l ≤ gap o (bytes_ahead (s ++ t) c) = rw b (gap-more o l t) in
        pieces o (s ++ t) c (sound-more o s t c h) stray a (gap o l) g ∙ (rw q at r) ∙ rw (skip-chunks o s c h stray e)

  split-by : (f : ℕ) → ((d : Cursor) → Sound s d → length s ≤ d.place + f → Split d (held_by f o s d)) →
      (c : Cursor) → Sound s c → length s ≤ c.place + suc f → (a : Ahead) → ahead_at o s c ≡ a → Split c (held_by (suc f) o s c)
  unfolding held_by chunks_of
  split-by f r c h l End e =
      let w : waits (step_of o s c).item ≡ true = rw (step-ahead o s c h.within h.fit, e) in
      rw w (none-split c (rw (ahead-end o s c h e)))
  split-by f r c h l Cut e =
      let w : waits (step_of o s c).item ≡ true = rw (step-ahead o s c h.within h.fit, e) in
      let a = ahead-cut o s c h e in
      rw w (none-split c (rw (a.2, a.1)))
  split-by f r c h l (Stretch stray) e =
      let w : waits (step_of o s c).item ≡ false = rw (step-ahead o s c h.within h.fit, e) in
      let n = next-item o s c h (some-stretch o (bytes_ahead s c) stray e) in
      let d = (step_of o s c).cursor in
      rw w (skip-split c h stray e (held_by f o s d) (r d n.sound (omega (arith, n.spans.from, n.spans.to, n.spans.some))))
  split-by f r c h l (Chunk code size) e =
      let w : waits (step_of o s c).item ≡ false = rw (step-ahead o s c h.within h.fit, e) in
      let n = next-item o s c h (some-chunk o (bytes_ahead s c) code size e) in
      let d = (step_of o s c).cursor in
      rw w (chunk-split c h code size e (held_by f o s d) (r d n.sound (omega (arith, n.spans.from, n.spans.to, n.spans.some))))

  split-fuel : (f : ℕ) (c : Cursor) → Sound s c → length s ≤ c.place + f → Split c (held_by f o s c)
  unfolding held_by chunks_of
  split-fuel zero c h l = none-split c (rw (ahead-end o s c h (ahead-none o (bytes_ahead s c) (omega (arith, length-drop c.place s)))))
  split-fuel (suc f) c h l = split-by f (split-fuel f) c h l (ahead_at o s c) refl

  -- One part more: the chunks of the longer stream are those of the shorter, and then those from the cursor that was held.
  pub one-part-more : (c : Cursor) → Sound s c → chunks_of (ahead o (s ++ t) c) ≡ chunks_of (ahead o s c) ++ chunks_of (ahead o (s ++ t) (held o s c))
  one-part-more c h = split-fuel (length s) c h (omega arith)

-- the cursor that is held is one that no step refuses
held-by : (f : ℕ) (o : Order) (s : List ℕ) (c : Cursor) (b : Bool) → waits (step_of o s c).item ≡ b → Sound s c → ((d : Cursor) → Sound s d → Sound s (held_by f o s d)) →
    Sound s (held_by (suc f) o s c)
unfolding held_by
held-by f o s c true e h r = rw e h
held-by f o s c false e h r = rw e (r (step_of o s c).cursor (⊎_elim (λ (n : Next o s c). n.sound) (λ (d : Done o s c). rw d.step h) (stands o s c h)))

held-fuel : (f : ℕ) (o : Order) (s : List ℕ) (c : Cursor) → Sound s c → Sound s (held_by f o s c)
unfolding held_by
held-fuel zero o s c h = h
held-fuel (suc f) o s c h = held-by f o s c (waits (step_of o s c).item) refl h (held-fuel f o s)

pub held-sound : (o : Order) (s : List ℕ) (c : Cursor) → Sound s c → Sound s (held o s c)
held-sound o s c h = held-fuel (length s) o s c h

-- ---- any number of parts

-- Reading part by part, each time from the cursor before an unfinished end, gives the chunks of the whole.
pub parts-whole : (ts : List (List ℕ)) (o : Order) (s : List ℕ) (c : Cursor) → Sound s c → by_parts o s c ts ≡ chunks_of (ahead o (s ++ flatten ts) c)
unfolding by_parts flatten
parts-whole [] o s c h = rw (append-nil s)
parts-whole (t ∷ ts) o s c h =
    let d = held o s c in
    let k = held-sound o s c h in
    ap (λ (gs : List Given). chunks_of (ahead o s c) ++ gs) (parts-whole ts o (s ++ t) d (sound-more o s t d k))
    ∙ rw (append_assoc s t (flatten ts)) (sym (one-part-more o s (t ++ flatten ts) c h))

-- from a new cursor, those of the stream
pub parts-items : (ts : List (List ℕ)) (o : Order) (s : List ℕ) → by_parts o s new_cursor ts ≡ chunks_of (items o (s ++ flatten ts))
parts-items ts o s = parts-whole ts o s new_cursor (new-sound s)
