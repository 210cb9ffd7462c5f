-- What is appended to a stream changes nothing before the end of its last complete chunk: no item there, no state that one of
-- them shows, and no cursor to the one behind that chunk.
use Prim.Native.Nat.{ℕ, zero, suc, ◌+◌, ◌≤◌, ◌<◌}
use mathlib.Core.Path.{◌≡◌, refl, ap, sym, ◌∙◌}
use mathlib.Core.Bool.{true, false}
use mathlib.Core.List.{List, [], ◌∷◌, ◌++◌}
use mathlib.Core.Logic.{⊎_elim}
use native.Mathlib.Omega.{arith}
use lib.ListN.{length, take, drop, length-append, length-drop, drop_of_length-le}
use lib.Seq.{drop-drop}
use Rattle.num.specs.Answer.{gives}
use Rattle.num.specs.declared.Order.{Order}
use Rattle.frame.specs.Place.{gap}
use Rattle.frame.specs.declared.Stray.{Stray}
use Rattle.frame.specs.declared.Ahead.{Ahead}
use Rattle.frame.specs.declared.Ahead.TheVariants.{End, Stretch, Cut, Chunk}
use Rattle.frame.proofs.Looks.{is-chunk, is-cut, is-end, ahead-none}
use Rattle.frame.proofs.Frames.{frames-nil, frames-cut}
use Rattle.effect.specs.Ready.{no_state}
use Rattle.reader.specs.Item.{Item, unfinished, is_chunk}
use Rattle.reader.specs.Items.{Given, items_from, items}
use Rattle.reader.specs.Reading.{ahead}
use Rattle.reader.specs.Step.{Step, new_cursor, step_by, step_of, after}
use Rattle.reader.specs.declared.Cursor.{Cursor}
use Rattle.reader.proofs.Laws.{step-ahead}
use Rattle.reader.proofs.Theorems.{after-suc, one}
use Rattle.reading.specs.Ends.{Sound}
use Rattle.reading.specs.FromNew.{FromNew}
use Rattle.reading.proofs.FromNew.{from-new-fit}
use Rattle.reading.proofs.Next.{Next, Done, stands, new-sound}
use Rattle.reading.proofs.Causes.{no-second-skip}
use Rattle.growing.specs.Settled.{settled}
use Rattle.growing.proofs.Steps.{bytes_ahead, ahead_at, some-chunk, some-stretch, some-cut, chunk-same, skip-more, skip-same}

-- ---- what is ahead of a cursor, by what stands there

same-item : {i j : Item} → gives i ≡ gives j → is_chunk j ≡ is_chunk i
same-item {i} {j} e = let q : j ≡ i = cc in ap is_chunk q

module _ (o : Order) (s : List ℕ) (c : Cursor) (h : Sound s c) where
  pub ahead-end : ahead_at o s c ≡ End → ahead o s c ≡ []
  unfolding items_from
  ahead-end e =
      let d : bytes_ahead s c ≡ [] = drop_of_length-le s {i = c.place} (omega (arith, is-end o (bytes_ahead s c) e, length-drop c.place s)) in
      rw (d, frames-nil o)

  -- an unfinished end is the only item
  pub ahead-cut : ahead_at o s c ≡ Cut → (g : Given) × (is_chunk g.item ≡ false) × (ahead o s c ≡ g ∷ [])
  unfolding items_from
  ahead-cut e =
      let n = some-cut o (bytes_ahead s c) e in
      let d : drop (c.place + length (bytes_ahead s c)) s ≡ [] = drop_of_length-le s {i = c.place + length (bytes_ahead s c)} (omega (arith, length-drop c.place s)) in
      (record { item = unfinished c.place (length (bytes_ahead s c)); shown = no_state }, refl, rw (frames-cut o s c.place (omega (arith, length-drop c.place s)) (is-cut o (bytes_ahead s c) e), d, frames-nil o))

  -- a byte is left, so a step gives the first of them
  pub next-item : 0 < length (bytes_ahead s c) → Next o s c
  next-item n = ⊎_elim (λ (w : Next o s c). w) (λ (w : Done o s c). absurd (omega (arith, w.place, length-drop c.place s))) (stands o s c h)

  -- which is a chunk where one is ahead, and none where a stretch is
  pub next-chunk : (n : Next o s c) (code size : ℕ) → ahead_at o s c ≡ Chunk code size → is_chunk n.given.item ≡ true
  next-chunk n code size e = same-item (rw (step-ahead o s c h.within h.fit, e) at n.gives.item)

  pub next-skip : (n : Next o s c) (stray : Stray) → ahead_at o s c ≡ Stretch stray → is_chunk n.given.item ≡ false
  next-skip n stray e = same-item (rw (step-ahead o s c h.within h.fit, e) at n.gives.item)

-- with more bytes too, where the step is the same
pub next-more : (o : Order) (s t : List ℕ) (c : Cursor) → Sound s c → (n : Next o s c) → step_of o (s ++ t) c ≡ step_of o s c → ahead o (s ++ t) c ≡ n.given ∷ ahead o (s ++ t) (step_of o s c).cursor
next-more o s t c h n e =
    one o (s ++ t) c (omega (arith, n.spans.from, n.spans.to, n.spans.some, n.sound.within, length-append s t)) h.fit
    ∙ rw (e, n.gives.item, n.gives.shown, n.gives.some)

-- ---- what is kept

pub record Kept (o : Order) (s t : List ℕ) (c : Cursor) : Type 0 where
  -- each step up to the last chunk: its answer, the state that it shows and the cursor that it leaves
  pub steps : (k : ℕ) → k < length (settled (ahead o s c)) → step_of o (s ++ t) (after k o (s ++ t) c) ≡ step_of o s (after k o s c)
  -- and the items up to it
  pub items : take (length (settled (ahead o s c))) (ahead o (s ++ t) c) ≡ settled (ahead o s c)

module _ (o : Order) (s t : List ℕ) where
  none-kept : (c : Cursor) → settled (ahead o s c) ≡ [] → Kept o s t c
  none-kept c e = record { steps = λ k l. absurd (omega (arith, ap length e)); items = rw e }

  at-end : (c : Cursor) → Sound s c → length s ≤ c.place + 0 → settled (ahead o s c) ≡ []
  unfolding settled
  at-end c h l = rw (ahead-end o s c h (ahead-none o (bytes_ahead s c) (omega (arith, length-drop c.place s))))

  -- one item more
  module _ (c : Cursor) (h : Sound s c) (n : Next o s c) (e : step_of o (s ++ t) c ≡ step_of o s c)
      (k : settled (ahead o s c) ≡ n.given ∷ settled (ahead o s (step_of o s c).cursor)) (r : Kept o s t (step_of o s c).cursor) where
    next-steps : (j : ℕ) → j < length (settled (ahead o s c)) → step_of o (s ++ t) (after j o (s ++ t) c) ≡ step_of o s (after j o s c)
    unfolding after
    next-steps zero l = e
    next-steps (suc j) l = rw e (r.steps j (omega (arith, ap length k)))

    next-kept : Kept o s t c
    next-kept = record { steps = next-steps; items = rw (k, next-more o s t c h n e) (ap (λ (gs : List Given). n.given ∷ gs) r.items) }

  -- where a stretch was skipped: what follows decides
  module _ (c : Cursor) (h : Sound s c) (n : Next o s c) (stray : Stray) (e : ahead_at o s c ≡ Stretch stray) where
    skip-none : settled (ahead o s (step_of o s c).cursor) ≡ [] → Kept o s t c
    unfolding settled
    skip-none k = none-kept c (rw (n.rest, next-skip o s c h n stray e, k))

    skip-on : (g : Given) (rest : List Given) → settled (ahead o s (step_of o s c).cursor) ≡ g ∷ rest → settled (ahead o s c) ≡ n.given ∷ settled (ahead o s (step_of o s c).cursor)
    unfolding settled
    skip-on g rest k = rw (n.rest, next-skip o s c h n stray e, k)

    -- the place after the stretch
    after-skip : bytes_ahead s (step_of o s c).cursor ≡ drop (gap o (bytes_ahead s c)) (bytes_ahead s c)
    after-skip = rw (skip-more o s t c h stray e).0 (sym (drop-drop (gap o (bytes_ahead s c)) c.place s))

    -- which begins no other
    not-twice : (again : Stray) → ahead_at o s (step_of o s c).cursor ≡ Stretch again → ⊥
    not-twice again k =
        let d = (step_of o s c).cursor in
        no-second-skip o s c h _ _ _ (ap (λ (x : Step). x.item) (skip-more o s t c h stray e).0) _ _ _
        (ap (λ (x : Step). x.item) (step-ahead o s d n.sound.within n.sound.fit ∙ ap (step_by o (bytes_ahead s d) d) k))

    skip-kept : (a : Ahead) → ahead_at o s (step_of o s c).cursor ≡ a → Kept o s t (step_of o s c).cursor → Kept o s t c
    unfolding settled
    skip-kept End k r = skip-none (rw (ahead-end o s (step_of o s c).cursor n.sound k))
    skip-kept Cut k r =
        let w = ahead-cut o s (step_of o s c).cursor n.sound k in
        skip-none (rw (w.2, w.1))
    skip-kept (Stretch again) k r = absurd (not-twice again k)
    skip-kept (Chunk code size) k r =
        let d = (step_of o s c).cursor in
        let m = next-item o s d n.sound (some-chunk o (bytes_ahead s d) code size k) in
        let w : settled (ahead o s d) ≡ m.given ∷ settled (ahead o s (step_of o s d).cursor) = rw (m.rest, next-chunk o s d n.sound m code size k) in
        next-kept c h n (skip-same o s t c h stray e code size (rw (← after-skip) (is-chunk o (bytes_ahead s d) code size k))) (skip-on _ _ w) r

  module _ (f : ℕ) (r : (d : Cursor) → Sound s d → length s ≤ d.place + f → Kept o s t d) (c : Cursor) (h : Sound s c) (l : length s ≤ c.place + suc f) where
    on : (n : Next o s c) → Kept o s t (step_of o s c).cursor
    on n = r (step_of o s c).cursor n.sound (omega (arith, n.spans.from, n.spans.to, n.spans.some))

    kept-by : (a : Ahead) → ahead_at o s c ≡ a → Kept o s t c
    unfolding settled
    kept-by End e = none-kept c (rw (ahead-end o s c h e))
    kept-by Cut e = let w = ahead-cut o s c h e in none-kept c (rw (w.2, w.1))
    kept-by (Stretch stray) e =
        let n = next-item o s c h (some-stretch o (bytes_ahead s c) stray e) in
        skip-kept c h n stray e (ahead_at o s (step_of o s c).cursor) refl (on n)
    kept-by (Chunk code size) e =
        let n = next-item o s c h (some-chunk o (bytes_ahead s c) code size e) in
        next-kept c h n (chunk-same o s t c h code size e) (rw (n.rest, next-chunk o s c h n code size e)) (on n)

  kept-fuel : (f : ℕ) (c : Cursor) → Sound s c → length s ≤ c.place + f → Kept o s t c
  kept-fuel zero c h l = none-kept c (at-end c h l)
  kept-fuel (suc f) c h l = kept-by f (kept-fuel f) c h l (ahead_at o s c) refl

  -- From any cursor that no step refuses: each step up to the last chunk, that chunk included, and the items.
  pub appended : (c : Cursor) → Sound s c → Kept o s t c
  appended c h = kept-fuel (length s) c h (omega arith)

  -- the cursors up to the one after that chunk, with their states
  pub appended-cursor : (c : Cursor) → Sound s c → (k : ℕ) → k ≤ length (settled (ahead o s c)) → after k o (s ++ t) c ≡ after k o s c
  unfolding after
  appended-cursor c h zero l = refl
  appended-cursor c h (suc k) l =
      after-suc k o (s ++ t) c ∙ ap (λ (x : Step). x.cursor) ((appended c h).steps k (omega arith)) ∙ sym (after-suc k o s c)

  -- So it is for every cursor that came of a new one and whose place is within the stream.
  pub appended-from-new : (c : Cursor) → FromNew c → c.place ≤ length s → Kept o s t c
  appended-from-new c h l = appended c (record { within = l; fit = from-new-fit c h })

  -- From a new cursor: the settled items of the stream are the first items of the longer stream.
  pub appended-items : take (length (settled (items o s))) (items o (s ++ t)) ≡ settled (items o s)
  appended-items = (appended new_cursor (new-sound s)).items
