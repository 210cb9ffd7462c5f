-- One step with more bytes behind the stream: a chunk is the same, a skipped stretch is no shorter and has its cause.
use Prim.Native.Nat.{ℕ, ◌≤◌, ◌<◌}
use mathlib.Core.Path.{◌≡◌, refl, sym, ◌∙◌}
use mathlib.Core.List.{List, [], ◌∷◌, ◌++◌}
use native.Mathlib.Omega.{arith}
use lib.ListN.{length, drop, length-append}
use lib.Seq.{drop-append-le}
use Rattle.num.specs.Answer.{gives}
use Rattle.num.specs.declared.Order.{Order}
use Rattle.frame.specs.Place.{shows, gap}
use Rattle.frame.specs.Ahead.{ahead_of}
use Rattle.frame.specs.declared.At.TheVariants.{Complete}
use Rattle.frame.specs.declared.Stray.{Stray}
use Rattle.frame.specs.declared.Ahead.{Ahead}
use Rattle.frame.specs.declared.Ahead.TheVariants.{End, Stretch, Cut, Chunk}
use Rattle.frame.proofs.Looks.{is-chunk}
use Rattle.frame.proofs.More.{chunk-more, stretch-more, body-more, gap-more, gap-same}
use Rattle.reader.specs.Item.{skipped}
use Rattle.reader.specs.Step.{skips, step_by, step_of}
use Rattle.reader.specs.declared.Cause.{Cause}
use Rattle.reader.specs.declared.Cursor.{Cursor}
use Rattle.reader.proofs.Laws.{step-ahead}
use Rattle.reading.specs.Ends.{Sound}
use Rattle.reading.proofs.Due.{due-exactly}

-- the bytes ahead of a cursor
abbrev pub bytes_ahead : List ℕ → Cursor → List ℕ
bytes_ahead s c = drop c.place s

-- what is ahead of a cursor
abbrev pub ahead_at : Order → List ℕ → Cursor → Ahead
ahead_at o s c = ahead_of o (bytes_ahead s c)

-- a byte is ahead where a chunk is, or a stretch, or an unfinished end
pub some-chunk : (o : Order) (l : List ℕ) (code size : ℕ) → ahead_of o l ≡ Chunk code size → 0 < length l
some-chunk o [] code size e = let z : ◌≡◌ {A = ℕ} 0 1 = cc in absurd (omega arith)
some-chunk o (x ∷ l) code size e = omega arith

pub some-stretch : (o : Order) (l : List ℕ) (stray : Stray) → ahead_of o l ≡ Stretch stray → 0 < length l
some-stretch o [] stray e = let z : ◌≡◌ {A = ℕ} 0 1 = cc in absurd (omega arith)
some-stretch o (x ∷ l) stray e = omega arith

pub some-cut : (o : Order) (l : List ℕ) → ahead_of o l ≡ Cut → 0 < length l
some-cut o [] e = let z : ◌≡◌ {A = ℕ} 0 1 = cc in absurd (omega arith)
some-cut o (x ∷ l) e = omega arith

module _ (o : Order) (s t : List ℕ) (c : Cursor) (h : Sound s c) where
  pub bytes-more : bytes_ahead (s ++ t) c ≡ bytes_ahead s c ++ t
  bytes-more = drop-append-le c.place s t h.within

  pub sound-more : Sound (s ++ t) c
  sound-more = record { within = omega (arith, h.within, length-append s t); fit = h.fit }

  step-here : step_of o s c ≡ step_by o (bytes_ahead s c) c (ahead_at o s c)
  step-here = step-ahead o s c h.within h.fit

  step-there : step_of o (s ++ t) c ≡ step_by o (bytes_ahead s c ++ t) c (ahead_of o (bytes_ahead s c ++ t))
  step-there = step-ahead o (s ++ t) c sound-more.within h.fit ∙ rw bytes-more

  -- a step that gives a chunk
  pub chunk-same : (code size : ℕ) → ahead_at o s c ≡ Chunk code size → step_of o (s ++ t) c ≡ step_of o s c
  chunk-same code size e =
      let l = bytes_ahead s c in
      let n = some-chunk o l code size e in
      step-there ∙ rw (chunk-more o l t n code size e, body-more o l t code size (is-chunk o l code size e)) (sym (step-here ∙ rw e))

  -- a step that skips a stretch
  pub skip-more : (stray : Stray) → ahead_at o s c ≡ Stretch stray →
      (step_of o s c ≡ skips c stray (gap o (bytes_ahead s c))) × (step_of o (s ++ t) c ≡ skips c stray (gap o (bytes_ahead s c ++ t)))
  skip-more stray e =
      let l = bytes_ahead s c in
      let n = some-stretch o l stray e in
      (step-here ∙ rw e, step-there ∙ rw (stretch-more o l t n stray e))

  -- and one behind which a complete chunk stands
  pub skip-same : (stray : Stray) → ahead_at o s c ≡ Stretch stray → (code size : ℕ) → shows o (drop (gap o (bytes_ahead s c)) (bytes_ahead s c)) ≡ Complete code size →
      step_of o (s ++ t) c ≡ step_of o s c
  skip-same stray e code size k =
      let w = skip-more stray e in
      w.1 ∙ rw (gap-same o (bytes_ahead s c) t code size k) (sym w.0)

longer-by : (o : Order) (s t : List ℕ) (c : Cursor) → Sound s c → (p n : ℕ) (cause : Cause) (a : Ahead) → ahead_at o s c ≡ a → (step_by o (bytes_ahead s c) c a).item ≡ gives (skipped p n cause) →
    (m : ℕ) × (n ≤ m) × ((step_of o (s ++ t) c).item ≡ gives (skipped p m cause))
longer-by o s t c h p n cause (Stretch stray) e i =
    let l = bytes_ahead s c in
    let w : step_of o (s ++ t) c ≡ skips c stray (gap o (l ++ t)) = (skip-more o s t c h stray e).1 in
    let q : gap o l ≡ n = cc in
    let r : c.place ≡ p = cc in
    (gap o (l ++ t), omega (arith, gap-more o l t), rw w (cc))
longer-by o s t c h p n cause End e i = let z : ◌≡◌ {A = ℕ} 0 1 = cc in absurd (omega arith)
longer-by o s t c h p n cause Cut e i = let z : ◌≡◌ {A = ℕ} 0 1 = cc in absurd (omega arith)
longer-by o s t c h p n cause (Chunk code size) e i = let z : ◌≡◌ {A = ℕ} 0 1 = cc in absurd (omega arith)

-- A stretch that a step skips is skipped with more bytes too: from the same place, for the same cause, and no shorter.
pub skipped-longer : (o : Order) (s t : List ℕ) (c : Cursor) (p n : ℕ) (cause : Cause) → (step_of o s c).item ≡ gives (skipped p n cause) →
    (m : ℕ) × (n ≤ m) × ((step_of o (s ++ t) c).item ≡ gives (skipped p m cause))
skipped-longer o s t c p n cause e =
    let h : Sound s c = ((due-exactly o s c (gives (skipped p n cause))).0 e).sound in
    longer-by o s t c h p n cause (ahead_at o s c) refl (rw (step-ahead o s c h.within h.fit) at e)
