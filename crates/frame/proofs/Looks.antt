-- Laws of what is ahead: what each case says of the place, and what stands at the place says of it.
use Prim.Native.Nat.{ℕ, ◌<◌}
use mathlib.Core.Path.{◌≡◌, refl, ◌∙◌}
use mathlib.Core.Bool.{false}
use mathlib.Core.List.{List, [], ◌∷◌}
use native.Mathlib.Omega.{arith}
use denote.Enum.Declared.{tag_of}
use lib.ListN.{length, drop, length-drop}
use types.Run.{OneOf, miss}
use Rattle.num.specs.declared.Order.{Order}
use Rattle.frame.specs.Place.{shows, stops}
use Rattle.frame.specs.Frames.{Frame, chunk, skipped, unfinished, of_chunk}
use Rattle.frame.specs.Frames as Frames
use Rattle.frame.specs.Ahead.{ahead_by, ahead_of, is_chunk}
use Rattle.frame.specs.Ahead as Ahead
use Rattle.frame.specs.declared.At.{At}
use Rattle.frame.specs.declared.At.TheVariants.{NoSync, Bad, Unfinished, Complete}
use Rattle.frame.specs.declared.Stray.{Stray}
use Rattle.frame.specs.declared.Ahead.{Ahead}
use Rattle.frame.specs.declared.Ahead.TheVariants.{End, Stretch, Cut, Chunk}
use Rattle.frame.specs.contracts.Ahead.{the_type}

-- ---- by what stands at the place

by-chunk : (a : At) (code size : ℕ) → ahead_by a ≡ Chunk code size → a ≡ Complete code size
by-chunk NoSync code size e = absurd cc
by-chunk (Bad b) code size e = absurd cc
by-chunk Unfinished code size e = absurd cc
by-chunk (Complete k n) code size e =
    let i : k ≡ code = cc in
    let j : n ≡ size = cc in
    rw (i, j)

by-cut : (a : At) → ahead_by a ≡ Cut → a ≡ Unfinished
by-cut NoSync e = absurd cc
by-cut (Bad b) e = absurd cc
by-cut Unfinished e = refl
by-cut (Complete k n) e = absurd cc

by-stretch : (a : At) (stray : Stray) → ahead_by a ≡ Stretch stray → stops a ≡ false
by-stretch NoSync stray e = refl
by-stretch (Bad b) stray e = refl
by-stretch Unfinished stray e = absurd cc
by-stretch (Complete k n) stray e = absurd cc

not-end : (a : At) → ahead_by a ≡ End → ⊥
not-end NoSync e = absurd cc
not-end (Bad b) e = absurd cc
not-end Unfinished e = absurd cc
not-end (Complete k n) e = absurd cc

passed-by : (a : At) → stops a ≡ false → (stray : Stray) × (ahead_by a ≡ Stretch stray)
passed-by NoSync e = (_, refl)
passed-by (Bad b) e = (_, refl)
passed-by Unfinished e = absurd cc
passed-by (Complete k n) e = absurd cc

-- ---- what each case says

pub is-chunk : (o : Order) (l : List ℕ) (code size : ℕ) → ahead_of o l ≡ Chunk code size → shows o l ≡ Complete code size
is-chunk o [] code size e = absurd cc
is-chunk o (x ∷ l) code size e = by-chunk (shows o (x ∷ l)) code size e

pub is-cut : (o : Order) (l : List ℕ) → ahead_of o l ≡ Cut → shows o l ≡ Unfinished
is-cut o [] e = absurd cc
is-cut o (x ∷ l) e = by-cut (shows o (x ∷ l)) e

pub is-stretch : (o : Order) (l : List ℕ) (stray : Stray) → ahead_of o l ≡ Stretch stray → stops (shows o l) ≡ false
is-stretch o [] stray e = absurd cc
is-stretch o (x ∷ l) stray e = by-stretch (shows o (x ∷ l)) stray e

pub is-end : (o : Order) (l : List ℕ) → ahead_of o l ≡ End → length l ≡ 0
is-end o [] e = refl
is-end o (x ∷ l) e = absurd (not-end (shows o (x ∷ l)) e)

-- ---- what stands at the place says what is ahead

pub ahead-at : (o : Order) (l : List ℕ) → 0 < length l → ahead_of o l ≡ ahead_by (shows o l)
ahead-at o [] h = absurd (omega arith)
ahead-at o (x ∷ l) h = refl

pub ahead-looked : (o : Order) (s : List ℕ) (p : ℕ) → p < length s → ahead_of o (drop p s) ≡ ahead_by (shows o (drop p s))
ahead-looked o s p h = ahead-at o (drop p s) (omega (arith, length-drop p s))

pub ruleset place_read = (ahead-looked)

pub ahead-none : (o : Order) (l : List ℕ) → length l ≡ 0 → ahead_of o l ≡ End
ahead-none o [] h = refl
ahead-none o (x ∷ l) h = absurd (omega arith)

-- a byte is left and a search does not stop here: a stretch is ahead
pub stretch-ahead : (o : Order) (l : List ℕ) → 0 < length l → stops (shows o l) ≡ false → (stray : Stray) × (ahead_of o l ≡ Stretch stray)
stretch-ahead o l n h = let w = passed-by (shows o l) h in (w.0, ahead-at o l n ∙ w.1)

-- the other arm of a `let .. else` on a chunk says only the variant's number
pub other-told : (a : Ahead) → OneOf (0 ∷ 1 ∷ 2 ∷ []) (tag_of the_type a) → is_chunk a ≡ false
other-told End e = refl
other-told (Stretch stray) e = refl
other-told Cut e = refl
other-told (Chunk code size) e = absurd (miss (0 ∷ 1 ∷ 2 ∷ []) 3 tt e)

-- a chunk is ahead, or none is: what holds of both holds of all that can be ahead
pub ahead-by : (P : Ahead → Type 0) → ((code size : ℕ) → P (Chunk code size)) → ((a : Ahead) → is_chunk a ≡ false → P a) → (a : Ahead) → P a
ahead-by P k h End = h End refl
ahead-by P k h (Stretch stray) = h (Stretch stray) refl
ahead-by P k h Cut = h Cut refl
ahead-by P k h (Chunk code size) = k code size

-- what is made where no chunk is ahead
pub other-ahead : {A : Type 0} (other : A) (g : ℕ → ℕ → A) (a : Ahead) → is_chunk a ≡ false → Ahead.of_chunk other g a ≡ other
other-ahead other g End e = refl
other-ahead other g (Stretch stray) e = refl
other-ahead other g Cut e = refl
other-ahead other g (Chunk code size) e = absurd cc

-- what holds of what is made of every chunk, and of what is made of every other frame, holds of what is made of a frame
pub of-chunk : {A : Type 0} (P : A → Type 0) (other : A) (g : ℕ → List ℕ → A) (f : Frame) → P other → ((code : ℕ) (body : List ℕ) → P (g code body)) → P (of_chunk other g f)
of-chunk P other g (chunk code body) h k = k code body
of-chunk P other g (skipped stray bytes) h k = h
of-chunk P other g (unfinished bytes) h k = h

-- a frame is a chunk, or it is none: what holds of both holds of every frame
pub frame-by : (P : Frame → Type 0) → ((code : ℕ) (body : List ℕ) → P (chunk code body)) → ((f : Frame) → Frames.is_chunk f ≡ false → P f) → (f : Frame) → P f
frame-by P k h (chunk code body) = k code body
frame-by P k h (skipped stray bytes) = h (skipped stray bytes) refl
frame-by P k h (unfinished bytes) = h (unfinished bytes) refl

-- what is made of a frame that is no chunk
pub other-made {ℓ} : {A : Type ℓ} (other : A) (g : ℕ → List ℕ → A) (f : Frame) → Frames.is_chunk f ≡ false → of_chunk other g f ≡ other
other-made other g (chunk code body) e = absurd cc
other-made other g (skipped stray bytes) e = refl
other-made other g (unfinished bytes) e = refl
