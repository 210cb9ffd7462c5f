-- Every slot has a last chunk, or none since the reader was searching: there is no third case.
use Prim.Native.Nat.{ℕ}
use mathlib.Core.Path.{◌≡◌, refl, ap}
use mathlib.Core.Bool.{Bool, true, false}
use mathlib.Core.List.{List, [], ◌∷◌, ◌++◌, foldl}
use mathlib.Core.Logic.{◌⊎◌, inl, inr}
use Rattle.frame.specs.Frames.{Frame, chunk, is_chunk}
use Rattle.frame.proofs.Looks.{frame-by, other-made}
use Rattle.body.specs.Kind.{kind_of}
use Rattle.body.specs.Table.{Slot, set_by}
use Rattle.decides.specs.Last.{is_skipped, Leaves, AllLeave, LastIs, NoneSince}

module _ (x : Slot) where
  -- what a frame is to the slot
  data One (f : Frame) : Type 0 where
    left : Leaves x f → One f
    lost : is_skipped f ≡ true → One f
    own : (code : ℕ) (b : List ℕ) → f ≡ chunk code b → set_by (kind_of code) x ≡ true → One f

  chunk-one : (code : ℕ) (b : List ℕ) (t : Bool) → set_by (kind_of code) x ≡ t → One (chunk code b)
  chunk-one code b true e = own code b refl e
  chunk-one code b false e = left e

  other-one : (g : Frame) (t : Bool) → is_skipped g ≡ t → is_chunk g ≡ false → One g
  other-one g true e n = lost e
  other-one g false e n = left (rw (e, other-made (Unit {0}) (λ code b. set_by (kind_of code) x ≡ false) g n) tt)

  one : (f : Frame) → One f
  one f = frame-by (λ (g : Frame). One g) (λ code b. chunk-one code b (set_by (kind_of code) x) refl) (λ g n. other-one g (is_skipped g) refl n) f

  -- and what some frames are to it; after the last stretch the reader is searching, whatever it was before
  data Some (fs : List Frame) : Type 0 where
    left : AllLeave x fs → Some fs
    lost : (es ls : List Frame) → fs ≡ es ++ ls → ((t : Bool) → foldl (λ (before : Bool) (f : Frame). is_skipped f) t es ≡ true) → AllLeave x ls → Some fs
    own : (code : ℕ) (b : List ℕ) → LastIs x fs code b → Some fs

  more : (f : Frame) (fs : List Frame) → One f → Some fs → Some (f ∷ fs)
  more f fs (left q) (left h) = left (q, h)
  more f fs (lost q) (left h) = lost (f ∷ []) fs refl (λ t. q) h
  more f fs (own code b e q) (left h) = own code b (record { earlier = []; later = fs; split = rw e; setter = q; others = h })
  more f fs o (lost es ls e s h) = lost (f ∷ es) ls (rw e) (λ t. s (is_skipped f)) h
  more f fs o (own code b l) =
      own code b (record { earlier = f ∷ l.earlier; later = l.later; split = ap (λ (gs : List Frame). f ∷ gs) l.split; setter = l.setter; others = l.others })

  some : (fs : List Frame) → Some fs
  some [] = left tt
  some (f ∷ fs) = more f fs (one f) (some fs)

  named : (fs : List Frame) → Some fs → NoneSince x fs ⊎ ((code : ℕ) × (b : List ℕ) × LastIs x fs code b)
  named fs (left h) = inl (record { earlier = []; later = fs; split = refl; searching = refl; others = h })
  named fs (lost es ls e s h) = inl (record { earlier = es; later = ls; split = e; searching = s true; others = h })
  named fs (own code b l) = inr (code, b, l)

  -- Of some frames, none has set the slot since the reader was searching, or one is the last that did.
  pub none-or-last : (fs : List Frame) → NoneSince x fs ⊎ ((code : ℕ) × (b : List ℕ) × LastIs x fs code b)
  none-or-last fs = named fs (some fs)
