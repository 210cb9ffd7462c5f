-- Laws of values laid one after the other, once over the element.
use Prim.Native.Nat.{ℕ, zero, suc, ◌+◌, ◌*◌, ◌≤◌, ◌<◌}
use mathlib.Core.Path.{◌≡◌, refl, sym, ap, ◌∙◌}
use mathlib.Core.List.{List, [], ◌∷◌, ◌++◌, append_assoc, append-nil}
use native.Mathlib.Omega.{arith}
use native.Mathlib.Numerals.{add-one}
use native.Mathlib.Nat.{suc-mul}
use lib.ListN.{length, get_or, take, drop, length-append}
use lib.Seq.{take-suc, take_at, take-length, drop-length, drop-append-add, length-take-le}
use Rattle.lay.specs.Runs.{run_of}
use Rattle.lay.specs.Splice.{splice}
use Rattle.lay.proofs.Splice.{splice-nothing, splice-splice}

module _ {A : Type 0} (bytes : A → List ℕ) where
  run-append : (xs ys : List A) → run_of bytes (xs ++ ys) ≡ run_of bytes xs ++ run_of bytes ys
  unfolding run_of
  run-append [] ys = refl
  run-append (x ∷ xs) ys = rw (run-append xs ys) (sym (append_assoc (bytes x) (run_of bytes xs) (run_of bytes ys)))

  -- one value
  pub run-one : (x : A) → run_of bytes (x ∷ []) ≡ bytes x
  unfolding run_of
  run-one x = append-nil (bytes x)

  -- two values
  pub run-two : (x y : A) → run_of bytes (x ∷ y ∷ []) ≡ bytes x ++ bytes y
  unfolding run_of
  run-two x y = rw (append-nil (bytes y))

  -- one value more
  run-more : (xs : List A) (z : A) (j : ℕ) → j < length xs → run_of bytes (take (j + 1) xs) ≡ run_of bytes (take j xs) ++ bytes (get_or xs j z)
  run-more xs z j h = rw (add-one j, take-suc xs j z h, run-append (take j xs) (get_or xs j z ∷ []), run-one (get_or xs j z))

  -- none is laid yet
  pub run-none : (xs : List A) (d : List ℕ) (at : ℕ) → d ≡ splice d at (run_of bytes (take 0 xs))
  unfolding run_of
  run-none xs d at = sym (splice-nothing d at)

  -- each has w bytes
  module _ (w : ℕ) (wide : (x : A) → length (bytes x) ≡ w) where
    pub run_length : (xs : List A) → length (run_of bytes xs) ≡ length xs * w
    unfolding run_of
    run_length [] = omega arith
    run_length (x ∷ xs) = rw (length-append, wide x, run_length xs) (omega (arith, suc-mul (length xs) w))

    -- the first j of them
    pub first-length : (xs : List A) (j : ℕ) → j ≤ length xs → length (run_of bytes (take j xs)) ≡ j * w
    first-length xs j h = rw (run_length (take j xs), length-take-le j xs h)

    -- the bytes of value k
    pub run_at : (z : A) (xs : List A) (k : ℕ) → k < length xs → take w (drop (k * w) (run_of bytes xs)) ≡ bytes (get_or xs k z)
    unfolding run_of
    run_at z [] k h = absurd (omega arith)
    run_at z (x ∷ xs) zero h =
        let e : 0 * w ≡ 0 = omega arith in
        rw e (take_at (bytes x) (run_of bytes xs) w (wide x))
    run_at z (x ∷ xs) (suc k) h =
        let e : suc k * w ≡ length (bytes x) + k * w = omega (arith, suc-mul k w, wide x) in
        rw (e, drop-append-add (bytes x) (run_of bytes xs) (k * w)) (run_at z xs k (omega arith))

    -- they are laid into d from a place on, one by one
    module _ (xs : List A) (d : List ℕ) (at : ℕ) where
      pub run-next : (z : A) (j : ℕ) (l k : List ℕ) (q : ℕ) → j < length xs → q ≡ at + j * w → q ≤ length d →
          l ≡ splice d at (run_of bytes (take j xs)) → k ≡ splice l q (bytes (get_or xs j z)) → k ≡ splice d at (run_of bytes (take (j + 1) xs))
      run-next z j l k q h p f e g =
          let n : length (run_of bytes (take j xs)) ≡ j * w = first-length xs j (omega arith) in
          g
          ∙ ap (λ (m : List ℕ). splice m q (bytes (get_or xs j z))) e
          ∙ splice-splice d at (run_of bytes (take j xs)) (bytes (get_or xs j z)) q (omega arith) (omega arith)
          ∙ ap (splice d at) (sym (run-more xs z j h))

    -- and fill it where they are as many bytes
    pub run-all : (xs : List A) (d l : List ℕ) (j : ℕ) → length d ≡ length xs * w → j ≡ length xs → l ≡ splice d 0 (run_of bytes (take j xs)) → l ≡ run_of bytes xs
    run-all xs d l j n q e =
        let m : 0 + length (run_of bytes xs) ≡ length d = omega (arith, run_length xs) in
        e ∙ rw (q, take-length xs, m, drop-length d, append-nil)
