-- Laws of when pairs and numbers fit, by the tests of the code in their order.
use Prim.Native.Nat.{ℕ, ◌+◌, ◌-◌, ◌*◌, ◌/◌, ◌≤◌, ◌<◌}
use mathlib.Core.Path.{◌≡◌, refl, sym}
use mathlib.Core.Bool.{Bool, true, false}
use native.Mathlib.Omega.{arith}
use native.Mathlib.Nat.{le-div_iff_mul-le, div-lt_iff_lt-mul, mul-le-mul_left, mul-le-mul_right}
use borrow.Author.Tests.{le-leb, lt-leb, leb-true, leb-false}
use lib.Dec.{leb}
use Rattle.num.specs.Choice.{each}
use Rattle.num.proofs.Tests.{both-left, both-right, both-false, each-all, each-at, each-stop}
use Rattle.copy.specs.Samples.{place_of, inside, pairs_fit, reals_fit}

-- a pair lies inside where its place is below the number of places, by a division
module _ (w size : ℕ) (pos : 0 < w) where
  place-inside : (place : ℕ) → place < size / (2 * w) → inside w size place ≡ true
  place-inside place h =
      let k : 0 < 2 * w = omega arith in
      le-leb _ _ ((le-div_iff_mul-le k).0 (omega arith))

  place-outside : (place : ℕ) → size / (2 * w) ≤ place → inside w size place ≡ false
  place-outside place h =
      let k : 0 < 2 * w = omega arith in
      lt-leb _ _ ((div-lt_iff_lt-mul k).0 (omega arith))

-- when pairs fit, by the tests of the code in their order
module _ (w size first step pairs room : ℕ) (pos : 0 < w) where
  pub fit-no-room : room / 2 < pairs → pairs_fit w size first step pairs room ≡ false
  fit-no-room h = rw (lt-leb (2 * pairs) room (omega arith)) (both-false (each (λ j. inside w size (place_of first step j)) pairs))

  pub fit-none : pairs ≡ 0 → pairs_fit w size first step pairs room ≡ true
  unfolding each
  fit-none e = rw (e, le-leb 0 room (omega arith))

  pub fit-all : pairs ≤ room / 2 → ((j : ℕ) → j < pairs → place_of first step j < size / (2 * w)) → pairs_fit w size first step pairs room ≡ true
  fit-all r h =
      rw (each-all (λ j. inside w size (place_of first step j)) pairs (λ j l. place-inside w size pos (place_of first step j) (h j l)))
      (le-leb (2 * pairs) room (omega arith))

  fit-stop : (j : ℕ) → j < pairs → size / (2 * w) ≤ place_of first step j → pairs_fit w size first step pairs room ≡ false
  fit-stop j l h =
      rw (each-stop (λ j. inside w size (place_of first step j)) pairs j l (place-outside w size pos (place_of first step j) h))

  pub fit-outside : 0 < pairs → size / (2 * w) ≤ first → pairs_fit w size first step pairs room ≡ false
  fit-outside l h = fit-stop 0 l (omega arith)

  pub fit-same : pairs ≤ room / 2 → first < size / (2 * w) → step ≡ 0 → pairs_fit w size first step pairs room ≡ true
  fit-same r h e = fit-all r (λ j l. rw e (omega arith))

  -- the last pair decides
  last-by : (b : Bool) → leb (pairs - 1) ((size / (2 * w) - 1 - first) / step) ≡ b →
      pairs ≤ room / 2 → 0 < pairs → first < size / (2 * w) → 0 < step → b ≡ pairs_fit w size first step pairs room
  last-by true e r p h s =
      let m : (pairs - 1) * step ≤ size / (2 * w) - 1 - first = (le-div_iff_mul-le s).0 (leb-true _ _ e) in
      sym (fit-all r (λ j l. omega (arith, mul-le-mul_right {m = j} {n = pairs - 1} step (omega arith))))
  last-by false e r p h s =
      let m : size / (2 * w) - 1 - first < (pairs - 1) * step = (div-lt_iff_lt-mul s).0 (leb-false _ _ e) in
      sym (fit-stop (pairs - 1) (omega arith) (omega arith))

  pub fit-last : pairs ≤ room / 2 → 0 < pairs → first < size / (2 * w) → 0 < step →
      leb (pairs - 1) ((size / (2 * w) - 1 - first) / step) ≡ pairs_fit w size first step pairs room
  fit-last r p h s = last-by (leb (pairs - 1) ((size / (2 * w) - 1 - first) / step)) refl r p h s

-- what fitting says of each pair, and of the slice
module _ (w size first step pairs room : ℕ) (fits : pairs_fit w size first step pairs room ≡ true) where
  pub pair-inside : (j : ℕ) → j < pairs → (place_of first step j + 1) * (2 * w) ≤ size
  pair-inside j l =
      let test : ℕ → Bool = λ j. inside w size (place_of first step j) in
      leb-true _ _ (each-at test pairs j (both-left (each test pairs) (leb (2 * pairs) room) fits) l)

  pub pair-below : 0 < w → (j : ℕ) → j < pairs → place_of first step j < size
  pair-below pos j l = omega (arith, mul-le-mul_left {m = 1} {n = 2 * w} (place_of first step j + 1) (omega arith), pair-inside j l)

  pub pairs-room : 2 * pairs ≤ room
  pairs-room = leb-true _ _ (both-right (each (λ j. inside w size (place_of first step j)) pairs) (leb (2 * pairs) room) fits)

-- pairs that stand one after the other end within the bytes
pub run-inside : (w size first pairs room : ℕ) → 0 < pairs → pairs_fit w size first 1 pairs room ≡ true → (first + pairs) * (2 * w) ≤ size
run-inside w size first pairs room l fits =
    let e : first + (pairs - 1) * 1 + 1 ≡ first + pairs = omega arith in
    rw e at (pair-inside w size first 1 pairs room fits (pairs - 1) (omega arith))

-- when numbers fit
pub reals-outside : (w size count room : ℕ) → 0 < w → size / w < count → reals_fit w size count room ≡ false
reals-outside w size count room pos h = rw (lt-leb (count * w) size ((div-lt_iff_lt-mul pos).0 h))

pub reals-no-room : (w size count room : ℕ) → room < count → reals_fit w size count room ≡ false
reals-no-room w size count room h = rw (lt-leb count room h) (both-false (leb (count * w) size))
