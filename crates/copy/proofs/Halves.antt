-- Laws of two numbers that are read as one of twice their bytes, once over the width.
use Prim.Native.Nat.{ℕ, zero, suc, ◌+◌, ◌*◌, ◌/◌, ◌%◌, ◌^◌, ◌≤◌, ◌<◌}
use mathlib.Core.Path.{◌≡◌, sym, ap, ◌∙◌}
use mathlib.Core.List.{List, [], ◌∷◌, ◌++◌, reverse, reverse-append}
use native.Mathlib.Nat.{add-zero, add-mul, mul_comm, mul_assoc, pow-succ'}
use native.Mathlib.Omega.{arith}
use lib.Arith.{digits_div, digits_mod}
use lib.ListN.{length, take, drop, length-drop, length-reverse}
use lib.Seq.{drop-drop, take-add, length-take-le}
use lib.Bits.{or_shifted}
use Rattle.std.specs.Int.{rotate_left, w32}
use Rattle.num.specs.Number.{number, unsigned, bytes_of}
use Rattle.num.specs.declared.Order.TheVariants.{Big, Little}
use Rattle.num.proofs.Laws.{Bytes, cons-bytes, elems, part-elems, least-bytes, written-read}
use Rattle.copy.specs.Samples.{bytes_at}

-- ---- the number of some bytes and then of others

number-append : (xs ys : List ℕ) → number (xs ++ ys) ≡ number ys * 256 ^ length xs + number xs
number-append [] ys = omega arith
number-append (x ∷ xs) ys =
    let p = 256 ^ length xs in
    let e : number ys * (256 * p) ≡ 256 * (number ys * p) = sym (mul_assoc (number ys) 256 p) ∙ ap (λ (n : ℕ). n * p) (mul_comm (number ys) 256) ∙ mul_assoc 256 (number ys) p in
    rw (pow-succ' 256 (length xs), e) (omega (arith, number-append xs ys))

number-below : (xs : List ℕ) → Bytes xs → number xs < 256 ^ length xs
number-below [] g = omega arith
number-below (x ∷ xs) g = let f = g 0 in omega (arith, f.fits, number-below xs (λ i. g (suc i)), pow-succ' 256 (length xs))

parts : (w : ℕ) (xs ys : List ℕ) → length xs ≡ w → Bytes xs → (number (xs ++ ys) % 256 ^ w ≡ number xs) × (number (xs ++ ys) / 256 ^ w ≡ number ys)
parts w xs ys n g =
    let h : number xs < 256 ^ w = rw n at (number-below xs g) in
    rw (number-append xs ys, n) (digits_mod (number ys) h, digits_div (number ys) h)

-- ---- the bytes of a number

elems-bytes : (p j k : ℕ) (l : List ℕ) → Bytes l → Bytes (elems p j k l)
elems-bytes p j zero l g i = record { fits = omega arith }
elems-bytes p j (suc k) l g i = cons-bytes (elems p (j + 1) k l) (g (p + j)) (elems-bytes p (j + 1) k l g) i

module _ (w : ℕ) (src : List ℕ) (k : ℕ) (h : (k + 1) * w ≤ length src) where
  ends : k * w + w ≤ length src
  ends = let e : (k + 1) * w ≡ k * w + 1 * w = add-mul k 1 w in omega arith

  -- written out
  pub bytes-elems : bytes_at w src k ≡ elems (k * w) 0 w src
  bytes-elems = let l = ends in rw add-zero at (part-elems (k * w) 0 w src (omega arith))

  bytes-long : length (bytes_at w src k) ≡ w
  bytes-long = let l = ends in length-take-le w (drop (k * w) src) (simp length-drop (omega arith))

  bytes-small : Bytes src → Bytes (bytes_at w src k)
  bytes-small g = rw bytes-elems (elems-bytes (k * w) 0 w src g)

  -- they are the bytes of the number that is read
  pub bytes-back : Bytes src → bytes_of Little w (unsigned Little (bytes_at w src k)) ≡ bytes_at w src k
  bytes-back g = rw bytes-long at (written-read Little (bytes_at w src k) (bytes-small g))

-- ---- two numbers as one: its low half is the first of them in the little order, the second in the big

module _ (w : ℕ) (src : List ℕ) (place : ℕ) (h : (place + 1) * (2 * w) ≤ length src) (small : Bytes src) where
  at-first : 2 * place * w ≡ place * (2 * w)
  at-first = ap (λ (n : ℕ). n * w) (mul_comm 2 place) ∙ mul_assoc place 2 w

  at-second : (2 * place + 1) * w ≡ place * (2 * w) + w
  at-second = let e : (2 * place + 1) * w ≡ 2 * place * w + 1 * w = add-mul (2 * place) 1 w in omega (arith, at-first)

  all : (place + 1) * (2 * w) ≡ place * (2 * w) + 2 * w
  all = let e : (place + 1) * (2 * w) ≡ place * (2 * w) + 1 * (2 * w) = add-mul place 1 (2 * w) in omega arith

  within-first : (2 * place + 1) * w ≤ length src
  within-first = omega (arith, at-second, all)

  within-second : (2 * place + 1 + 1) * w ≤ length src
  within-second = let e : (2 * place + 1 + 1) * w ≡ (2 * place + 1) * w + 1 * w = add-mul (2 * place + 1) 1 w in omega (arith, at-second, all)

  whole : bytes_at (2 * w) src place ≡ bytes_at w src (2 * place) ++ bytes_at w src (2 * place + 1)
  whole =
      let e : 2 * w ≡ w + w = omega arith in
      ap (λ (n : ℕ). take n (drop (place * (2 * w)) src)) e
      ∙ take-add w w (drop (place * (2 * w)) src)
      ∙ rw (at-first, at-second, drop-drop w (place * (2 * w)) src)

  pub little-halves : (unsigned Little (bytes_at (2 * w) src place) % 256 ^ w ≡ unsigned Little (bytes_at w src (2 * place)))
      × (unsigned Little (bytes_at (2 * w) src place) / 256 ^ w ≡ unsigned Little (bytes_at w src (2 * place + 1)))
  little-halves = rw whole (parts w (bytes_at w src (2 * place)) (bytes_at w src (2 * place + 1)) (bytes-long w src (2 * place) within-first) (bytes-small w src (2 * place) within-first small))

  pub big-halves : (unsigned Big (bytes_at (2 * w) src place) % 256 ^ w ≡ unsigned Big (bytes_at w src (2 * place + 1)))
      × (unsigned Big (bytes_at (2 * w) src place) / 256 ^ w ≡ unsigned Big (bytes_at w src (2 * place)))
  big-halves =
      let a = bytes_at w src (2 * place) in
      let b = bytes_at w src (2 * place + 1) in
      let n : length (reverse b) ≡ w = length-reverse b ∙ bytes-long w src (2 * place + 1) within-second in
      rw (whole, reverse-append a b) (parts w (reverse b) (reverse a) n (least-bytes Big b (bytes-small w src (2 * place + 1) within-second small)))

-- ---- a word turned by half has its halves the other way round

pub halves-turned : (x : ℕ) → x < 4294967296 → (rotate_left w32 x 16 % 65536 ≡ x / 65536) × (rotate_left w32 x 16 / 65536 ≡ x % 65536)
halves-turned x h =
    let e : x * 65536 % 4294967296 ≡ x % 65536 * 65536 = omega arith in
    rw (e, or_shifted (x % 65536) 16 (x / 65536) (omega arith)) (omega arith, omega arith)
