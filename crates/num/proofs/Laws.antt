-- Laws of numbers and their bytes, each once over the width and the order.
use Prim.Native.Nat.{ℕ, zero, suc, ◌+◌, ◌*◌, ◌/◌, ◌%◌, ◌^◌, ◌≤◌, ◌<◌}
use mathlib.Core.Path.{◌≡◌, refl, sym, ap, ◌∙◌}
use mathlib.Core.List.{List, [], ◌∷◌, ◌++◌, reverse_aux, reverse-reverse}
use native.Mathlib.Omega.{arith}
use native.Mathlib.Nat.{pow-succ'}
use borrow.Author.Tests.{le-leb, lt-leb}
use lib.ListN.{length, get_or, take, drop, replicate, length-reverse}
use lib.Seq.{drop-cons, take_all}
use lib.IntN.{ℤ}
use mir.Syntax.{Width, w8, w16, w32, w64, w128}
use mir.Val.{to_z, of_z, SFits, Fits, bits, bytes}
use mir.ValLaws.{to_z-of_z, of_z_fits}
use Rattle.num.specs.declared.Order.{Order}
use Rattle.num.specs.declared.Order.TheVariants.{Big, Little}
use Rattle.num.specs.Number.{least_first, number, digits, unsigned, unsigned_at, signed, bytes_of}

-- each element is a byte
abbrev pub Bytes : List ℕ → Type 0
Bytes l = (i : ℕ) → Fits w8 (get_or l i 0)

-- the k elements of l from p + j on, written out
abbrev pub elems : ℕ → ℕ → ℕ → List ℕ → List ℕ
elems p j zero l = []
elems p j (suc k) l = get_or l (p + j) 0 ∷ elems p (j + 1) k l

pub part-elems : (p j k : ℕ) (l : List ℕ) → p + j + k ≤ length l → take k (drop (p + j) l) ≡ elems p j k l
part-elems p j zero l h = refl
part-elems p j (suc k) l h =
    let e : suc (p + j) ≡ p + (j + 1) = omega arith in
    rw (drop-cons l (p + j) 0 (omega arith), e, part-elems p (j + 1) k l (omega arith))

-- a list of k elements, written out
pub all-elems : (k : ℕ) (l : List ℕ) → length l ≡ k → elems 0 0 k l ≡ l
all-elems k l e = sym (part-elems 0 0 k l (omega arith)) ∙ take_all k l (omega arith)

-- the order is turned round twice
pub least-twice : (o : Order) (l : List ℕ) → least_first o (least_first o l) ≡ l
least-twice Big l = reverse-reverse l
least-twice Little l = refl

pub least-length : (o : Order) (l : List ℕ) → length (least_first o l) ≡ length l
least-length Big l = length-reverse l
least-length Little l = refl

pub cons-bytes : {x : ℕ} (l : List ℕ) → Fits w8 x → Bytes l → Bytes (x ∷ l)
cons-bytes l f g zero = f
cons-bytes l f g (suc i) = g i

pub append-bytes : (l m : List ℕ) → Bytes l → Bytes m → Bytes (l ++ m)
append-bytes [] m g h = h
append-bytes (x ∷ l) m g h = cons-bytes (l ++ m) (g 0) (append-bytes l m (λ i. g (suc i)) h)

aux-bytes : (l r : List ℕ) → Bytes l → Bytes r → Bytes (reverse_aux l r)
aux-bytes [] r g h = h
aux-bytes (x ∷ l) r g h = aux-bytes l (x ∷ r) (λ i. g (suc i)) (cons-bytes r (g 0) h)

pub least-bytes : (o : Order) (l : List ℕ) → Bytes l → Bytes (least_first o l)
least-bytes Big l g = aux-bytes l [] g (λ i. record { fits = omega arith })
least-bytes Little l g = g

-- a number's digits are bytes, in either order
digits-bytes : (k n : ℕ) → Bytes (digits k n)
digits-bytes zero n i = record { fits = omega arith }
digits-bytes (suc k) n i = cons-bytes (digits k (n / 256)) (record { fits = omega arith }) (digits-bytes k (n / 256)) i

pub number-bytes : (o : Order) (k n : ℕ) → Bytes (bytes_of o k n)
number-bytes o k n = least-bytes o (digits k n) (digits-bytes k n)

pub digits-length : (k n : ℕ) → length (digits k n) ≡ k
digits-length zero n = refl
digits-length (suc k) n = ap suc (digits-length k (n / 256))

pub bytes-length : (o : Order) (k n : ℕ) → length (bytes_of o k n) ≡ k
bytes-length o k n = least-length o (digits k n) ∙ digits-length k n

-- a number's bytes, read
pub number-digits : (k n : ℕ) → n < 256 ^ k → number (digits k n) ≡ n
number-digits zero n h = omega arith
number-digits (suc k) n h =
    let e = number-digits k (n / 256) (omega (arith, pow-succ' 256 k)) in
    omega (arith, e)

-- bytes, written as the number that they are
pub digits-number : (l : List ℕ) → Bytes l → digits (length l) (number l) ≡ l
digits-number [] g = refl
digits-number (b ∷ l) g =
    let h = g 0 in
    let m : (b + 256 * number l) % 256 ≡ b = omega (arith, h.fits) in
    let d : (b + 256 * number l) / 256 ≡ number l = omega (arith, h.fits) in
    rw (m, d, digits-number l (λ i. g (suc i)))

-- a width has whole bytes
whole : (w : Width) → 2 ^ bits w ≡ 256 ^ bytes w
whole w8 = refl
whole w16 = refl
whole w32 = refl
whole w64 = refl
whole w128 = refl

-- what is written is read back
pub read-written : (o : Order) (k n : ℕ) → n < 256 ^ k → unsigned o (bytes_of o k n) ≡ n
read-written o k n h = rw (least-twice o (digits k n)) (number-digits k n h)

pub signed-back : (o : Order) (w : Width) (z : ℤ) → SFits w z → signed w o (bytes_of o (bytes w) (of_z w z)) ≡ z
signed-back o w z f =
    let h : of_z w z < 256 ^ bytes w = rw (← whole w) (of_z_fits w z f).fits in
    ap (to_z w) (read-written o (bytes w) (of_z w z) h) ∙ to_z-of_z w z f

-- and what is read is written back
pub written-read : (o : Order) (l : List ℕ) → Bytes l → bytes_of o (length l) (unsigned o l) ≡ l
written-read o l g =
    ap (least_first o) (rw (← least-length o l) (digits-number (least_first o l) (least-bytes o l g))) ∙ least-twice o l

-- the number at a place, where there is none and where there is one
pub at-none : (k : ℕ) (o : Order) (s : List ℕ) (p : ℕ) → length s < p + k → 0 ≡ unsigned_at k o s p
at-none k o s p h = rw (lt-leb (p + k) (length s) h)

pub at-some : (k : ℕ) (o : Order) (s : List ℕ) (p : ℕ) → p + k ≤ length s → unsigned_at k o s p ≡ unsigned o (take k (drop p s))
at-some k o s p h = rw (le-leb (p + k) (length s) h)

-- zeros, in either order, are 0
zeros : (k : ℕ) (l : List ℕ) → number l ≡ 0 → number (reverse_aux (replicate k 0) l) ≡ 0
zeros zero l h = h
zeros (suc k) l h = zeros k (0 ∷ l) (omega (arith, h))

pub unsigned_zeros : (o : Order) (k : ℕ) → unsigned o (replicate k 0) ≡ 0
unsigned_zeros Big k = zeros k [] refl
unsigned_zeros Little zero = refl
unsigned_zeros Little (suc k) = omega (arith, unsigned_zeros Little k)
