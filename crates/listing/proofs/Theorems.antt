-- What the definitions say: lines of a dump, and decimal digits that read back.
use Prim.Native.Nat.{ℕ, zero, suc, ◌+◌, ◌*◌, ◌/◌, ◌%◌, ◌<◌}
use mathlib.Core.Path.{◌≡◌, refl, ◌∙◌}
use mathlib.Core.Bool.{Bool, true, false}
use mathlib.Core.List.{List, [], ◌∷◌, ◌++◌}
use native.Mathlib.Omega.{arith}
use lib.Dec.{ltb}
use lib.IntN.{negsuc}
use lib.ListN.{length, get_or, length-append, get_or-append}
use borrow.Author.Tests.{ne_eqb, ltb-true, ltb-false}
use Rattle.reader.specs.declared.Cause.TheVariants.{Searching, NoSync, Large, Uneven}
use Rattle.listing.specs.Digits.{digit, decimal_by, decimal, hex_digits}
use Rattle.listing.specs.Read.{read_next, read_from}
use Rattle.listing.specs.Words.{integer_word, hex_word, cause_word, dump_line}
use Rattle.listing.specs.declared.Label.TheVariants.{Time, GroupGains, Cause}
use Rattle.listing.proofs.Numbers.{decimal-one, decimal-more}

-- ---- the dump

-- two lines of a dump: the time -5, and two gains as patterns
pub example-dump : dump_line Time (integer_word (negsuc 4)) ++ dump_line GroupGains (hex_word 0x3F800000 ++ hex_word 0xC0A00000) ≡
    --   time -5
    0x20 ∷ 0x20 ∷ 0x74 ∷ 0x69 ∷ 0x6D ∷ 0x65 ∷ 0x20 ∷ 0x2D ∷ 0x35 ∷ 0x0A ∷
    --   GRG_ 3F800000 C0A00000
    0x20 ∷ 0x20 ∷ 0x47 ∷ 0x52 ∷ 0x47 ∷ 0x5F ∷ 0x20 ∷ 0x33 ∷ 0x46 ∷ 0x38 ∷ 0x30 ∷ 0x30 ∷ 0x30 ∷ 0x30 ∷ 0x30 ∷ 0x20 ∷ 0x43 ∷ 0x30 ∷ 0x41 ∷ 0x30 ∷ 0x30 ∷ 0x30 ∷ 0x30 ∷ 0x30 ∷ 0x0A ∷
    []
unfolding decimal decimal_by hex_digits
example-dump = refl

-- the line under skipped bytes, for each cause
pub example-causes : dump_line Cause (cause_word Searching) ++ dump_line Cause (cause_word NoSync) ++ dump_line Cause (cause_word Large) ++ dump_line Cause (cause_word Uneven) ≡
    --   cause searching
    0x20 ∷ 0x20 ∷ 0x63 ∷ 0x61 ∷ 0x75 ∷ 0x73 ∷ 0x65 ∷ 0x20 ∷ 0x73 ∷ 0x65 ∷ 0x61 ∷ 0x72 ∷ 0x63 ∷ 0x68 ∷ 0x69 ∷ 0x6E ∷ 0x67 ∷ 0x0A ∷
    --   cause sync
    0x20 ∷ 0x20 ∷ 0x63 ∷ 0x61 ∷ 0x75 ∷ 0x73 ∷ 0x65 ∷ 0x20 ∷ 0x73 ∷ 0x79 ∷ 0x6E ∷ 0x63 ∷ 0x0A ∷
    --   cause large
    0x20 ∷ 0x20 ∷ 0x63 ∷ 0x61 ∷ 0x75 ∷ 0x73 ∷ 0x65 ∷ 0x20 ∷ 0x6C ∷ 0x61 ∷ 0x72 ∷ 0x67 ∷ 0x65 ∷ 0x0A ∷
    --   cause uneven
    0x20 ∷ 0x20 ∷ 0x63 ∷ 0x61 ∷ 0x75 ∷ 0x73 ∷ 0x65 ∷ 0x20 ∷ 0x75 ∷ 0x6E ∷ 0x65 ∷ 0x76 ∷ 0x65 ∷ 0x6E ∷ 0x0A ∷
    []
example-causes = refl

-- ---- decimal digits read back

-- bytes that are read behind others
pub read-append : (a : ℕ) (l m : List ℕ) → read_from a (l ++ m) ≡ read_from (read_from a l) m
read-append a [] m = refl
read-append a (b ∷ l) m = read-append (read_next a b) l m

-- a digit is neither a space nor a newline
read-digit : (a d : ℕ) → read_next a (digit d) ≡ a * 10 + d
read-digit a d = rw (ne_eqb (digit d) 0x20 (λ e. omega arith), ne_eqb (digit d) 0x0A (λ e. omega arith)) (omega arith)

-- by the number of digits
module _ (P : ℕ → Type 0) (one : (n : ℕ) → n < 10 → P n) (more : (n : ℕ) → 9 < n → P (n / 10) → P n) where
  digits-by : (f n : ℕ) (b : Bool) → ltb n 10 ≡ b → (9 < n → P (n / 10)) → P n
  digits-by f n true e r = one n (ltb-true n 10 e)
  digits-by f n false e r = let h = ltb-false n 10 e in more n (omega arith) (r (omega arith))

  digits-fuel : (f n : ℕ) → n < f → P n
  digits-fuel zero n h = absurd (omega arith)
  digits-fuel (suc f) n h = digits-by f n (ltb n 10) refl (λ (k : 9 < n). digits-fuel f (n / 10) (omega arith))

  -- what holds of one digit, and with a digit more, holds of every number
  by-digits : (n : ℕ) → P n
  by-digits n = digits-fuel (suc n) n (omega arith)

ReadsBack : ℕ → Type 0
ReadsBack n = read_from 0 (decimal n) ≡ n

back-one : (n : ℕ) → n < 10 → ReadsBack n
unfolding ReadsBack
back-one n h = rw (decimal-one n h) (read-digit 0 n ∙ omega arith)

back-more : (n : ℕ) → 9 < n → ReadsBack (n / 10) → ReadsBack n
unfolding ReadsBack
back-more n h r =
    rw (decimal-more n h, read-append 0 (decimal (n / 10)) (digit (n % 10) ∷ []), r) (read-digit (n / 10) (n % 10) ∙ omega arith)

-- the digits of a number make the number
pub reads-back : (n : ℕ) → read_from 0 (decimal n) ≡ n
unfolding ReadsBack
reads-back n = by-digits ReadsBack back-one back-more n

-- there is a digit, and the first is 0 only where the number is
FirstDigit : ℕ → Type 0
FirstDigit n = (0 < length (decimal n)) × (get_or (decimal n) 0 0 ≡ 0x30 → n ≡ 0)

first-one : (n : ℕ) → n < 10 → FirstDigit n
unfolding FirstDigit
first-one n h = rw (decimal-one n h) (omega arith, λ e. omega arith)

first-more : (n : ℕ) → 9 < n → FirstDigit (n / 10) → FirstDigit n
unfolding FirstDigit
first-more n h r =
    rw (decimal-more n h, length-append (decimal (n / 10)) (digit (n % 10) ∷ []), get_or-append (decimal (n / 10)) (digit (n % 10) ∷ []) 0 0 r.0)
    (omega arith, λ e. let z = r.1 e in absurd (omega arith))

pub no-leading-zero : (n : ℕ) → (0 < length (decimal n)) × (get_or (decimal n) 0 0 ≡ 0x30 → n ≡ 0)
unfolding FirstDigit
no-leading-zero n = by-digits FirstDigit first-one first-more n
