-- The texts of the lines, and of the words of a dump, show all their bytes: none is longer than 96.
use Prim.Native.Nat.{ℕ, zero, suc, ◌+◌, ◌*◌, ◌/◌, ◌%◌, ◌^◌, ◌≤◌, ◌<◌}
use mathlib.Core.Path.{◌≡◌, refl, ◌∙◌}
use mathlib.Core.Bool.{Bool, true, false}
use mathlib.Core.List.{List, [], ◌∷◌}
use native.Mathlib.Nat.{div-lt_iff_lt-mul, pow-suc}
use native.Mathlib.Omega.{arith}
use lib.Dec.{ltb}
use lib.IntN.{ℤ, pos, negsuc}
use lib.ListN.{length, length-append, length-take}
use lib.Seq.{take_all}
use mir.Syntax.{w64}
use mir.Val.{SFits}
use borrow.Author.Tests.{ltb-true, ltb-false}
use Rattle.num.specs.Choice.{pick}
use Rattle.num.specs.Number.{bytes_of}
use Rattle.num.specs.declared.Order.{Order}
use Rattle.num.specs.declared.Order.TheVariants.{Big, Little}
use Rattle.body.specs.Kind.{kind_of}
use Rattle.body.specs.declared.faults.Fault.TheVariants as faults
use Rattle.effect.specs.Says.{Says, verdict_said}
use Rattle.effect.specs.declared.Lack.TheVariants as lacks
use Rattle.effect.specs.declared.Verdict.{Verdict}
use Rattle.effect.specs.declared.Verdict.TheVariants.{Good, Unknown, Malformed, NotCovered, Waits, Ready}
use Rattle.reader.specs.Item.{item_said}
use Rattle.reader.specs.declared.Item.{Item}
use Rattle.reader.specs.declared.Cause as causes
use Rattle.reader.specs.declared.Cause.TheVariants.{Searching, NoSync, Large, Uneven}
use Rattle.reader.specs.declared.Item.TheVariants.{PastEnd, BadState, End, Skipped, Unfinished, Chunk}
use Rattle.listing.specs.Digits.{digit, hex_digit, decimal_by, decimal, hex_digits}
use Rattle.listing.specs.Text.{text_of, shown}
use Rattle.listing.specs.Words.{number_word, integer_word, hex_word, cause_word, head_of}
use Rattle.listing.specs.Lines.{is_known, verdict_word, count_line, first_line, stretch_line, chunk_line, answer_line, last_line}
use Rattle.listing.specs.declared.Label.{Label}
use Rattle.listing.specs.declared.Label.TheVariants.{Time, Mark, Packing, Rate, Bandwidth, GroupBandwidth, Frequency, FullScale, TotalGain, FloatScale, GroupPacking, GroupFrequencies, GroupGains, Sum, Samples, Text, Value, Cause}
use Rattle.listing.proofs.Numbers.{decimal-one, decimal-more}
use Rattle.listing.proofs.Texts.{shown-text}

length-by : (k n : ℕ) (b : Bool) → ltb n 10 ≡ b → (9 < n → length (decimal (n / 10)) ≤ k) → length (decimal n) ≤ k + 1
length-by k n true e r = rw (decimal-one n (ltb-true n 10 e)) (omega arith)
length-by k n false e r =
    let h : 9 < n = omega (arith, ltb-false n 10 e) in
    let l = r h in
    rw (decimal-more n h, length-append (decimal (n / 10)) (digit (n % 10) ∷ [])) (omega arith)

-- the tenth part needs a digit less
tenth-less : (m i : ℕ) → m < 10 ^ (i + 2) → m / 10 < 10 ^ (i + 1)
tenth-less m i h =
    let e : i + 2 ≡ suc (i + 1) = omega arith in
    let p : m < 10 ^ (i + 1) * 10 = rw (e, pow-suc) at h in
    (div-lt_iff_lt-mul {k = 10} (omega arith)).1 p

-- a number below a power of ten has no more digits
pub decimal-length : (k n : ℕ) → n < 10 ^ (k + 1) → length (decimal n) ≤ k + 1
decimal-length zero n h = length-by 0 n (ltb n 10) refl (λ (m : 9 < n). absurd (omega arith))
decimal-length (suc k) n h =
    let e : suc k + 1 ≡ k + 2 = omega arith in
    let t : n / 10 < 10 ^ (k + 1) = tenth-less n k (rw e at h) in
    let l = length-by (suc k) n (ltb n 10) refl (λ (m : 9 < n). let d = decimal-length k (n / 10) t in omega arith) in
    omega arith

word-length : (k n : ℕ) → n < 10 ^ (k + 1) → length (number_word n) ≤ k + 2
word-length k n h = let d = decimal-length k n h in omega arith

pub hex-length : (k n : ℕ) → length (hex_digits k n) ≡ k
unfolding hex_digits
hex-length zero n = refl
hex-length (suc k) n =
    rw (length-append (hex_digits k (n / 16)) (hex_digit (n % 16) ∷ []), hex-length k (n / 16)) (omega arith)

name-by : (b : Bool) (code : ℕ) → length (pick b (0x20 ∷ bytes_of Big 4 code) (hex_word code)) ≤ 9
name-by true code = omega arith
name-by false code = let h = hex-length 8 code in omega arith

verdict-length : (v : Verdict) → length (verdict_word (verdict_said v)) ≤ 8
unfolding decimal decimal_by
verdict-length Good = omega arith
verdict-length Unknown = omega arith
verdict-length (Malformed faults.Size) = omega arith
verdict-length (Malformed faults.Value) = omega arith
verdict-length (Malformed faults.Count) = omega arith
verdict-length (Malformed faults.Padding) = omega arith
verdict-length (Malformed faults.Text) = omega arith
verdict-length NotCovered = omega arith
verdict-length (Waits lacks.Packing t) = omega arith
verdict-length (Waits lacks.Rate t) = omega arith
verdict-length (Waits lacks.Scale t) = omega arith
verdict-length (Ready d) = omega arith

-- the length of a line whose numbers have at most k + 1 digits
module _ (k : ℕ) where
  pub count-length : (head : List ℕ) (n : ℕ) → n < 10 ^ (k + 1) → length (count_line head n) ≤ length head + k + 3
  unfolding count_line
  count-length head n h = let l = word-length k n h in simp length-append (omega arith)

  pub stretch-length : (head : List ℕ) (p n : ℕ) → p < 10 ^ (k + 1) → n < 10 ^ (k + 1) → length (stretch_line head p n) ≤ length head + k + k + 5
  unfolding stretch_line
  stretch-length head p n h j =
      let l = word-length k p h in
      let m = word-length k n j in
      simp length-append (omega arith)

  pub chunk-length : (p code size : ℕ) (says : Says) → p < 10 ^ (k + 1) → size < 10 ^ (k + 1) → length (verdict_word says) ≤ 8 →
      length (chunk_line p code size says) ≤ k + k + 27
  unfolding chunk_line
  chunk-length p code size says h j v =
      let l = word-length k p h in
      let m = word-length k size j in
      let n = name-by (is_known (kind_of code)) code in
      simp length-append (omega arith)

-- a text of at most 96 bytes shows them all
pub shows-all : (l : List ℕ) → length l ≤ 96 → shown (text_of l) ≡ l
shows-all l h = shown-text l ∙ take_all 96 l h

-- and no text says more
pub text-len : (l : List ℕ) → (text_of l).len ≤ 96
text-len l = rw (length-take 96 l) (omega arith)

-- the numbers of an item have 64 bits
abbrev pub Sized : Item → Type 0
Sized PastEnd = Unit {0}
Sized BadState = Unit {0}
Sized End = Unit {0}
Sized (Skipped p n cause) = (p < 2 ^ 64) × (n < 2 ^ 64)
Sized (Unfinished p n) = (p < 2 ^ 64) × (n < 2 ^ 64)
Sized (Chunk p code size v) = (p < 2 ^ 64) × (size < 2 ^ 64)

-- the text of an item's line shows the whole line
pub item-shown : (i : Item) → Sized i → shown (text_of (answer_line (item_said i))) ≡ answer_line (item_said i)
item-shown PastEnd h = shows-all [] (omega arith)
item-shown BadState h = shows-all [] (omega arith)
item-shown End h = shows-all [] (omega arith)
item-shown (Skipped p n cause) h = shows-all _ (omega (arith, stretch-length 19 (0x73 ∷ 0x6B ∷ 0x69 ∷ 0x70 ∷ []) p n (omega (arith, h.0)) (omega (arith, h.1))))
item-shown (Unfinished p n) h = shows-all _ (omega (arith, stretch-length 19 (0x63 ∷ 0x75 ∷ 0x74 ∷ []) p n (omega (arith, h.0)) (omega (arith, h.1))))
item-shown (Chunk p code size v) h = shows-all _ (omega (arith, chunk-length 19 p code size (verdict_said v) (omega (arith, h.0)) (omega (arith, h.1)) (verdict-length v)))

-- and so do those of the first and of the last line
pub first-shown : (o : Order) (n : ℕ) → n < 2 ^ 64 → shown (text_of (first_line o n)) ≡ first_line o n
first-shown Big n h = shows-all _ (omega (arith, count-length 19 (0x70 ∷ 0x78 ∷ 0x67 ∷ 0x66 ∷ 0x20 ∷ 0x62 ∷ 0x69 ∷ 0x67 ∷ []) n (omega arith)))
first-shown Little n h = shows-all _ (omega (arith, count-length 19 (0x70 ∷ 0x78 ∷ 0x67 ∷ 0x66 ∷ 0x20 ∷ 0x6C ∷ 0x69 ∷ 0x74 ∷ 0x74 ∷ 0x6C ∷ 0x65 ∷ []) n (omega arith)))

pub last-shown : (n : ℕ) → n < 2 ^ 64 → shown (text_of (last_line n)) ≡ last_line n
last-shown n h = shows-all _ (omega (arith, count-length 19 (0x65 ∷ 0x6E ∷ 0x64 ∷ []) n (omega arith)))

-- and those of the words of a dump
pub integer-shown : (z : ℤ) → SFits w64 z → shown (text_of (integer_word z)) ≡ integer_word z
integer-shown (pos n) f = shows-all _ (omega (arith, f.sfits, word-length 19 n (omega (arith, f.sfits))))
integer-shown (negsuc n) f = shows-all _ (omega (arith, f.sfits, word-length 19 (suc n) (omega (arith, f.sfits))))

pub hex-shown : (n : ℕ) → shown (text_of (hex_word n)) ≡ hex_word n
hex-shown n = shows-all _ (omega (arith, hex-length 8 n))

head-length : (which : Label) → length (head_of which) ≤ 9
head-length Time = omega arith
head-length Mark = omega arith
head-length Packing = omega arith
head-length Rate = omega arith
head-length Bandwidth = omega arith
head-length GroupBandwidth = omega arith
head-length Frequency = omega arith
head-length FullScale = omega arith
head-length TotalGain = omega arith
head-length FloatScale = omega arith
head-length GroupPacking = omega arith
head-length GroupFrequencies = omega arith
head-length GroupGains = omega arith
head-length Sum = omega arith
head-length Samples = omega arith
head-length Text = omega arith
head-length Value = omega arith
head-length Cause = omega arith

cause-length : (c : causes.Cause) → length (cause_word c) ≤ 10
cause-length Searching = omega arith
cause-length NoSync = omega arith
cause-length Large = omega arith
cause-length Uneven = omega arith

pub cause-shown : (c : causes.Cause) → shown (text_of (cause_word c)) ≡ cause_word c
cause-shown c = shows-all _ (omega (arith, cause-length c))

pub head-shown : (which : Label) → shown (text_of (head_of which)) ≡ head_of which
head-shown which = shows-all _ (omega (arith, head-length which))
