-- The numbers with which the body table refuses: 11 to 15, and no other.
use Prim.Native.Nat.{ℕ, ◌+◌, ◌*◌, ◌-◌, ◌%◌, ◌≤◌}
use mathlib.Core.Path.{◌≡◌}
use mathlib.Core.Bool.{Bool, true, false}
use mathlib.Core.List.{List}
use native.Mathlib.Omega.{arith}
use lib.Dec.{eqb, ltb, leb}
use lib.Ieee.{binary32, of_bits, lt}
use lib.IntN.{ℤ, pos, nat_abs}
use lib.ListN.{length, take, drop}
use lib.Signed.{le_z}
use Rattle.num.specs.Answer.{Answer, gives, refuses, then}
use Rattle.num.specs.Choice.{pick, both}
use Rattle.num.specs.declared.Order.{Order}
use Rattle.text.specs.Utf8.{is_utf8}
use Rattle.body.specs.Check.{int32, int64, sized, allowed}
use Rattle.body.specs.Groups.{head_ok, offsets_ok, gains_ok, with_channels, listed, packed, tuned, amplified}
use Rattle.body.specs.Levels.{float32, is_finite, finite32}
use Rattle.body.specs.Numbers.{at_least}
use Rattle.body.specs.Plain.{zeros, padded, texts, text}
use Rattle.body.specs.Samples.{sample_bytes, timed_samples}
use Rattle.body.specs.Table.{Row, sets, marks, leaves, samples, unknown, row}
use Rattle.body.specs.Verdict.{seen, verdict_by, verdict}
use Rattle.body.specs.declared.kinds.Kind.{Kind}
use Rattle.body.specs.declared.kinds.Kind.TheVariants.{SSNC, SSNR, SFNC, SFNR, GSNC, GFNC, SIQP, SR, BW, GCBW, BWOF, CF, DBFS, DBTG, FFS, GIQP, GCF, GRG, SOFH, EOFH, IQDC, TEXT, Unknown}

-- an answer that, if it refuses, has one of these numbers
abbrev Faulty : {A : Type 0} → Answer A → Type 0
Faulty (gives a) = Unit {0}
Faulty (refuses n) = (11 ≤ n) × (n ≤ 15)

-- ---- what answers are made of

module _ {A : Type 0} where
  pick-faulty : (t : Bool) (a c : Answer A) → Faulty a → Faulty c → Faulty (pick t a c)
  pick-faulty true a c h k = h
  pick-faulty false a c h k = k

  sized-faulty : (k : ℕ) (b : List ℕ) (a : Answer A) → Faulty a → Faulty (sized k b a)
  sized-faulty k b a h = pick-faulty (eqb (length b) k) a (refuses 11) h (omega arith)

  allowed-faulty : (ok : Bool) (v : A) → Faulty (allowed ok v)
  allowed-faulty ok v = pick-faulty ok (gives v) (refuses 12) tt (omega arith)

  then-faulty : {B : Type 0} (a : Answer B) (f : B → Answer A) → Faulty a → ((x : B) → Faulty (f x)) → Faulty (then a f)
  then-faulty (gives x) f h k = k x
  then-faulty (refuses n) f h k = h

  seen-faulty : (a : Answer A) → Faulty a → Faulty (seen a)
  seen-faulty (gives x) h = tt
  seen-faulty (refuses n) h = h

  channels-faulty : (z : ℤ) (f : ℕ → Answer A) → ((n : ℕ) → Faulty (f n)) → Faulty (with_channels z f)
  channels-faulty z f h =
      pick-faulty (both (le_z (pos 1) z) (le_z z (pos 16))) (f (nat_abs z)) (refuses 13) (h (nat_abs z)) (omega arith)

  listed-faulty : (head value : ℕ) (o : Order) (b : List ℕ) (f : ℕ → Answer A) →
      ((n : ℕ) → Faulty (f n)) → Faulty (listed head value o b f)
  unfolding listed
  listed-faulty head value o b f h =
      pick-faulty (ltb (length b) head) (refuses 11) _ (omega arith)
      (channels-faulty (int32 o b 0) (λ n. sized (head + value * n) b (f n))
      (λ n. sized-faulty (head + value * n) b (f n) (h n)))

-- ---- how bodies are read

module _ (o : Order) (b : List ℕ) where
  finite-faulty : Faulty (finite32 o b)
  finite-faulty = sized-faulty 4 b _ (allowed-faulty (is_finite (float32 o b 0)) _)

  least-faulty : (least : ℤ) → Faulty (at_least least o b)
  least-faulty least = sized-faulty 8 b _ (allowed-faulty (le_z least (int64 o b 0)) _)

  timed-samples-faulty : (width : ℕ) → Faulty (timed_samples width o b)
  timed-samples-faulty width =
      pick-faulty (both (leb 8 (length b)) (eqb ((length b - 8) % width) 0)) _ (refuses 11) tt (omega arith)

  texts-faulty : (n : ℕ) → Faulty (texts b n)
  unfolding texts
  texts-faulty n =
      sized-faulty (4 + padded n) b _
      (pick-faulty (zeros (drop (4 + n) b)) _ (refuses 14)
      (pick-faulty (is_utf8 (take n (drop 4 b))) (gives n) (refuses 15) tt (omega arith))
      (omega arith))

  text-faulty : Faulty (text o b)
  unfolding text
  text-faulty =
      let z = int32 o b 0 in
      pick-faulty (ltb (length b) 4) (refuses 11) _ (omega arith)
      (pick-faulty (le_z (pos 0) z) (texts b (nat_abs z)) (refuses 11) (texts-faulty (nat_abs z)) (omega arith))

-- ---- the table

-- a row whose reading is so
abbrev Reads : Row → Type 0
Reads (sets x hold read) = (o : Order) (b : List ℕ) → Faulty (read o b)
Reads (marks read) = (o : Order) (b : List ℕ) → Faulty (read o b)
Reads (leaves read) = (o : Order) (b : List ℕ) → Faulty (read o b)
Reads (samples shape) = Unit {0}
Reads unknown = Unit {0}

reads : (k : Kind) → Reads (row k)
unfolding packed tuned amplified
reads SIQP = λ o b. sized-faulty 4 b _ (allowed-faulty (both (le_z (pos 0) (int32 o b 0)) (le_z (int32 o b 0) (pos 1))) _)
reads SR = λ o b. least-faulty o b (pos 1)
reads BW = λ o b. least-faulty o b (pos 0)
reads GCBW = λ o b. least-faulty o b (pos 0)
reads BWOF = λ o b. sized-faulty 16 b _ (allowed-faulty (le_z (pos 0) (int64 o b 0)) _)
reads CF = λ o b. sized-faulty 8 b (gives (int64 o b 0)) tt
reads DBFS = λ o b. then-faulty (finite32 o b) _ (finite-faulty o b) (λ x. tt)
reads DBTG = λ o b. then-faulty (finite32 o b) _ (finite-faulty o b) (λ x. tt)
reads FFS = λ o b. then-faulty (finite32 o b) _ (finite-faulty o b) (λ x. allowed-faulty (lt (of_bits binary32 0) x) _)
reads GIQP = λ o b.
    listed-faulty 12 4 o b (packed o b)
    (λ n. allowed-faulty (both (head_ok n (int32 o b 4) (int32 o b 8)) (offsets_ok o b n)) _)
reads GCF = λ o b. listed-faulty 4 8 o b (tuned o b) (λ n. tt)
reads GRG = λ o b. listed-faulty 4 4 o b (amplified o b) (λ n. allowed-faulty (gains_ok o b n) _)
reads SOFH = λ o b. sized-faulty 4 b (gives (int32 o b 0)) tt
reads EOFH = λ o b. sized-faulty 0 b (gives tt) tt
reads IQDC = λ o b. sized-faulty 0 b (gives tt) tt
reads TEXT = text-faulty
reads SSNC = tt
reads SSNR = tt
reads SFNC = tt
reads SFNR = tt
reads GSNC = tt
reads GFNC = tt
reads Unknown = tt

row-faulty : (r : Row) → Reads r → (o : Order) (b : List ℕ) → Faulty (verdict_by r o b)
row-faulty (sets x hold read) h o b = seen-faulty (read o b) (h o b)
row-faulty (marks read) h o b = seen-faulty (read o b) (h o b)
row-faulty (leaves read) h o b = seen-faulty (read o b) (h o b)
row-faulty (samples shape) h o b = seen-faulty (timed_samples (sample_bytes shape) o b) (timed-samples-faulty o b (sample_bytes shape))
row-faulty unknown h o b = tt

number-by : (a : Answer (Unit {0})) (n : ℕ) → Faulty a → a ≡ refuses n → (11 ≤ n) × (n ≤ 15)
number-by a n h e = rw e at h

-- A body that is refused, of whatever kind and in whatever order, is refused with a number of 11 to 15.
pub verdict-number : (o : Order) (k : Kind) (b : List ℕ) (n : ℕ) → verdict o k b ≡ refuses n → (11 ≤ n) × (n ≤ 15)
unfolding verdict
verdict-number o k b n e = number-by (verdict_by (row k) o b) n (row-faulty (row k) (reads k) o b) e
