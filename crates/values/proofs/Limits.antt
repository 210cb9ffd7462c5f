-- The numbers with which values are refused, 32 among them, in plain tests of the values: 32 comes of texts and samples
-- that are too long, and of 16-bit numbers that do not fill whole words, and of nothing else.
use Prim.Native.Nat.{ℕ, ◌+◌, ◌*◌, ◌%◌, ◌^◌, ◌≤◌}
use mathlib.Core.Path.{◌≡◌, refl, ◌∙◌}
use mathlib.Core.Bool.{Bool, true, false}
use mathlib.Core.List.{List}
use native.Mathlib.Nat.{add-mul-mod_self_left}
use native.Mathlib.Omega.{arith}
use borrow.Author.Tests.{eq-eqb, lt-ltb, le-leb, lt-leb, leb-true, leb-false, eqb-true, ltb-false}
use lib.Dec.{eqb, leb, ltb}
use lib.IntN.{ℤ}
use lib.ListN.{length}
use Rattle.std.specs.Cmp.{both_ways}
use Rattle.std.specs.Prelude.{None}
use Rattle.num.specs.Answer.{Answer, refuses}
use Rattle.num.specs.Choice.{pick, both}
use Rattle.num.proofs.Tests.{both-whole}
use Rattle.text.specs.Utf8.{is_utf8}
use Rattle.frame.specs.Place.{good_size}
use Rattle.body.specs.Plain.{padded}
use Rattle.body.specs.Table.{shaped}
use Rattle.body.specs.declared.kinds.Kind.{Kind}
use Rattle.body.specs.declared.kinds.Kind.TheVariants.{SSNC, SSNR, SFNC, SFNR, GSNC, GFNC, SIQP, SR, BW, GCBW, BWOF, CF, DBFS, DBTG, FFS, GIQP, GCF, GRG, SOFH, EOFH, IQDC, TEXT, Unknown}
use Rattle.writer.specs.Write.{may_by}
use Rattle.typed.specs.Groups.{at_most}
use Rattle.values.specs.Made.{Timed, Made, size_of}
use Rattle.values.specs.Says.{unless, whole, judged, may}
use Rattle.values.proofs.Samples.{whole-same}

-- ---- the kinds of few bytes

good-size : (n : ℕ) → n ≤ 69632 → n % 4 ≡ 0 → good_size n ≡ true
good-size n h e = rw (le-leb n 69632 h, eq-eqb (n % 4) 0 e)

at-most : (n : ℕ) (b : Bool) → ltb 16 n ≡ b → pick b 16 n ≤ 16
at-most n true e = omega arith
at-most n false e = ltb-false 16 n e

few : (n : ℕ) → at_most 16 n ≤ 16
few n = at-most n (ltb 16 n) refl

never-large : (k : Kind) → shaped k ≡ None → (k ≡ TEXT → ⊥) → (v : Made k) → good_size (size_of k v) ≡ true
unfolding shaped
never-large SSNC e h v = let z : ◌≡◌ {A = ℕ} 0 1 = cc in absurd (omega arith)
never-large SSNR e h v = let z : ◌≡◌ {A = ℕ} 0 1 = cc in absurd (omega arith)
never-large GSNC e h v = let z : ◌≡◌ {A = ℕ} 0 1 = cc in absurd (omega arith)
never-large SFNC e h v = let z : ◌≡◌ {A = ℕ} 0 1 = cc in absurd (omega arith)
never-large SFNR e h v = let z : ◌≡◌ {A = ℕ} 0 1 = cc in absurd (omega arith)
never-large GFNC e h v = let z : ◌≡◌ {A = ℕ} 0 1 = cc in absurd (omega arith)
never-large SIQP e h v = refl
never-large SR e h v = refl
never-large BW e h v = refl
never-large GCBW e h v = refl
never-large BWOF e h v = refl
never-large CF e h v = refl
never-large DBFS e h v = refl
never-large DBTG e h v = refl
never-large FFS e h v = refl
never-large SOFH e h v = refl
never-large EOFH e h v = refl
never-large IQDC e h v = refl
never-large Unknown e h v = refl
never-large GIQP e h g = let a = few g.n in good-size (12 + 4 * at_most 16 g.n) (omega arith) (omega arith)
never-large GCF e h g = let a = few g.n in good-size (4 + 8 * at_most 16 g.n) (omega arith) (omega arith)
never-large GRG e h g = let a = few g.n in good-size (4 + 4 * at_most 16 g.n) (omega arith) (omega arith)
never-large TEXT e h t = absurd (h refl)

-- Of a kind that has no samples, and is not TEXT, values may be written or are refused just as their row says: never
-- with 32.
pub row-may : (k : Kind) (v : Made k) → shaped k ≡ None → (k ≡ TEXT → ⊥) → may k v ≡ judged k v
row-may k v e h = rw (never-large k e h v)

-- ---- two tests that say the same

leb-same : (a b c d : ℕ) → (a ≤ b → c ≤ d) → (c ≤ d → a ≤ b) → leb a b ≡ leb c d
leb-same a b c d f g = both_ways (leb a b) (leb c d) (λ e. le-leb c d (f (leb-true a b e))) (λ e. le-leb a b (g (leb-true c d e)))

-- ---- TEXT

text-by : (n : ℕ) (j : Answer (Unit {0})) (t : Bool) → leb n 69628 ≡ t →
    may_by (pick (ltb n (2 ^ 31)) j (refuses 11)) (4 + padded n) ≡ pick t j (refuses 32)
text-by n j true e =
    let h = leb-true n 69628 e in
    rw (good-size (4 + padded n) (omega arith) (omega arith), lt-ltb n (2 ^ 31) (omega arith))
text-by n j false e =
    let h = leb-false n 69628 e in
    rw (lt-leb (4 + padded n) 69632 (omega arith))

-- A text of more than 69,628 bytes is refused with 32, then one that is not UTF-8 with 15; the others may be written.
pub text-may : (t : List ℕ) → may TEXT t ≡ pick (leb (length t) 69628) (unless 15 (is_utf8 t)) (refuses 32)
text-may t = text-by (length t) (unless 15 (is_utf8 t)) (leb (length t) 69628) refl

-- ---- samples

-- numbers of 16 bits: an even number of them fills words
shorts-words : (n : ℕ) → eqb ((8 + n * 2) % 4) 0 ≡ eqb (n % 2) 0
shorts-words n =
    let e : 8 + n * 2 ≡ n * 2 + 4 * 2 = omega arith in
    rw (e, add-mul-mod_self_left (n * 2) 4 2) (whole-same 2 2 (omega arith) n)

shorts-good : (n : ℕ) → good_size (8 + n * 2) ≡ both (leb n 34812) (eqb (n % 2) 0)
shorts-good n = rw (leb-same (8 + n * 2) 69632 n 34812 (λ h. omega arith) (λ h. omega arith), shorts-words n)

patterns-good : (n : ℕ) → good_size (8 + n * 4) ≡ leb n 17406
patterns-good n = rw (eq-eqb ((8 + n * 4) % 4) 0 (omega arith), leb-same (8 + n * 4) 69632 n 17406 (λ h. omega arith) (λ h. omega arith)) (both-whole (leb n 17406))

-- where the numbers fill words they are whole samples
filled-by : (n per : ℕ) (a b : Bool) → eqb (n % 2) 0 ≡ b → (n % 2 ≡ 0 → n % per ≡ 0) →
    pick (both a b) (unless 11 (eqb (n % per) 0)) (refuses 32) ≡ unless 32 (both a b)
filled-by n per true true e f = rw (eq-eqb (n % per) 0 (f (eqb-true (n % 2) 0 e)))
filled-by n per true false e f = refl
filled-by n per false b e f = refl

shorts-may : (per : ℕ) (v : Timed ℤ) → let n : ℕ = length v.numbers in (n % 2 ≡ 0 → n % per ≡ 0) →
    may_by (whole per v) (8 + n * 2) ≡ unless 32 (both (leb n 34812) (eqb (n % 2) 0))
shorts-may per v f =
    let n = length v.numbers in
    rw (shorts-good n) (filled-by n per (leb n 34812) (eqb (n % 2) 0) refl f)

patterns-may : (per : ℕ) (v : Timed ℕ) → let n : ℕ = length v.numbers in
    may_by (whole per v) (8 + n * 4) ≡ pick (leb n 17406) (unless 11 (eqb (n % per) 0)) (refuses 32)
patterns-may per v = rw (patterns-good (length v.numbers))

-- SSNC, SSNR and GSNC: up to 34,812 numbers, an even number of them, may be written, and any others are refused with 32.
pub ssnc-may : (v : Timed ℤ) → may SSNC v ≡ unless 32 (both (leb (length v.numbers) 34812) (eqb (length v.numbers % 2) 0))
ssnc-may v = shorts-may 2 v (λ h. h)

pub ssnr-may : (v : Timed ℤ) → may SSNR v ≡ unless 32 (both (leb (length v.numbers) 34812) (eqb (length v.numbers % 2) 0))
ssnr-may v = shorts-may 1 v (λ h. omega arith)

pub gsnc-may : (v : Timed ℤ) → may GSNC v ≡ unless 32 (both (leb (length v.numbers) 34812) (eqb (length v.numbers % 2) 0))
gsnc-may v = shorts-may 2 v (λ h. h)

-- SFNC and GFNC: more than 17,406 patterns are refused with 32, then an odd number of them with 11.
pub sfnc-may : (v : Timed ℕ) → may SFNC v ≡ pick (leb (length v.numbers) 17406) (unless 11 (eqb (length v.numbers % 2) 0)) (refuses 32)
sfnc-may v = patterns-may 2 v

pub gfnc-may : (v : Timed ℕ) → may GFNC v ≡ pick (leb (length v.numbers) 17406) (unless 11 (eqb (length v.numbers % 2) 0)) (refuses 32)
gfnc-may v = patterns-may 2 v

-- SFNR: up to 17,406 patterns may be written, and more are refused with 32.
pub sfnr-may : (v : Timed ℕ) → may SFNR v ≡ unless 32 (leb (length v.numbers) 17406)
sfnr-may v =
    let n = length v.numbers in
    patterns-may 1 v ∙ rw (eq-eqb (n % 1) 0 (omega arith))
