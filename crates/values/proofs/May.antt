-- Whether a record of the values may be written: the exact answer over the values, kind by kind.
use Prim.Native.Nat.{ℕ, ◌*◌}
use mathlib.Core.Path.{◌≡◌, refl, ap, ap₂, ◌∙◌}
use mathlib.Core.Bool.{Bool, true, false}
use mathlib.Core.List.{List}
use native.Mathlib.Nat.{mul_comm}
use native.Mathlib.Omega.{arith}
use borrow.Author.Tests.{ltb-true, ltb-false}
use lib.Dec.{ltb}
use lib.Ieee.{binary32, to_bits}
use lib.ListN.{length, take, length-append}
use lib.Seq.{take_all, length-take-le}
use mir.Syntax.{w32, w64}
use mir.Val.{of_z}
use Rattle.num.specs.Answer.{Answer, gives, refuses, then}
use Rattle.num.specs.Choice.{pick}
use Rattle.num.specs.declared.Order.{Order}
use Rattle.num.proofs.Laws.{bytes-length}
use Rattle.body.specs.Kind.{code_of, known, kind_in, kind_of}
use Rattle.body.specs.Table.{Row, sets, marks, leaves, samples, unknown, row}
use Rattle.body.specs.Verdict.{seen, verdict_by, verdict}
use Rattle.body.specs.declared.kinds.Kind.{Kind}
use Rattle.body.specs.declared.kinds.Kind.TheVariants.{SSNC, SSNR, SFNC, SFNR, GSNC, GFNC, SIQP, SR, BW, GCBW, BWOF, CF, DBFS, DBTG, FFS, GIQP, GCF, GRG, SOFH, EOFH, IQDC, TEXT, Unknown}
use Rattle.lay.specs.Numbers.{numbers_of}
use Rattle.lay.proofs.Numbers.{numbers_length}
use Rattle.writer.specs.Write.{may_by, may_write}
use Rattle.writer.proofs.Bodies.{body-length}
use Rattle.typed.specs.Groups.{at_most, packing_body, hertz_body, gains_body}
use Rattle.typed.proofs.Numbers.{band-size}
use Rattle.typed.proofs.Texts.{text-size}
use Rattle.roundtrip.proofs.Numbers.{one-length, bytes_one}
use Rattle.values.specs.Made.{Made, Fitting, body_of, size_of}
use Rattle.values.specs.Says.{judged, may, read_by}
use Rattle.values.proofs.Table.{values-said}

-- ---- the size

-- of sixteen values as many are taken as there are
used : {A : Type 0} (n : ℕ) (xs : List A) → length xs ≡ 16 → (b : Bool) → ltb 16 n ≡ b → length (take n xs) ≡ pick b 16 n
used n xs m true e = let h = ltb-true 16 n e in ap length (take_all n xs (omega arith)) ∙ m
used n xs m false e = let h = ltb-false 16 n e in length-take-le n xs (omega arith)

-- their bytes, w each
run-used : {A : Type 0} (o : Order) (w n : ℕ) (pattern : A → ℕ) (xs : List A) → length xs ≡ 16 →
    length (numbers_of o w pattern (take n xs)) ≡ w * at_most 16 n
run-used o w n pattern xs m =
    numbers_length o w pattern (take n xs)
    ∙ ap (λ (i : ℕ). i * w) (used n xs m (ltb 16 n) refl)
    ∙ mul_comm (at_most 16 n) w

-- The body that values make has the size that the table says.
pub body-size : (o : Order) (k : Kind) (v : Made k) → Fitting k v → length (body_of k o v) ≡ size_of k v
unfolding packing_body hertz_body gains_body
body-size o SSNC v f = body-length (bytes_one false o) 2 (one-length false o) o v.time v.numbers
body-size o SSNR v f = body-length (bytes_one false o) 2 (one-length false o) o v.time v.numbers
body-size o GSNC v f = body-length (bytes_one false o) 2 (one-length false o) o v.time v.numbers
body-size o SFNC v f = body-length (bytes_one true o) 4 (one-length true o) o v.time v.numbers
body-size o SFNR v f = body-length (bytes_one true o) 4 (one-length true o) o v.time v.numbers
body-size o GFNC v f = body-length (bytes_one true o) 4 (one-length true o) o v.time v.numbers
body-size o SIQP x f = bytes-length o 4 (of_z w32 x)
body-size o SR x f = bytes-length o 8 (of_z w64 x)
body-size o BW x f = bytes-length o 8 (of_z w64 x)
body-size o GCBW x f = bytes-length o 8 (of_z w64 x)
body-size o BWOF b f = band-size o b.width b.offset
body-size o CF x f = bytes-length o 8 (of_z w64 x)
body-size o DBFS x f = bytes-length o 4 (to_bits binary32 x)
body-size o DBTG x f = bytes-length o 4 (to_bits binary32 x)
body-size o FFS x f = bytes-length o 4 (to_bits binary32 x)
body-size o GIQP g f = simp (length-append, bytes-length) (omega (arith, run-used o 4 g.n (λ x. x) g.offsets f.0))
body-size o GCF g f = simp (length-append, bytes-length) (omega (arith, run-used o 8 g.n (of_z w64) g.values f.0))
body-size o GRG g f = simp (length-append, bytes-length) (omega (arith, run-used o 4 g.n (to_bits binary32) g.values f.0))
body-size o SOFH x f = bytes-length o 4 (of_z w32 x)
body-size o EOFH v f = refl
body-size o IQDC v f = refl
body-size o TEXT t f = text-size o t
body-size o Unknown v f = absurd v

-- ---- the verdict

-- an answer with its value left out is the verdict
seen-says : {A : Type 0} (j : Answer (Unit {0})) (x : A) → seen (then j (λ _. gives x)) ≡ j
seen-says (gives u) x = refl
seen-says (refuses n) x = refl

-- the verdict on a body is its reading with the value left out
verdict-by : (r : Row) (o : Order) (body : List ℕ) → verdict_by r o body ≡ seen (read_by r o body)
verdict-by (sets x hold read) o body = refl
verdict-by (marks read) o body = refl
verdict-by (leaves read) o body = refl
verdict-by (samples shape) o body = refl
verdict-by unknown o body = refl

-- A kind's type is the type of that kind and of no other.
pub code-back : (k : Kind) → kind_of (code_of k) ≡ k
unfolding known kind_in kind_of
code-back SSNC = refl
code-back SSNR = refl
code-back GSNC = refl
code-back SFNC = refl
code-back SFNR = refl
code-back GFNC = refl
code-back SIQP = refl
code-back SR = refl
code-back BW = refl
code-back GCBW = refl
code-back BWOF = refl
code-back CF = refl
code-back DBFS = refl
code-back DBTG = refl
code-back FFS = refl
code-back GIQP = refl
code-back GCF = refl
code-back GRG = refl
code-back SOFH = refl
code-back EOFH = refl
code-back IQDC = refl
code-back TEXT = refl
code-back Unknown = refl

-- The verdict on the body that values make is the verdict of the kind's row on the values.
pub values-judged : (o : Order) (k : Kind) (v : Made k) → Fitting k v → verdict o k (body_of k o v) ≡ judged k v
unfolding verdict
values-judged o k v f = verdict-by (row k) o (body_of k o v) ∙ ap seen (values-said o k v f) ∙ seen-says (judged k v) _

-- Whether a record of the values may be written, and with what number it is refused, is what the table says of the
-- values: 32 where the size is not good, then the number of the kind's row.
pub values-may : (o : Order) (k : Kind) (v : Made k) → Fitting k v → may_write o (code_of k) (body_of k o v) ≡ may k v
values-may o k v f =
    ap₂ may_by (ap (λ (j : Kind). verdict o j (body_of k o v)) (code-back k) ∙ values-judged o k v f) (body-size o k v f)
