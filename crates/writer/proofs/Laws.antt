-- Laws of a header, and of what the writer answers.
use Prim.Native.Nat.{ℕ, ◌+◌, ◌-◌, ◌%◌, ◌≤◌}
use mathlib.Core.Path.{◌≡◌, refl, ap, ◌∙◌}
use mathlib.Core.Bool.{Bool, true, false}
use mathlib.Core.List.{List, [], ◌∷◌, ◌++◌, append_assoc, append-nil}
use native.Mathlib.Omega.{arith}
use lib.Dec.{ltb, leb, eqb}
use lib.ListN.{length, length-append}
use borrow.Author.Tests.{le-ltb, ltb-false, leb-true}
use Rattle.num.specs.Answer.{Answer, gives, refuses, then}
use Rattle.num.specs.Choice.{pick}
use Rattle.num.specs.Number.{bytes_of}
use Rattle.num.specs.declared.Order.{Order}
use Rattle.num.proofs.Laws.{bytes-length}
use Rattle.num.proofs.Tests.{both-true}
use Rattle.lay.specs.Runs.{run_of}
use Rattle.lay.specs.Splice.{splice, overlaid}
use Rattle.lay.proofs.Splice.{laid-first, laid-on}
use Rattle.frame.specs.Frames.{chunk_bytes}
use Rattle.frame.specs.Place.{sync_bytes, good_size}
use Rattle.body.specs.Kind.{kind_of}
use Rattle.body.specs.Verdict.{verdict}
use Rattle.writer.specs.Inner.Write.{header_bytes}
use Rattle.writer.specs.Write.{may_by, write_by, may_write, write_of}

-- ---- a header

pub header-length : (o : Order) (code size : ℕ) → length (header_bytes o code size) ≡ 12
header-length o code size = simp (length-append, bytes-length) (omega arith)

-- three words are a header
header-run : (o : Order) (code size : ℕ) → run_of (bytes_of o 4) (0xA1B2C3D4 ∷ code ∷ size ∷ []) ≡ header_bytes o code size
unfolding run_of
header-run o code size = rw (append-nil (bytes_of o 4 size))

pub header-laid : (o : Order) (code size place : ℕ) (d l : List ℕ) → place + 12 ≤ length d → l ≡ overlaid d place (run_of (bytes_of o 4) (0xA1B2C3D4 ∷ code ∷ size ∷ [])) →
    l ≡ splice d place (header_bytes o code size)
header-laid o code size place d l h e =
    let n = header-length o code size in
    laid-first d l place (header_bytes o code size) (omega arith) (e ∙ ap (overlaid d place) (header-run o code size))

-- what follows a header stands behind its size
pub after-header : (o : Order) (code size : ℕ) (l : List ℕ) → header_bytes o code size ++ l ≡ sync_bytes o ++ (bytes_of o 4 code ++ (bytes_of o 4 size ++ l))
after-header o code size l = simp append_assoc

-- header and body, laid one after the other, are a chunk
pub chunk-laid : (o : Order) (code place : ℕ) (body d l m : List ℕ) → place + 12 + length body ≤ length d → l ≡ splice d place (header_bytes o code (length body)) → m ≡ overlaid l (place + 12) body →
    m ≡ splice d place (chunk_bytes o code body)
chunk-laid o code place body d l m h e f =
    let n = header-length o code (length body) in
    laid-on place d l m (header_bytes o code (length body)) body (place + 12) (omega arith) (omega arith) e f ∙ ap (splice d place) (after-header o code (length body) body)

pub ruleset laid = (header-laid, chunk-laid)

-- ---- a record that is written

taken-by : (v : Answer (Unit {0})) (g : Bool) → pick g v (refuses 32) ≡ gives tt → g ≡ true
taken-by v true e = refl
taken-by v false e = let z : ◌≡◌ {A = ℕ} 0 1 = cc in absurd (omega arith)

pub taken-size : (o : Order) (code : ℕ) (body : List ℕ) → may_write o code body ≡ gives tt → good_size (length body) ≡ true
taken-size o code body e = taken-by (verdict o (kind_of code) body) (good_size (length body)) e

good-limit : (n : ℕ) → good_size n ≡ true → n ≤ 69632
good-limit n e = leb-true n 69632 (both-true (leb n 69632) (eqb (n % 4) 0) e).0

given-by : (v : Answer (Unit {0})) (a b : Bool) (n m : ℕ) → pick a (refuses 2) (then v (λ _. pick b (refuses 31) (gives n))) ≡ gives m →
    (a ≡ false) × (v ≡ gives tt) × (b ≡ false)
given-by v true b n m e = let z : ◌≡◌ {A = ℕ} 0 1 = cc in absurd (omega arith)
given-by (refuses k) false b n m e = let z : ◌≡◌ {A = ℕ} 0 1 = cc in absurd (omega arith)
given-by (gives u) false true n m e = let z : ◌≡◌ {A = ℕ} 0 1 = cc in absurd (omega arith)
given-by (gives u) false false n m e = (refl, refl, refl)

-- a next place is given only where the record may be written and there is room
next-by : (judged : Answer (Unit {0})) (size whole place next : ℕ) → write_by judged size whole place ≡ gives next →
    (may_by judged size ≡ gives tt) × (place + 12 + size ≤ whole)
next-by judged size whole place next e =
    let h = given-by (may_by judged size) (ltb whole place) (ltb (whole - place) (12 + size)) (place + 12 + size) next e in
    (h.1, omega (arith, ltb-false whole place h.0, ltb-false (whole - place) (12 + size) h.2))

pub next-given : (o : Order) (code : ℕ) (body : List ℕ) (whole place next : ℕ) → write_of o code body whole place ≡ gives next →
    (may_write o code body ≡ gives tt) × (place + 12 + length body ≤ whole)
next-given o code body whole place next e = next-by (verdict o (kind_of code) body) (length body) whole place next e

-- and is given where the record may be written and there is room
pub written : (o : Order) (code : ℕ) (body : List ℕ) (whole place : ℕ) → may_write o code body ≡ gives tt → place + 12 + length body ≤ whole →
    write_of o code body whole place ≡ gives (place + 12 + length body)
written o code body whole place e h = rw (le-ltb whole place (omega arith), e, le-ltb (whole - place) (12 + length body) (omega arith))
