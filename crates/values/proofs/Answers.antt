-- What each call answers that writes values: said of any call that meets its promise, from its arguments a, its answer r
-- and its arguments s as they are at the end. The values have the width of their types, as those of every call have.
use Prim.Native.Nat.{ℕ, ◌+◌, ◌≤◌}
use mathlib.Core.Path.{◌≡◌, sym, ap, ◌∙◌}
use mathlib.Core.List.{List}
use native.Mathlib.Omega.{arith}
use borrow.Author.Tests.{le-ltb}
use lib.Ieee.{Float}
use lib.IntN.{ℤ}
use lib.ListN.{length}
use Rattle.std.specs.Prelude.{Result, Ok}
use Rattle.num.specs.Answer.{gives, refuses, refusal}
use Rattle.num.specs.declared.Order.{Order}
use Rattle.frame.specs.Frames.{chunk_bytes}
use Rattle.body.specs.Kind.{code_of}
use Rattle.body.specs.Verdict.{verdict}
use Rattle.body.specs.declared.kinds.Kind.{Kind}
use Rattle.body.specs.declared.kinds.Kind.TheVariants as K
use Rattle.body.specs.declared.levels.Level.TheVariants.{FullScale, TotalGain, FloatFullScale}
use Rattle.body.specs.declared.numbers.Band.{Band}
use Rattle.writer.specs.Write.{write_by, write_of, written_out, written_said, laid_by}
use Rattle.writer.specs.declared.Unwritten.{Unwritten}
use Rattle.writer.proofs.Laws.{next-given, written}
use Rattle.writer.proofs.Theorems.{written-told}
use Rattle.values.specs.Made.{Timed, Made, Fitting, body_of, size_of}
use Rattle.values.specs.Says.{judged, may}
use Rattle.values.specs.Answers.{Answers}
use Rattle.values.proofs.May.{body-size, code-back, values-judged, values-may}
use Rattle.values.proofs.Back.{values-back}
use Rattle.typed.proofs.number.siqp.Reads as siqp
use Rattle.typed.proofs.number.sr.Reads as sr
use Rattle.typed.proofs.number.bw.Reads as bw
use Rattle.typed.proofs.number.gcbw.Reads as gcbw
use Rattle.typed.proofs.number.cf.Reads as cf
use Rattle.typed.proofs.number.sofh.Reads as sofh
use Rattle.typed.proofs.group.giqp.Reads as giqp
use Rattle.typed.proofs.group.gcf.Reads as gcf
use Rattle.typed.proofs.group.grg.Reads as grg
use Rattle.typed.proofs.band.bwof.Reads as bwof
use Rattle.typed.proofs.levels.level.Reads as level
use Rattle.typed.proofs.empty.eofh.Reads as eofh
use Rattle.typed.proofs.empty.iqdc.Reads as iqdc
use Rattle.typed.proofs.plain.text.Reads as text
use Rattle.writer.proofs.shorts.ssnc.Reads as ssnc
use Rattle.writer.proofs.shorts.ssnr.Reads as ssnr
use Rattle.writer.proofs.shorts.gsnc.Reads as gsnc
use Rattle.writer.proofs.patterns.sfnc.Reads as sfnc
use Rattle.writer.proofs.patterns.sfnr.Reads as sfnr
use Rattle.writer.proofs.patterns.gfnc.Reads as gfnc

-- ---- what follows from the answer of the raw call

module _ (o : Order) (k : Kind) (v : Made k) (fit : Fitting k v) (d : List ℕ) (place : ℕ) (r : Result ℕ Unwritten) (l : List ℕ)
    (met : (written_said r ≡ write_of o (code_of k) (body_of k o v) (length d) place) × (l ≡ written_out o (code_of k) (body_of k o v) d place)) where
  abbrev body : List ℕ
  body = body_of k o v

  answer-said : written_said r ≡ write_by (judged k v) (size_of k v) (length d) place
  answer-said =
      met.0
      ∙ ap (λ (j : Kind). write_by (verdict o j body) (length body) (length d) place) (code-back k)
      ∙ rw (values-judged o k v fit, body-size o k v fit)

  refused-said : (n : ℕ) → place ≤ length d → may k v ≡ refuses n → write_of o (code_of k) body (length d) place ≡ refuses n
  refused-said n h e = rw (le-ltb (length d) place h, values-may o k v fit, e)

  written-said : may k v ≡ gives tt → place + 12 + size_of k v ≤ length d → write_of o (code_of k) body (length d) place ≡ gives (place + 12 + size_of k v)
  written-said e h =
      let z = body-size o k v fit in
      written o (code_of k) body (length d) place (values-may o k v fit ∙ e) (omega arith)
      ∙ ap (λ (i : ℕ). gives (place + 12 + i)) z

  -- A call that answers as the raw call does on the body of the values answers as the table says of the values.
  pub answers : Answers k o v d place r l
  answers = record {
    said = answer-said;
    refused = λ n h e.
        let w = refused-said n h e in
        (ap refusal (met.0 ∙ w), met.1 ∙ ap (λ a. laid_by a d place (chunk_bytes o (code_of k) body)) w);
    written = λ e h.
        let w = written-said e h in
        (written-told r (Ok (place + 12 + size_of k v)) (met.0 ∙ w), met.1 ∙ ap (λ a. laid_by a d place (chunk_bytes o (code_of k) body)) w);
    back = λ next e. values-back o k v fit (next-given o (code_of k) body (length d) place next (sym met.0 ∙ ap written_said e)).0;
  }

-- ---- the calls

-- Each call answers as the table says of the values that it is given: here those that are given one value,
pub siqp-answers : (κs : _) (a : _) (r : _) (s : _) → siqp.Post κs a r s → Fitting K.SIQP a.1.0 →
    Answers K.SIQP a.0 a.1.0 a.1.1.0.now a.1.1.1.0 r s.1.1.0.now
siqp-answers κs a r s p f = answers a.0 K.SIQP a.1.0 f a.1.1.0.now a.1.1.1.0 r s.1.1.0.now p

pub sr-answers : (κs : _) (a : _) (r : _) (s : _) → sr.Post κs a r s → Fitting K.SR a.1.0 →
    Answers K.SR a.0 a.1.0 a.1.1.0.now a.1.1.1.0 r s.1.1.0.now
sr-answers κs a r s p f = answers a.0 K.SR a.1.0 f a.1.1.0.now a.1.1.1.0 r s.1.1.0.now p

pub bw-answers : (κs : _) (a : _) (r : _) (s : _) → bw.Post κs a r s → Fitting K.BW a.1.0 →
    Answers K.BW a.0 a.1.0 a.1.1.0.now a.1.1.1.0 r s.1.1.0.now
bw-answers κs a r s p f = answers a.0 K.BW a.1.0 f a.1.1.0.now a.1.1.1.0 r s.1.1.0.now p

pub gcbw-answers : (κs : _) (a : _) (r : _) (s : _) → gcbw.Post κs a r s → Fitting K.GCBW a.1.0 →
    Answers K.GCBW a.0 a.1.0 a.1.1.0.now a.1.1.1.0 r s.1.1.0.now
gcbw-answers κs a r s p f = answers a.0 K.GCBW a.1.0 f a.1.1.0.now a.1.1.1.0 r s.1.1.0.now p

pub cf-answers : (κs : _) (a : _) (r : _) (s : _) → cf.Post κs a r s → Fitting K.CF a.1.0 →
    Answers K.CF a.0 a.1.0 a.1.1.0.now a.1.1.1.0 r s.1.1.0.now
cf-answers κs a r s p f = answers a.0 K.CF a.1.0 f a.1.1.0.now a.1.1.1.0 r s.1.1.0.now p

pub sofh-answers : (κs : _) (a : _) (r : _) (s : _) → sofh.Post κs a r s → Fitting K.SOFH a.1.0 →
    Answers K.SOFH a.0 a.1.0 a.1.1.0.now a.1.1.1.0 r s.1.1.0.now
sofh-answers κs a r s p f = answers a.0 K.SOFH a.1.0 f a.1.1.0.now a.1.1.1.0 r s.1.1.0.now p

pub giqp-answers : (κs : _) (a : _) (r : _) (s : _) → giqp.Post κs a r s → Fitting K.GIQP a.1.0 →
    Answers K.GIQP a.0 a.1.0 a.1.1.0.now a.1.1.1.0 r s.1.1.0.now
giqp-answers κs a r s p f = answers a.0 K.GIQP a.1.0 f a.1.1.0.now a.1.1.1.0 r s.1.1.0.now p

pub gcf-answers : (κs : _) (a : _) (r : _) (s : _) → gcf.Post κs a r s → Fitting K.GCF a.1.0 →
    Answers K.GCF a.0 a.1.0 a.1.1.0.now a.1.1.1.0 r s.1.1.0.now
gcf-answers κs a r s p f = answers a.0 K.GCF a.1.0 f a.1.1.0.now a.1.1.1.0 r s.1.1.0.now p

pub grg-answers : (κs : _) (a : _) (r : _) (s : _) → grg.Post κs a r s → Fitting K.GRG a.1.0 →
    Answers K.GRG a.0 a.1.0 a.1.1.0.now a.1.1.1.0 r s.1.1.0.now
grg-answers κs a r s p f = answers a.0 K.GRG a.1.0 f a.1.1.0.now a.1.1.1.0 r s.1.1.0.now p

-- the call of the three level kinds, by the case of the level,
pub dbfs-answers : (κs : _) (a : _) (r : _) (s : _) → level.Post κs a r s → (x : Float) → a.1.0 ≡ FullScale x → Fitting K.DBFS x →
    Answers K.DBFS a.0 x a.1.1.0.now a.1.1.1.0 r s.1.1.0.now
dbfs-answers κs a r s p x e f = answers a.0 K.DBFS x f a.1.1.0.now a.1.1.1.0 r s.1.1.0.now (rw e at p)

pub dbtg-answers : (κs : _) (a : _) (r : _) (s : _) → level.Post κs a r s → (x : Float) → a.1.0 ≡ TotalGain x → Fitting K.DBTG x →
    Answers K.DBTG a.0 x a.1.1.0.now a.1.1.1.0 r s.1.1.0.now
dbtg-answers κs a r s p x e f = answers a.0 K.DBTG x f a.1.1.0.now a.1.1.1.0 r s.1.1.0.now (rw e at p)

pub ffs-answers : (κs : _) (a : _) (r : _) (s : _) → level.Post κs a r s → (x : Float) → a.1.0 ≡ FloatFullScale x → Fitting K.FFS x →
    Answers K.FFS a.0 x a.1.1.0.now a.1.1.1.0 r s.1.1.0.now
ffs-answers κs a r s p x e f = answers a.0 K.FFS x f a.1.1.0.now a.1.1.1.0 r s.1.1.0.now (rw e at p)

-- BWOF, from two values,
pub bwof-answers : (κs : _) (a : _) (r : _) (s : _) → bwof.Post κs a r s → let b : Band = record { width = a.1.0; offset = a.1.1.0 } in Fitting K.BWOF b →
    Answers K.BWOF a.0 b a.1.1.1.0.now a.1.1.1.1.0 r s.1.1.1.0.now
bwof-answers κs a r s p f = answers a.0 K.BWOF _ f a.1.1.1.0.now a.1.1.1.1.0 r s.1.1.1.0.now p

-- EOFH and IQDC, from none,
pub eofh-answers : (κs : _) (a : _) (r : _) (s : _) → eofh.Post κs a r s →
    Answers K.EOFH a.0 tt a.1.0.now a.1.1.0 r s.1.0.now
eofh-answers κs a r s p = answers a.0 K.EOFH tt tt a.1.0.now a.1.1.0 r s.1.0.now p

pub iqdc-answers : (κs : _) (a : _) (r : _) (s : _) → iqdc.Post κs a r s →
    Answers K.IQDC a.0 tt a.1.0.now a.1.1.0 r s.1.0.now
iqdc-answers κs a r s p = answers a.0 K.IQDC tt tt a.1.0.now a.1.1.0 r s.1.0.now p

-- TEXT, from its bytes,
pub text-answers : (κs : _) (a : _) (r : _) (s : _) → text.Post κs a r s →
    Answers K.TEXT a.0 a.1.0.now a.1.1.0.now a.1.1.1.0 r s.1.1.0.now
text-answers κs a r s p = answers a.0 K.TEXT a.1.0.now tt a.1.1.0.now a.1.1.1.0 r s.1.1.0.now p

-- and the six data kinds, from a time and numbers.
pub ssnc-answers : (κs : _) (a : _) (r : _) (s : _) → ssnc.Post κs a r s → let v : Timed ℤ = record { time = a.1.0; numbers = a.1.1.0.now } in Fitting K.SSNC v →
    Answers K.SSNC a.0 v a.1.1.1.0.now a.1.1.1.1.0 r s.1.1.1.0.now
ssnc-answers κs a r s p f = answers a.0 K.SSNC _ f a.1.1.1.0.now a.1.1.1.1.0 r s.1.1.1.0.now p

pub ssnr-answers : (κs : _) (a : _) (r : _) (s : _) → ssnr.Post κs a r s → let v : Timed ℤ = record { time = a.1.0; numbers = a.1.1.0.now } in Fitting K.SSNR v →
    Answers K.SSNR a.0 v a.1.1.1.0.now a.1.1.1.1.0 r s.1.1.1.0.now
ssnr-answers κs a r s p f = answers a.0 K.SSNR _ f a.1.1.1.0.now a.1.1.1.1.0 r s.1.1.1.0.now p

pub gsnc-answers : (κs : _) (a : _) (r : _) (s : _) → gsnc.Post κs a r s → let v : Timed ℤ = record { time = a.1.0; numbers = a.1.1.0.now } in Fitting K.GSNC v →
    Answers K.GSNC a.0 v a.1.1.1.0.now a.1.1.1.1.0 r s.1.1.1.0.now
gsnc-answers κs a r s p f = answers a.0 K.GSNC _ f a.1.1.1.0.now a.1.1.1.1.0 r s.1.1.1.0.now p

pub sfnc-answers : (κs : _) (a : _) (r : _) (s : _) → sfnc.Post κs a r s → let v : Timed ℕ = record { time = a.1.0; numbers = a.1.1.0.now } in Fitting K.SFNC v →
    Answers K.SFNC a.0 v a.1.1.1.0.now a.1.1.1.1.0 r s.1.1.1.0.now
sfnc-answers κs a r s p f = answers a.0 K.SFNC _ f a.1.1.1.0.now a.1.1.1.1.0 r s.1.1.1.0.now p

pub sfnr-answers : (κs : _) (a : _) (r : _) (s : _) → sfnr.Post κs a r s → let v : Timed ℕ = record { time = a.1.0; numbers = a.1.1.0.now } in Fitting K.SFNR v →
    Answers K.SFNR a.0 v a.1.1.1.0.now a.1.1.1.1.0 r s.1.1.1.0.now
sfnr-answers κs a r s p f = answers a.0 K.SFNR _ f a.1.1.1.0.now a.1.1.1.1.0 r s.1.1.1.0.now p

pub gfnc-answers : (κs : _) (a : _) (r : _) (s : _) → gfnc.Post κs a r s → let v : Timed ℕ = record { time = a.1.0; numbers = a.1.1.0.now } in Fitting K.GFNC v →
    Answers K.GFNC a.0 v a.1.1.1.0.now a.1.1.1.1.0 r s.1.1.1.0.now
gfnc-answers κs a r s p f = answers a.0 K.GFNC _ f a.1.1.1.0.now a.1.1.1.1.0 r s.1.1.1.0.now p
