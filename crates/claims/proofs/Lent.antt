-- A refused call leaves what it was lent: one statement over all calls of the library that are lent a slice to fill. And what goes
-- with a refusal.
use Prim.Native.Nat.{ℕ, ◌+◌, ◌<◌}
use mathlib.Core.Path.{◌≡◌, refl, ap, sym, ◌∙◌}
use mathlib.Core.Bool.{Bool, true, false, not}
use mathlib.Core.List.{List}
use native.Mathlib.Omega.{arith}
use borrow.Author.Tests.{not-true, eqb-true}
use lib.Dec.{eqb}
use lib.ListN.{length}
use Rattle.std.specs.Prelude.{Result, Ok, Err}
use Rattle.num.specs.Answer.{Answer, gives, refuses, reply_with, then}
use Rattle.num.specs.declared.Order.{Order}
use Rattle.bench.specs.Plain.{order_by}
use Rattle.bench.proofs.bench_patterns.Reads as bench_patterns_reads
use Rattle.bench.proofs.bench_shorts.Reads as bench_shorts_reads
use Rattle.bench.proofs.bench_write.Reads as bench_write_reads
use Rattle.copy.proofs.sample.U32Sample.pairs.Reads as pattern_pairs
use Rattle.copy.proofs.sample.U32Sample.reals.Reads as pattern_reals
use Rattle.copy.proofs.sample.I16Sample.pairs.Reads as short_pairs
use Rattle.copy.proofs.sample.I16Sample.reals.Reads as short_reals
use Rattle.lay.proofs.bytes.Reads as bytes
use Rattle.lay.proofs.run.Reads as run
use Rattle.lister.specs.Listed.{needs, listed}
use Rattle.lister.specs.declared.Needs.{Needs}
use Rattle.lister.proofs.Theorems.{needs-told}
use Rattle.lister.proofs.Promises.{lay-no-room}
use Rattle.lister.proofs.lay.Reads as listing
use Rattle.reader.specs.Step.{new_cursor, after}
use Rattle.reader.specs.declared.Cursor.{Cursor}
use Rattle.samples.specs.Copy.{copied_said, copied_reply, layout_at, count_within, count_of, filled}
use Rattle.samples.specs.declared.Layout.{Layout}
use Rattle.samples.specs.declared.Uncopied.{Uncopied}
use Rattle.samples.proofs.First.{first-numbers}
use Rattle.samples.proofs.patterns.patterns_at.Reads as patterns_at_reads
use Rattle.samples.proofs.patterns.patterns_of.Reads as patterns_of_reads
use Rattle.samples.proofs.shorts.shorts_at.Reads as shorts_at_reads
use Rattle.samples.proofs.shorts.shorts_of.Reads as shorts_of_reads
use Rattle.typed.proofs.band.bwof.Reads as bwof
use Rattle.typed.proofs.empty.eofh.Reads as eofh
use Rattle.typed.proofs.empty.iqdc.Reads as iqdc
use Rattle.typed.proofs.group.gcf.Reads as gcf
use Rattle.typed.proofs.group.giqp.Reads as giqp
use Rattle.typed.proofs.group.grg.Reads as grg
use Rattle.typed.proofs.levels.level.Reads as level
use Rattle.typed.proofs.number.bw.Reads as bw
use Rattle.typed.proofs.number.cf.Reads as cf
use Rattle.typed.proofs.number.gcbw.Reads as gcbw
use Rattle.typed.proofs.number.siqp.Reads as siqp
use Rattle.typed.proofs.number.sofh.Reads as sofh
use Rattle.typed.proofs.number.sr.Reads as sr
use Rattle.typed.proofs.plain.text.Reads as text
use Rattle.writer.specs.Write.{write_of, written_out, written_said, written_reply}
use Rattle.writer.specs.declared.Unwritten.{Unwritten}
use Rattle.writer.proofs.Laws.{next-given, written}
use Rattle.writer.proofs.patterns.gfnc.Reads as gfnc
use Rattle.writer.proofs.patterns.sfnc.Reads as sfnc
use Rattle.writer.proofs.patterns.sfnr.Reads as sfnr
use Rattle.writer.proofs.shorts.gsnc.Reads as gsnc
use Rattle.writer.proofs.shorts.ssnc.Reads as ssnc
use Rattle.writer.proofs.shorts.ssnr.Reads as ssnr
use Rattle.writer.proofs.write.Reads as write
use Rattle.claims.proofs.Promise.{NumberType}

-- an answer is a refusal
abbrev pub is_refusal : {A : Type 0} → Answer A → Bool
is_refusal (gives a) = false
is_refusal (refuses n) = true

-- the answer says that there is no room for the listing
abbrev pub is_need : Result ℕ Needs → Bool
is_need (Ok n) = false
is_need (Err e) = true

-- whatever meets a promise with an answer that refuses leaves in the slice what it held
abbrev pub Leaves : {K B : Type 0} {A R S : K → Type 0} → ((κs : K) → A κs → R κs → S κs → Type 0) → ((κs : K) → R κs → Bool) → ((κs : K) → A κs → B) → ((κs : K) → S κs → B) → Type 0
Leaves {K} {B} {A} {R} {S} Post refused held left = (κs : K) (a : A κs) (r : R κs) (s : S κs) → Post κs a r s → refused κs r ≡ true → left κs s ≡ held κs a

-- the calls that are lent a slice to fill, by crate: lay, copy, samples, writer, typed, lister, bench. lay_run stands for a call
-- with each type of numbers.
pub data Lent : Type 2 where
  lay_bytes : Lent
  lay_run : NumberType → Lent
  copy_short_pairs : Lent
  copy_pattern_pairs : Lent
  copy_short_reals : Lent
  copy_pattern_reals : Lent
  shorts_at : Lent
  patterns_at : Lent
  shorts_of : Lent
  patterns_of : Lent
  write_raw : Lent
  write_ssnc : Lent
  write_ssnr : Lent
  write_gsnc : Lent
  write_sfnc : Lent
  write_sfnr : Lent
  write_gfnc : Lent
  write_siqp : Lent
  write_sr : Lent
  write_bw : Lent
  write_gcbw : Lent
  write_cf : Lent
  write_sofh : Lent
  write_bwof : Lent
  write_level : Lent
  write_eofh : Lent
  write_iqdc : Lent
  write_giqp : Lent
  write_gcf : Lent
  write_grg : Lent
  write_text : Lent
  lay_listing : Lent
  bench_write : Lent
  bench_shorts : Lent
  bench_patterns : Lent

-- What counts as a refusal: false in lay and copy, Err in lister, 0 in bench, and elsewhere an answer that has a number.
abbrev pub LeavesLent : Lent → Type 0
LeavesLent lay_bytes = Leaves bytes.Post (λ κs r. not r) (λ κs a. a.1.0.now) (λ κs s. s.1.0.now)
LeavesLent (lay_run x) = Leaves (run.Post x.n x.T x.fits x.laws x.copy x.ghosts x.dict x.clone x.clone_dict) (λ κs r. not r) (λ κs a. a.1.1.0.now) (λ κs s. s.1.1.0.now)
LeavesLent copy_short_pairs = Leaves short_pairs.Post (λ κs r. not r) (λ κs a. a.1.1.1.1.0.now) (λ κs s. s.1.1.1.1.0.now)
LeavesLent copy_pattern_pairs = Leaves pattern_pairs.Post (λ κs r. not r) (λ κs a. a.1.1.1.1.0.now) (λ κs s. s.1.1.1.1.0.now)
LeavesLent copy_short_reals = Leaves short_reals.Post (λ κs r. not r) (λ κs a. a.1.1.1.1.0.now) (λ κs s. s.1.1.1.1.0.now)
LeavesLent copy_pattern_reals = Leaves pattern_reals.Post (λ κs r. not r) (λ κs a. a.1.1.1.1.0.now) (λ κs s. s.1.1.1.1.0.now)
LeavesLent shorts_at = Leaves shorts_at_reads.Post (λ κs r. is_refusal (copied_said r)) (λ κs a. a.1.1.1.1.0.now) (λ κs s. s.1.1.1.1.0.now)
LeavesLent patterns_at = Leaves patterns_at_reads.Post (λ κs r. is_refusal (copied_said r)) (λ κs a. a.1.1.1.1.0.now) (λ κs s. s.1.1.1.1.0.now)
LeavesLent shorts_of = Leaves shorts_of_reads.Post (λ κs r. is_refusal (copied_said r)) (λ κs a. a.1.1.1.1.0.now) (λ κs s. s.1.1.1.1.0.now)
LeavesLent patterns_of = Leaves patterns_of_reads.Post (λ κs r. is_refusal (copied_said r)) (λ κs a. a.1.1.1.1.0.now) (λ κs s. s.1.1.1.1.0.now)
LeavesLent write_raw = Leaves write.Post (λ κs r. is_refusal (written_said r)) (λ κs a. a.1.1.1.0.now) (λ κs s. s.1.1.1.0.now)
LeavesLent write_ssnc = Leaves ssnc.Post (λ κs r. is_refusal (written_said r)) (λ κs a. a.1.1.1.0.now) (λ κs s. s.1.1.1.0.now)
LeavesLent write_ssnr = Leaves ssnr.Post (λ κs r. is_refusal (written_said r)) (λ κs a. a.1.1.1.0.now) (λ κs s. s.1.1.1.0.now)
LeavesLent write_gsnc = Leaves gsnc.Post (λ κs r. is_refusal (written_said r)) (λ κs a. a.1.1.1.0.now) (λ κs s. s.1.1.1.0.now)
LeavesLent write_sfnc = Leaves sfnc.Post (λ κs r. is_refusal (written_said r)) (λ κs a. a.1.1.1.0.now) (λ κs s. s.1.1.1.0.now)
LeavesLent write_sfnr = Leaves sfnr.Post (λ κs r. is_refusal (written_said r)) (λ κs a. a.1.1.1.0.now) (λ κs s. s.1.1.1.0.now)
LeavesLent write_gfnc = Leaves gfnc.Post (λ κs r. is_refusal (written_said r)) (λ κs a. a.1.1.1.0.now) (λ κs s. s.1.1.1.0.now)
LeavesLent write_siqp = Leaves siqp.Post (λ κs r. is_refusal (written_said r)) (λ κs a. a.1.1.0.now) (λ κs s. s.1.1.0.now)
LeavesLent write_sr = Leaves sr.Post (λ κs r. is_refusal (written_said r)) (λ κs a. a.1.1.0.now) (λ κs s. s.1.1.0.now)
LeavesLent write_bw = Leaves bw.Post (λ κs r. is_refusal (written_said r)) (λ κs a. a.1.1.0.now) (λ κs s. s.1.1.0.now)
LeavesLent write_gcbw = Leaves gcbw.Post (λ κs r. is_refusal (written_said r)) (λ κs a. a.1.1.0.now) (λ κs s. s.1.1.0.now)
LeavesLent write_cf = Leaves cf.Post (λ κs r. is_refusal (written_said r)) (λ κs a. a.1.1.0.now) (λ κs s. s.1.1.0.now)
LeavesLent write_sofh = Leaves sofh.Post (λ κs r. is_refusal (written_said r)) (λ κs a. a.1.1.0.now) (λ κs s. s.1.1.0.now)
LeavesLent write_bwof = Leaves bwof.Post (λ κs r. is_refusal (written_said r)) (λ κs a. a.1.1.1.0.now) (λ κs s. s.1.1.1.0.now)
LeavesLent write_level = Leaves level.Post (λ κs r. is_refusal (written_said r)) (λ κs a. a.1.1.0.now) (λ κs s. s.1.1.0.now)
LeavesLent write_eofh = Leaves eofh.Post (λ κs r. is_refusal (written_said r)) (λ κs a. a.1.0.now) (λ κs s. s.1.0.now)
LeavesLent write_iqdc = Leaves iqdc.Post (λ κs r. is_refusal (written_said r)) (λ κs a. a.1.0.now) (λ κs s. s.1.0.now)
LeavesLent write_giqp = Leaves giqp.Post (λ κs r. is_refusal (written_said r)) (λ κs a. a.1.1.0.now) (λ κs s. s.1.1.0.now)
LeavesLent write_gcf = Leaves gcf.Post (λ κs r. is_refusal (written_said r)) (λ κs a. a.1.1.0.now) (λ κs s. s.1.1.0.now)
LeavesLent write_grg = Leaves grg.Post (λ κs r. is_refusal (written_said r)) (λ κs a. a.1.1.0.now) (λ κs s. s.1.1.0.now)
LeavesLent write_text = Leaves text.Post (λ κs r. is_refusal (written_said r)) (λ κs a. a.1.1.0.now) (λ κs s. s.1.1.0.now)
LeavesLent lay_listing = Leaves listing.Post (λ κs r. is_need r) (λ κs a. a.1.0.now) (λ κs s. s.1.0.now)
LeavesLent bench_write = Leaves bench_write_reads.Post (λ κs r. eqb r 0) (λ κs a. a.1.1.1.0.now) (λ κs s. s.1.1.1.0.now)
LeavesLent bench_shorts = Leaves bench_shorts_reads.Post (λ κs r. eqb r 0) (λ κs a. a.1.1.1.1.0.now) (λ κs s. s.1.1.1.1.0.now)
LeavesLent bench_patterns = Leaves bench_patterns_reads.Post (λ κs r. eqb r 0) (λ κs a. a.1.1.1.1.0.now) (λ κs s. s.1.1.1.1.0.now)

-- ---- by what a call answers

refuses-by : {A : Type 0} (a : Answer A) → is_refusal a ≡ true → (n : ℕ) × (a ≡ refuses n)
refuses-by (gives x) k = let z : ◌≡◌ {A = ℕ} 0 1 = cc in absurd (omega arith)
refuses-by (refuses n) k = (n, refl)

-- the rule refuses where the answer does
rule-refuses : {A : Type 0} {a : Answer A} (w : Answer A) → a ≡ w → is_refusal a ≡ true → (n : ℕ) × (w ≡ refuses n)
rule-refuses w e k = refuses-by w (ap is_refusal (sym e) ∙ k)

needs-by : (r : Result ℕ Needs) → is_need r ≡ true → (n : ℕ) × (r ≡ needs n)
needs-by (Ok n) k = let z : ◌≡◌ {A = ℕ} 0 1 = cc in absurd (omega arith)
needs-by (Err e) k = (e.0, refl)

-- where a record is written the next place is not 0, so a 0 says that none is
next-some : (o : Order) (code : ℕ) (body : List ℕ) (whole place next : ℕ) → write_of o code body whole place ≡ gives next → 0 < next
next-some o code body whole place next e =
    let g = next-given o code body whole place next e in
    let w : ◌≡◌ {A = Answer ℕ} (gives next) (gives (place + 12 + length body)) = sym e ∙ written o code body whole place g.0 g.1 in
    let n : next ≡ place + 12 + length body = cc in
    omega arith

zero-wrote : (o : Order) (code : ℕ) (body d l : List ℕ) (place : ℕ) (w : Answer ℕ) → write_of o code body (length d) place ≡ w → l ≡ written_out o code body d place → (reply_with 0 w).value ≡ 0 → l ≡ d
zero-wrote o code body d l place (gives next) e h z = absurd (omega (arith, next-some o code body (length d) place next e))
zero-wrote o code body d l place (refuses n) e h z = rw e at h

-- a copy of no number, or a refused one, leaves the slice
zero-copied : {X : Type 0} (value : ℕ → X) (was is : List X) (a : Answer Layout) (w : Answer ℕ) → then a (count_within (length was)) ≡ w → is ≡ filled (then a (count_within (length was))) a value was →
    (reply_with 0 w).value ≡ 0 → is ≡ was
zero-copied value was is a (gives n) e h z = rw z at (first-numbers value n was is a (sym e) h).rest
zero-copied value was is a (refuses n) e h z = rw e at h

zero-counted : {X : Type 0} (float : Bool) (o : Order) (s : List ℕ) (c : Cursor) (channel : ℕ) (value : ℕ → X) (was is : List X) →
    is ≡ filled (count_of float o s c channel (length was)) (layout_at float o s c channel) value was → (reply_with 0 (count_of float o s c channel (length was))).value ≡ 0 → is ≡ was
unfolding count_of
zero-counted float o s c channel value was is h z = zero-copied value was is (layout_at float o s c channel) _ refl h z

-- A call that refuses leaves the slice as it was, for each of them.
pub refused-leaves : (f : Lent) → LeavesLent f
refused-leaves lay_bytes = λ κs a r s p k. rw (sym p.0 ∙ not-true r k) at p.1
refused-leaves (lay_run x) = λ κs a r s p k. rw (sym p.0 ∙ not-true r k) at p.1
refused-leaves copy_short_pairs = λ κs a r s p k. rw (not-true r k) at p.1
refused-leaves copy_pattern_pairs = λ κs a r s p k. rw (not-true r k) at p.1
refused-leaves copy_short_reals = λ κs a r s p k. rw (not-true r k) at p.1
refused-leaves copy_pattern_reals = λ κs a r s p k. rw (not-true r k) at p.1
refused-leaves shorts_at = λ κs a r s p k. rw (rule-refuses _ p.0 k).1 at p.1
refused-leaves patterns_at = λ κs a r s p k. rw (rule-refuses _ p.0 k).1 at p.1
refused-leaves shorts_of = λ κs a r s p k. rw (rule-refuses _ p.0 k).1 at p.1
refused-leaves patterns_of = λ κs a r s p k. rw (rule-refuses _ p.0 k).1 at p.1
refused-leaves write_raw = λ κs a r s p k. rw (rule-refuses _ p.0 k).1 at p.1
refused-leaves write_ssnc = λ κs a r s p k. rw (rule-refuses _ p.0 k).1 at p.1
refused-leaves write_ssnr = λ κs a r s p k. rw (rule-refuses _ p.0 k).1 at p.1
refused-leaves write_gsnc = λ κs a r s p k. rw (rule-refuses _ p.0 k).1 at p.1
refused-leaves write_sfnc = λ κs a r s p k. rw (rule-refuses _ p.0 k).1 at p.1
refused-leaves write_sfnr = λ κs a r s p k. rw (rule-refuses _ p.0 k).1 at p.1
refused-leaves write_gfnc = λ κs a r s p k. rw (rule-refuses _ p.0 k).1 at p.1
refused-leaves write_siqp = λ κs a r s p k. rw (rule-refuses _ p.0 k).1 at p.1
refused-leaves write_sr = λ κs a r s p k. rw (rule-refuses _ p.0 k).1 at p.1
refused-leaves write_bw = λ κs a r s p k. rw (rule-refuses _ p.0 k).1 at p.1
refused-leaves write_gcbw = λ κs a r s p k. rw (rule-refuses _ p.0 k).1 at p.1
refused-leaves write_cf = λ κs a r s p k. rw (rule-refuses _ p.0 k).1 at p.1
refused-leaves write_sofh = λ κs a r s p k. rw (rule-refuses _ p.0 k).1 at p.1
refused-leaves write_bwof = λ κs a r s p k. rw (rule-refuses _ p.0 k).1 at p.1
refused-leaves write_level = λ κs a r s p k. rw (rule-refuses _ p.0 k).1 at p.1
refused-leaves write_eofh = λ κs a r s p k. rw (rule-refuses _ p.0 k).1 at p.1
refused-leaves write_iqdc = λ κs a r s p k. rw (rule-refuses _ p.0 k).1 at p.1
refused-leaves write_giqp = λ κs a r s p k. rw (rule-refuses _ p.0 k).1 at p.1
refused-leaves write_gcf = λ κs a r s p k. rw (rule-refuses _ p.0 k).1 at p.1
refused-leaves write_grg = λ κs a r s p k. rw (rule-refuses _ p.0 k).1 at p.1
refused-leaves write_text = λ κs a r s p k. rw (rule-refuses _ p.0 k).1 at p.1
refused-leaves lay_listing = λ κs a r s p k.
    let w = needs-by r k in
    (lay-no-room κs a r s p (needs-told (length (listed a.0.now)) (length a.1.0.now) w.0 (sym p.0 ∙ w.1)).1).1
refused-leaves bench_write = λ κs a r s p k. zero-wrote (order_by a.0) a.1.0 a.1.1.0.now a.1.1.1.0.now s.1.1.1.0.now a.1.1.1.1.0 _ refl p.1 (sym p.0 ∙ eqb-true r 0 k)
refused-leaves bench_shorts = λ κs a r s p k. zero-counted false (order_by a.0) a.1.0.now (after a.1.1.0 (order_by a.0) a.1.0.now new_cursor) a.1.1.1.0 _ a.1.1.1.1.0.now s.1.1.1.1.0.now p.1 (sym p.0 ∙ eqb-true r 0 k)
refused-leaves bench_patterns = λ κs a r s p k. zero-counted true (order_by a.0) a.1.0.now (after a.1.1.0 (order_by a.0) a.1.0.now new_cursor) a.1.1.1.0 _ a.1.1.1.1.0.now s.1.1.1.1.0.now p.1 (sym p.0 ∙ eqb-true r 0 k)

-- ---- what goes with a refusal

-- The count of a copy that refuses is 0.
pub refused-count : (r : Result ℕ Uncopied) → is_refusal (copied_said r) ≡ true → (copied_reply r).value ≡ 0
refused-count r k = ap (λ (a : Answer ℕ). (reply_with 0 a).value) (refuses-by (copied_said r) k).1

-- The place of a write that refuses is the place as it came.
pub refused-place : (r : Result ℕ Unwritten) (came : ℕ) → is_refusal (written_said r) ≡ true → (written_reply came r).value ≡ came
refused-place r came k = ap (λ (a : Answer ℕ). (reply_with came a).value) (refuses-by (written_said r) k).1
