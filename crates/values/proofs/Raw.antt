-- Raw bodies with faults that no values can have, each refused with its number.
use Prim.Native.Nat.{ℕ, ◌+◌, ◌*◌, ◌-◌, ◌%◌, ◌^◌, ◌≤◌, ◌<◌}
use mathlib.Core.Path.{◌≡◌, refl, sym, ap, ◌∙◌}
use mathlib.Core.Bool.{true, false}
use mathlib.Core.List.{List}
use native.Mathlib.Omega.{arith}
use borrow.Author.Tests.{eq-eqb, ne_eqb, lt-leb}
use lib.Dec.{leb}
use lib.ListN.{length, drop}
use Rattle.std.specs.Prelude.{Some}
use Rattle.num.specs.Answer.{Answer, refuses}
use Rattle.num.specs.Number.{unsigned_at}
use Rattle.num.specs.declared.Order.{Order}
use Rattle.num.proofs.Tests.{both-false}
use Rattle.frame.specs.Place.{good_size}
use Rattle.body.specs.Groups.{listed, packed, tuned, amplified}
use Rattle.body.specs.Kind.{code_of}
use Rattle.body.specs.Plain.{zeros, padded, texts}
use Rattle.body.specs.Samples.{sample_bytes, data_of}
use Rattle.body.specs.Table.{Row, sets, marks, leaves, samples, unknown, row, shaped_by, shaped}
use Rattle.body.specs.Verdict.{seen, verdict_by, verdict}
use Rattle.body.specs.declared.groups.GroupPacking.{GroupPacking}
use Rattle.body.specs.declared.groups.GroupHertz.{GroupHertz}
use Rattle.body.specs.declared.groups.GroupGains.{GroupGains}
use Rattle.body.specs.declared.kinds.Kind.{Kind}
use Rattle.body.specs.declared.kinds.Kind.TheVariants.{TEXT}
use Rattle.body.specs.declared.sampled.Shape.{Shape}
use Rattle.body.proofs.GroupLaws.{listed-short, listed-none, listed-many, listed-size}
use Rattle.body.proofs.Texts.{text-short, text-negative, text-length}
use Rattle.writer.specs.Write.{may_write}
use Rattle.values.specs.Raw.{OneSize, Counts}
use Rattle.values.specs.Raw as raw
use Rattle.values.proofs.May.{code-back}

module _ (o : Order) (body : List ℕ) where
  -- A body of a good size is refused with the number of its row.
  pub raw-refused : (k : Kind) (n : ℕ) → good_size (length body) ≡ true → verdict o k body ≡ refuses n → may_write o (code_of k) body ≡ refuses n
  raw-refused k n g e = rw (g, code-back k) e

  -- Number 11: a body of another size than its kind's, where the kind has one size.
  pub other-size : (k : Kind) (n : ℕ) → OneSize k n → (length body ≡ n → ⊥) → verdict o k body ≡ refuses 11
  unfolding verdict
  other-size k n raw.siqp h = rw (ne_eqb (length body) 4 h)
  other-size k n raw.sofh h = rw (ne_eqb (length body) 4 h)
  other-size k n raw.dbfs h = rw (ne_eqb (length body) 4 h)
  other-size k n raw.dbtg h = rw (ne_eqb (length body) 4 h)
  other-size k n raw.ffs h = rw (ne_eqb (length body) 4 h)
  other-size k n raw.sr h = rw (ne_eqb (length body) 8 h)
  other-size k n raw.bw h = rw (ne_eqb (length body) 8 h)
  other-size k n raw.gcbw h = rw (ne_eqb (length body) 8 h)
  other-size k n raw.cf h = rw (ne_eqb (length body) 8 h)
  other-size k n raw.bwof h = rw (ne_eqb (length body) 16 h)
  other-size k n raw.eofh h = rw (ne_eqb (length body) 0 h)
  other-size k n raw.iqdc h = rw (ne_eqb (length body) 0 h)

-- ---- groups

-- a kind that counts channels is read as a count and its values
record Counting (o : Order) (body : List ℕ) (k : Kind) (head value : ℕ) : Type 1 where
  Values : Type 0
  values_for : ℕ → Answer Values
  reads : verdict o k body ≡ seen (listed head value o body values_for)

counting : (o : Order) (body : List ℕ) (k : Kind) (head value : ℕ) → Counts k head value → Counting o body k head value
unfolding verdict
counting o body k head value raw.giqp = record { Values = GroupPacking; values_for = packed o body; reads = refl }
counting o body k head value raw.gcf = record { Values = GroupHertz; values_for = tuned o body; reads = refl }
counting o body k head value raw.grg = record { Values = GroupGains; values_for = amplified o body; reads = refl }

module _ (o : Order) (body : List ℕ) (k : Kind) (head value : ℕ) (c : Counts k head value) where
  -- Number 11: a body of a group kind that is too short for its counts.
  pub too-short : length body < head → verdict o k body ≡ refuses 11
  too-short h =
      let r = counting o body k head value c in
      r.reads ∙ ap seen (sym (listed-short head value o body r.values_for h))

  -- Number 13: a count of channels that is not 1 to 16. A negative one, read as an unsigned number, is above 16.
  pub no-channel : head ≤ length body → unsigned_at 4 o body 0 ≡ 0 → verdict o k body ≡ refuses 13
  no-channel h e =
      let r = counting o body k head value c in
      r.reads ∙ ap seen (sym (listed-none head value o body r.values_for 0 (sym e) h (omega arith)))

  pub too-many : head ≤ length body → 16 < unsigned_at 4 o body 0 → verdict o k body ≡ refuses 13
  too-many h m =
      let r = counting o body k head value c in
      r.reads ∙ ap seen (sym (listed-many head value o body r.values_for (unsigned_at 4 o body 0) refl h m))

  -- Number 11: a good count n, and a body that has not just n values.
  pub other-length : head ≤ length body → 1 ≤ unsigned_at 4 o body 0 → unsigned_at 4 o body 0 ≤ 16 →
      (length body ≡ head + value * unsigned_at 4 o body 0 → ⊥) → verdict o k body ≡ refuses 11
  other-length h few many q =
      let r = counting o body k head value c in
      r.reads ∙ ap seen (sym (listed-size head value o body r.values_for (unsigned_at 4 o body 0) refl h few many q))

-- ---- TEXT

module _ (o : Order) (body : List ℕ) where
  abbrev stated : ℕ
  stated = unsigned_at 4 o body 0

  -- Number 11: no room for the length, a length that is negative, or a body that is not just as long as the padded text.
  pub text-without-length : length body < 4 → verdict o TEXT body ≡ refuses 11
  unfolding verdict
  text-without-length h = ap seen (sym (text-short o body h))

  pub text-of-negative-length : 4 ≤ length body → 2 ^ 31 ≤ stated → verdict o TEXT body ≡ refuses 11
  unfolding verdict
  text-of-negative-length h n = ap seen (sym (text-negative o body stated refl h n))

  pub text-of-other-size : 4 ≤ length body → stated < 2 ^ 31 → (length body ≡ 4 + padded stated → ⊥) → verdict o TEXT body ≡ refuses 11
  unfolding verdict texts
  text-of-other-size h n q =
      ap seen (sym (text-length o body stated refl h n)) ∙ rw (ne_eqb (length body) (4 + padded stated) q)

  -- Number 14: a body of the right size whose padding is not zero, whatever its text.
  pub text-padding : stated < 2 ^ 31 → length body ≡ 4 + padded stated → zeros (drop (4 + stated) body) ≡ false →
      verdict o TEXT body ≡ refuses 14
  unfolding verdict texts
  text-padding n e z =
      ap seen (sym (text-length o body stated refl (omega arith) n)) ∙ rw (eq-eqb (length body) (4 + padded stated) e, z)

-- ---- samples

-- a kind with samples is read by their shape
shape-by : (r : Row) (shape : Shape) (o : Order) (body : List ℕ) → shaped_by r ≡ Some shape → verdict_by r o body ≡ seen (data_of shape o body)
shape-by (sets x hold read) shape o body e = let z : ◌≡◌ {A = ℕ} 0 1 = cc in absurd (omega arith)
shape-by (marks read) shape o body e = let z : ◌≡◌ {A = ℕ} 0 1 = cc in absurd (omega arith)
shape-by (leaves read) shape o body e = let z : ◌≡◌ {A = ℕ} 0 1 = cc in absurd (omega arith)
shape-by (samples s) shape o body e = let q : s ≡ shape = cc in rw q
shape-by unknown shape o body e = let z : ◌≡◌ {A = ℕ} 0 1 = cc in absurd (omega arith)

module _ (o : Order) (body : List ℕ) (k : Kind) (shape : Shape) (e : shaped k ≡ Some shape) where
  -- Number 11: a body of a data kind without a whole time,
  pub no-time : length body < 8 → verdict o k body ≡ refuses 11
  unfolding verdict shaped
  no-time h = shape-by (row k) shape o body e ∙ rw (lt-leb 8 (length body) h)

  -- and one with part of a sample behind it.
  pub part-of-sample : ((length body - 8) % sample_bytes shape ≡ 0 → ⊥) → verdict o k body ≡ refuses 11
  unfolding verdict shaped
  part-of-sample h =
      shape-by (row k) shape o body e
      ∙ rw (ne_eqb ((length body - 8) % sample_bytes shape) 0 h, both-false (leb 8 (length body)))
