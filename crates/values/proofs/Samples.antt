-- Reading what a time and numbers make says what the row says of them, and the numbers stand behind the time: once over
-- the width of the numbers and over how many of them make a sample.
use Prim.Native.Nat.{ℕ, ◌+◌, ◌-◌, ◌*◌, ◌/◌, ◌%◌, ◌<◌}
use mathlib.Core.Path.{◌≡◌, sym, ap, ◌∙◌}
use mathlib.Core.Bool.{Bool, true, false}
use native.Mathlib.Nat.{mul_assoc, eq_of_mul-eq-mul_right, mul-div-mul_right, mul-mod_left, div-add-mod'}
use native.Mathlib.Omega.{arith}
use borrow.Author.Tests.{eq-eqb, le-leb, eqb-true}
use lib.Dec.{eqb}
use lib.ListN.{length, get_or, drop}
use lib.Seq.{drop_at}
use mir.Syntax.{w64}
use mir.Val.{SFits, of_z}
use Rattle.std.specs.Cmp.{both_ways}
use Rattle.num.specs.Answer.{gives, then}
use Rattle.num.specs.declared.Order.{Order}
use Rattle.num.proofs.Laws.{bytes-length}
use Rattle.body.specs.Samples.{timed_samples}
use Rattle.samples.specs.Inner.Plan.{number_bytes}
use Rattle.lay.specs.Numbers.{int64}
use Rattle.lay.specs.Runs.{run_of}
use Rattle.writer.proofs.Bodies.{body-length}
use Rattle.typed.proofs.Numbers.{first-back}
use Rattle.roundtrip.proofs.Numbers.{Number, none, bytes_one, value_at, AllFit, body_of, one-length, numbers-back}
use Rattle.values.specs.Made.{Timed}
use Rattle.values.specs.Says.{whole, timed_as}
use Rattle.values.proofs.Numbers.{unless-is}

-- ---- numbers of w bytes, so many to a sample

module _ (w per : ℕ) (wide : 0 < w) where
  -- the bytes of n numbers are whole samples where n numbers are
  pub whole-same : (n : ℕ) → eqb (n * w % (per * w)) 0 ≡ eqb (n % per) 0
  whole-same n =
      both_ways (eqb (n * w % (per * w)) 0) (eqb (n % per) 0)
      (λ e.
      let z = eqb-true (n * w % (per * w)) 0 e in
      let a : n * w / (per * w) * (per * w) ≡ n * w = omega (arith, div-add-mod' (n * w) (per * w)) in
      let c : n / per * (per * w) ≡ n * w = sym (ap (λ (i : ℕ). i * (per * w)) (mul-div-mul_right {m = w} n per wide)) ∙ a in
      let m : n / per * per ≡ n = eq_of_mul-eq-mul_right w wide (n / per * per) n (mul_assoc (n / per) per w ∙ c) in
      eq-eqb (n % per) 0 (omega (arith, div-add-mod' n per)))
      (λ e.
      let z = eqb-true (n % per) 0 e in
      let m : n / per * per ≡ n = omega (arith, div-add-mod' n per) in
      let k : n * w ≡ n / per * (per * w) = sym (ap (λ (i : ℕ). i * w) m) ∙ mul_assoc (n / per) per w in
      eq-eqb (n * w % (per * w)) 0 (rw k (mul-mod_left (n / per) (per * w))))

has-bytes : (float : Bool) → 0 < number_bytes float
has-bytes true = omega arith
has-bytes false = omega arith

module _ (float : Bool) (o : Order) (v : Timed (Number float)) where
  -- Reading the body of a time and numbers says what the row says of them.
  pub samples-said : (per : ℕ) → SFits w64 v.time →
      timed_samples (per * number_bytes float) o (body_of float o v.time v.numbers) ≡ then (whole per v) (λ _. gives (timed_as per v))
  samples-said per f =
      let n = length v.numbers in
      let w = number_bytes float in
      let size = body-length (bytes_one float o) w (one-length float o) o v.time v.numbers in
      let z : 8 + n * w - 8 ≡ n * w = omega arith in
      rw (first-back o v.time (run_of (bytes_one float o) v.numbers) f, size, le-leb 8 (8 + n * w) (omega arith), z, whole-same w per (has-bytes float) n, mul-div-mul_right {m = w} n per (has-bytes float))
      (unless-is 11 (eqb (n % per) 0) (timed_as per v))

  -- Each number stands in the body, behind the time, at its place.
  pub numbers-behind : AllFit float v.numbers → (i : ℕ) → i < length v.numbers →
      value_at float o (drop 8 (body_of float o v.time v.numbers)) i ≡ get_or v.numbers i (none float)
  numbers-behind f i h =
      rw (drop_at (int64 o v.time) (run_of (bytes_one float o) v.numbers) 8 (bytes-length o 8 (of_z w64 v.time)))
      (numbers-back float o v.numbers f i h)
