-- Laws of data bodies: their length, the answer by the size, and the chunk that is laid.
use Prim.Native.Nat.{ℕ, ◌+◌, ◌-◌, ◌*◌, ◌%◌, ◌^◌, ◌≤◌, ◌<◌, min}
use mathlib.Core.Path.{◌≡◌, refl, sym, ap, ◌∙◌}
use mathlib.Core.Bool.{Bool, true, false}
use mathlib.Core.List.{List, ◌++◌, append_assoc}
use native.Mathlib.Omega.{arith}
use lib.Dec.{leb, eqb}
use lib.IntN.{ℤ}
use lib.ListN.{length, length-append}
use borrow.Author.Tests.{le-leb, lt-leb, leb-true, leb-false}
use mir.Syntax.{w64}
use mir.Val.{of_z}
use Rattle.num.specs.Answer.{Answer, gives, refuses}
use Rattle.num.specs.Choice.{pick, both}
use Rattle.num.specs.Number.{bytes_of}
use Rattle.num.specs.declared.Order.{Order}
use Rattle.num.proofs.Laws.{bytes-length}
use Rattle.lay.specs.Numbers.{int64, numbers_of}
use Rattle.lay.specs.Runs.{run_of}
use Rattle.lay.specs.Splice.{splice, overlaid}
use Rattle.lay.proofs.Splice.{laid-on}
use Rattle.lay.proofs.Values.{run_length}
use Rattle.frame.specs.Place.{good_size}
use Rattle.frame.specs.Frames.{chunk_bytes}
use Rattle.body.specs.Kind.{kind_of, kind_in, known}
use Rattle.body.specs.Samples.{timed_samples}
use Rattle.body.specs.Verdict.{seen, verdict}
use Rattle.body.specs.declared.sampled.Data.{Data}
use Rattle.writer.specs.Inner.Data.{whole_samples, BySize}
use Rattle.writer.specs.Inner.Write.{header_bytes}
use Rattle.writer.specs.Write.{write_by, write_of, written_out}
use Rattle.writer.proofs.Laws.{header-length, after-header}

pub body-length : {A : Type 0} (bytes : A → List ℕ) (w : ℕ) → ((x : A) → length (bytes x) ≡ w) → (o : Order) (time : ℤ) (xs : List A) →
    length (int64 o time ++ run_of bytes xs) ≡ 8 + length xs * w
body-length bytes w wide o time xs = omega (arith, length-append (int64 o time) (run_of bytes xs), bytes-length o 8 (of_z w64 time), run_length bytes w wide xs)

-- ---- the answer by the size

-- a data kind looks at the size alone
timed-by : (b : Bool) (x : Data) → seen (pick b (gives x) (refuses 11)) ≡ pick b (gives tt) (refuses 11)
timed-by true x = refl
timed-by false x = refl

pub timed-sized : (unit : ℕ) (o : Order) (body : List ℕ) → seen (timed_samples unit o body) ≡ whole_samples unit (length body)
timed-sized unit o body = timed-by (both (leb 8 (length body)) (eqb ((length body - 8) % unit) 0)) _

-- whole samples, or not, after the time
pub whole-rest : (unit rest : ℕ) → whole_samples unit (8 + rest) ≡ pick (eqb (rest % unit) 0) (gives tt) (refuses 11)
whole-rest unit rest =
    let z : 8 + rest - 8 ≡ rest = omega arith in
    rw (le-leb 8 (8 + rest) (omega arith), z)

-- a size above the limit is not good
too-large : (n : ℕ) → 69632 < n → good_size n ≡ false
too-large n h = rw (lt-leb n 69632 h)

-- A size for which the largest number stands is no good size, and neither is that number.
module _ (unit rest rest' size' whole place : ℕ) (e : rest' ≡ min rest (2 ^ 64 - 1)) (f : size' ≡ min (rest' + 8) (2 ^ 64 - 1)) where
  size-held : size' ≤ 69632 → size' ≡ 8 + rest
  size-held h = omega arith

  held-by : (b : Bool) → leb size' 69632 ≡ b → write_by (whole_samples unit (8 + rest')) size' whole place ≡ write_by (whole_samples unit (8 + rest)) (8 + rest) whole place
  held-by true h =
      let k : size' ≡ 8 + rest = size-held (leb-true size' 69632 h) in
      let j : rest' ≡ rest = omega arith in
      rw (j, k)
  held-by false h =
      let k = leb-false size' 69632 h in
      rw (too-large size' k, too-large (8 + rest) (omega arith))

  size-answer : write_by (whole_samples unit (8 + rest')) size' whole place ≡ write_by (whole_samples unit (8 + rest)) (8 + rest) whole place
  size-answer = held-by (leb size' 69632) refl

-- ---- a chunk

-- header, time and then numbers, laid one after the other, are a chunk
data-laid : (o : Order) (code size p : ℕ) (time : ℤ) (ys d d₁ d₂ d₃ : List ℕ) → length (int64 o time ++ ys) ≡ size → p + 12 + size ≤ length d →
    d₁ ≡ splice d p (header_bytes o code size) →
    d₂ ≡ overlaid d₁ (p + 12) (int64 o time) →
    d₃ ≡ overlaid d₂ (p + 20) ys →
    d₃ ≡ splice d p (chunk_bytes o code (int64 o time ++ ys))
data-laid o code size p time ys d d₁ d₂ d₃ m h e₁ e₂ e₃ =
    let u = header_bytes o code size in
    let v = int64 o time in
    let i = header-length o code size in
    let t = bytes-length o 8 (of_z w64 time) in
    let n = length-append u v in
    let k = length-append v ys in
    let e : (u ++ v) ++ ys ≡ chunk_bytes o code (v ++ ys) = rw m (append_assoc u v ys ∙ after-header o code size (v ++ ys)) in
    let front = laid-on p d d₁ d₂ u v (p + 12) (omega arith) (omega arith) e₁ e₂ in
    laid-on p d d₂ d₃ (u ++ v) ys (p + 20) (omega arith) (omega arith) front e₃ ∙ ap (splice d p) e

-- numbers of w bytes each, of a data kind whose samples have so many bytes, and the size that the code has for them
module _ {A : Type 0} (bits : A → ℕ) (w : ℕ) (o : Order) (code unit place : ℕ) (time : ℤ) (xs : List A) (d : List ℕ) (rest' size' : ℕ)
    (sized : BySize o code unit) (e : rest' ≡ min (length xs * w) (2 ^ 64 - 1)) (f : size' ≡ min (rest' + 8) (2 ^ 64 - 1)) where
  abbrev body : List ℕ
  body = int64 o time ++ numbers_of o w bits xs

  body-size : length body ≡ 8 + length xs * w
  body-size = body-length (λ x. bytes_of o w (bits x)) w (λ x. bytes-length o w (bits x)) o time xs

  -- the answer by the size is that of the raw call
  pub data-said : (a : Answer ℕ) → a ≡ write_by (whole_samples unit (8 + rest')) size' (length d) place → a ≡ write_of o code body (length d) place
  data-said a said = rw (sized body, body-size) (said ∙ size-answer unit (length xs * w) rest' size' (length d) place e f)

  -- a refusal leaves the slice
  pub data-refused : (n : ℕ) → refuses n ≡ write_by (whole_samples unit (8 + rest')) size' (length d) place → d ≡ written_out o code body d place
  data-refused n said = rw (← data-said (refuses n) said) refl

  -- and so is what the slice holds, once the numbers are laid behind the front
  pub data-next : (next : ℕ) (d₁ d₂ d₃ : List ℕ) → gives next ≡ write_by (whole_samples unit (8 + rest')) size' (length d) place →
      (size' ≤ 69632) × (place + 12 + size' ≤ length d) →
      d₁ ≡ splice d place (header_bytes o code size') → d₂ ≡ overlaid d₁ (place + 12) (int64 o time) → d₃ ≡ overlaid d₂ (place + 20) (numbers_of o w bits xs) →
      d₃ ≡ written_out o code body d place
  data-next next d₁ d₂ d₃ said room e₁ e₂ e₃ =
      let k : length body ≡ size' = body-size ∙ sym (size-held unit (length xs * w) rest' size' (length d) place e f room.0) in
      rw (← data-said (gives next) said) (data-laid o code size' place time (numbers_of o w bits xs) d d₁ d₂ d₃ k room.1 e₁ e₂ e₃)

-- ---- the kinds

-- the type of each data kind is judged by its size
pub ssnc-sized : (o : Order) → BySize o 0x53534E43 4
unfolding verdict kind_of kind_in known
ssnc-sized o = timed-sized 4 o

pub ssnr-sized : (o : Order) → BySize o 0x53534E52 2
unfolding verdict kind_of kind_in known
ssnr-sized o = timed-sized 2 o

pub gsnc-sized : (o : Order) → BySize o 0x47534E43 4
unfolding verdict kind_of kind_in known
gsnc-sized o = timed-sized 4 o

pub sfnc-sized : (o : Order) → BySize o 0x53464E43 8
unfolding verdict kind_of kind_in known
sfnc-sized o = timed-sized 8 o

pub sfnr-sized : (o : Order) → BySize o 0x53464E52 4
unfolding verdict kind_of kind_in known
sfnr-sized o = timed-sized 4 o

pub gfnc-sized : (o : Order) → BySize o 0x47464E43 8
unfolding verdict kind_of kind_in known
gfnc-sized o = timed-sized 8 o

pub ruleset whole_rest = (whole-rest)

pub ruleset sized_kinds = (ssnc-sized, ssnr-sized, gsnc-sized, sfnc-sized, sfnr-sized, gfnc-sized)
