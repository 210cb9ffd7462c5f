-- A number is read back where its bytes stand: the kinds of fixed size read back the values that made them.
use Prim.Native.Nat.{ℕ, suc, ◌+◌, ◌*◌, ◌^◌, ◌≤◌, ◌<◌}
use mathlib.Core.Path.{◌≡◌, refl, sym, ap, ◌∙◌}
use mathlib.Core.Bool.{true}
use mathlib.Core.List.{List, [], ◌++◌, append-nil}
use native.Mathlib.Nat.{mul_comm, suc-mul, mul-le-mul_right}
use native.Mathlib.Omega.{arith}
use borrow.Author.Tests.{eq-eqb}
use lib.Dec.{T}
use lib.Ieee.{Float, binary32, of_bits, to_bits, fits, lt}
use lib.Ieee.Bits.{of_bits-to_bits, to_bits-lt}
use lib.IntN.{ℤ, pos}
use lib.ListN.{length, take, drop, get_or, length-append}
use lib.Seq.{take_at, drop_at, drop-append-add, get_or-take, length-take-le}
use lib.Signed.{le_z}
use mir.Syntax.{w32, w64}
use mir.Val.{SFits, to_z, of_z}
use mir.ValLaws.{to_z-of_z, of_z_fits}
use Rattle.num.specs.Answer.{gives}
use Rattle.num.specs.Choice.{both}
use Rattle.num.specs.Number.{unsigned, unsigned_at, bytes_of}
use Rattle.num.specs.declared.Order.{Order}
use Rattle.num.proofs.Laws.{bytes-length, read-written, at-some}
use Rattle.body.specs.Check as check
use Rattle.body.specs.Levels as levels
use Rattle.body.specs.Levels.{is_finite, dbfs, dbtg, ffs}
use Rattle.body.specs.Numbers.{siqp, sofh, at_least, cf, bwof}
use Rattle.body.specs.declared.levels.Level.TheVariants.{FullScale, TotalGain, FloatFullScale}
use Rattle.lay.specs.Numbers.{int32, int64}
use Rattle.lay.specs.Runs.{run_of}
use Rattle.lay.proofs.Values.{first-length, run_at}
use Rattle.typed.specs.Bodies.{float32}

module _ (o : Order) where
  -- a number after so many bytes, whatever comes behind
  pub number-at : (k x : ℕ) (pre post : List ℕ) (q : ℕ) → length pre ≡ q → x < 256 ^ k → unsigned_at k o (pre ++ (bytes_of o k x ++ post)) q ≡ x
  number-at k x pre post q n h =
      let b = bytes_of o k x in
      at-some k o (pre ++ (b ++ post)) q (omega (arith, length-append pre (b ++ post), length-append b post, bytes-length o k x))
      ∙ ap (λ (l : List ℕ). unsigned o (take k l)) (drop_at pre (b ++ post) q n)
      ∙ ap (unsigned o) (take_at b post k (bytes-length o k x))
      ∙ read-written o k x h

  -- one that stands last
  pub number-last : (k x : ℕ) (pre : List ℕ) (q : ℕ) → length pre ≡ q → x < 256 ^ k → unsigned_at k o (pre ++ bytes_of o k x) q ≡ x
  number-last k x pre q n h = ap (λ (l : List ℕ). unsigned_at k o (pre ++ l) q) (sym (append-nil (bytes_of o k x))) ∙ number-at k x pre [] q n h

  -- the value at a place of a list, whose pattern takes w bytes
  pub value-at : {A : Type 0} (w : ℕ) (pattern : A → ℕ) (head : List ℕ) (q n c : ℕ) (xs : List A) (z : A) → length head ≡ q → c < n → n ≤ length xs → pattern (get_or xs c z) < 256 ^ w →
      unsigned_at w o (head ++ run_of (λ x. bytes_of o w (pattern x)) (take n xs)) (q + w * c) ≡ pattern (get_or xs c z)
  value-at {A} w pattern head q n c xs z e h m f =
      let bytes : A → List ℕ = λ x. bytes_of o w (pattern x) in
      let wide : (x : A) → length (bytes x) ≡ w = λ x. bytes-length o w (pattern x) in
      let run = run_of bytes (take n xs) in
      let l : length (take n xs) ≡ n = length-take-le n xs m in
      let r : length run ≡ n * w = first-length bytes w wide xs n m in
      let more : suc c * w ≤ n * w = mul-le-mul_right {m = suc c} {n = n} w (omega arith) in
      let p : q + w * c ≡ length head + c * w = omega (arith, mul_comm w c) in
      at-some w o (head ++ run) (q + w * c) (omega (arith, length-append head run, suc-mul c w))
      ∙ ap (λ (i : ℕ). unsigned o (take w (drop i (head ++ run)))) p
      ∙ ap (λ (t : List ℕ). unsigned o (take w t)) (drop-append-add head run (c * w))
      ∙ ap (unsigned o) (run_at bytes w wide z (take n xs) c (omega arith))
      ∙ rw (get_or-take n xs c z h) (read-written o w (pattern (get_or xs c z)) f)

  -- a body of one number
  alone : (k x : ℕ) → x < 256 ^ k → unsigned_at k o (bytes_of o k x) 0 ≡ x
  alone k x h = number-last k x [] 0 refl h

  pub int32-back : (x : ℤ) → SFits w32 x → check.int32 o (int32 o x) 0 ≡ x
  int32-back x f = ap (to_z w32) (alone 4 (of_z w32 x) (of_z_fits w32 x f).fits) ∙ to_z-of_z w32 x f

  pub int64-back : (x : ℤ) → SFits w64 x → check.int64 o (int64 o x) 0 ≡ x
  int64-back x f = ap (to_z w64) (alone 8 (of_z w64 x) (of_z_fits w64 x f).fits) ∙ to_z-of_z w64 x f

  pub float32-back : (x : Float) → T (fits binary32 x) → levels.float32 o (float32 o x) 0 ≡ x
  float32-back x f = ap (of_bits binary32) (alone 4 (to_bits binary32 x) (to_bits-lt binary32 x f)) ∙ of_bits-to_bits binary32 x f

  -- ---- what the values of a kind make is read back as the values

  pub siqp-back : (x : ℤ) → SFits w32 x → both (le_z (pos 0) x) (le_z x (pos 1)) ≡ true → siqp o (int32 o x) ≡ gives x
  siqp-back x f h = rw (eq-eqb _ _ (bytes-length o 4 (of_z w32 x)), int32-back x f, h)

  pub sofh-back : (x : ℤ) → SFits w32 x → sofh o (int32 o x) ≡ gives x
  sofh-back x f = rw (eq-eqb _ _ (bytes-length o 4 (of_z w32 x)), int32-back x f)

  -- SR__ at 1, and BW__ and GCBW at 0
  pub at-least-back : (least x : ℤ) → SFits w64 x → le_z least x ≡ true → at_least least o (int64 o x) ≡ gives x
  at-least-back least x f h = rw (eq-eqb _ _ (bytes-length o 8 (of_z w64 x)), int64-back x f, h)

  pub cf-back : (x : ℤ) → SFits w64 x → cf o (int64 o x) ≡ gives x
  cf-back x f = rw (eq-eqb _ _ (bytes-length o 8 (of_z w64 x)), int64-back x f)

  -- a number in front, whatever comes behind
  pub first-back : (x : ℤ) (post : List ℕ) → SFits w64 x → check.int64 o (int64 o x ++ post) 0 ≡ x
  first-back x post f = ap (to_z w64) (number-at 8 (of_z w64 x) [] post 0 refl (of_z_fits w64 x f).fits) ∙ to_z-of_z w64 x f

  pub band-size : (width offset : ℤ) → length (int64 o width ++ int64 o offset) ≡ 16
  band-size width offset = simp (length-append, bytes-length)

  pub bwof-back : (width offset : ℤ) → SFits w64 width → SFits w64 offset → le_z (pos 0) width ≡ true →
      bwof o (int64 o width ++ int64 o offset) ≡ gives (record { width = width; offset = offset })
  bwof-back width offset f g h =
      let b : check.int64 o (int64 o width ++ int64 o offset) 8 ≡ offset =
      ap (to_z w64) (number-last 8 (of_z w64 offset) (int64 o width) 8 (bytes-length o 8 (of_z w64 width)) (of_z_fits w64 offset g).fits) ∙ to_z-of_z w64 offset g in
      rw (eq-eqb _ _ (band-size width offset), first-back width (int64 o offset) f, b, h)

  finite-back : (x : Float) → T (fits binary32 x) → is_finite x ≡ true → levels.finite32 o (float32 o x) ≡ gives x
  finite-back x f h = rw (eq-eqb _ _ (bytes-length o 4 (to_bits binary32 x)), float32-back x f, h)

  pub dbfs-back : (x : Float) → T (fits binary32 x) → is_finite x ≡ true → dbfs o (float32 o x) ≡ gives (FullScale x)
  dbfs-back x f h = rw (finite-back x f h)

  pub dbtg-back : (x : Float) → T (fits binary32 x) → is_finite x ≡ true → dbtg o (float32 o x) ≡ gives (TotalGain x)
  dbtg-back x f h = rw (finite-back x f h)

  pub ffs-back : (x : Float) → T (fits binary32 x) → is_finite x ≡ true → lt (of_bits binary32 0) x ≡ true → ffs o (float32 o x) ≡ gives (FloatFullScale x)
  ffs-back x f h k = rw (finite-back x f h, k)
