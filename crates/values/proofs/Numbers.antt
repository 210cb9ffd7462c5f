-- Reading what the values of the kinds of fixed size make says what their row says of the values.
use Prim.Native.Nat.{ℕ}
use mathlib.Core.Path.{◌≡◌, refl}
use mathlib.Core.Bool.{Bool, true, false}
use mathlib.Core.List.{◌++◌}
use borrow.Author.Tests.{eq-eqb}
use lib.Dec.{T}
use lib.Ieee.{Float, binary32, to_bits, of_bits, fits, lt}
use lib.IntN.{ℤ, pos}
use lib.Signed.{le_z}
use mir.Syntax.{w32, w64}
use mir.Val.{SFits, of_z}
use Rattle.num.specs.Answer.{gives, refuses, then}
use Rattle.num.specs.Choice.{pick, both}
use Rattle.num.specs.declared.Order.{Order}
use Rattle.num.proofs.Laws.{bytes-length}
use Rattle.body.specs.Check.{allowed}
use Rattle.body.specs.Levels.{is_finite, finite32, dbfs, dbtg, ffs}
use Rattle.body.specs.Numbers.{siqp, at_least, bwof}
use Rattle.body.specs.declared.kinds.Kind.TheVariants.{SIQP, BWOF, DBFS, DBTG, FFS}
use Rattle.body.specs.declared.levels.Level.TheVariants.{FullScale, TotalGain, FloatFullScale}
use Rattle.body.specs.declared.numbers.Band.{Band}
use Rattle.state.specs.Good.{zero_or_one}
use Rattle.lay.specs.Numbers.{int32, int64}
use Rattle.typed.specs.Bodies.{float32}
use Rattle.typed.proofs.Numbers.{int32-back, int64-back, float32-back, first-back, band-size, bwof-back}
use Rattle.values.specs.Made.{Fitting}
use Rattle.values.specs.Says.{unless, says}

-- a value that is given or refused with a number, as the table has it
pub unless-is : {A : Type 0} (n : ℕ) (ok : Bool) (x : A) → pick ok (gives x) (refuses n) ≡ then (unless n ok) (λ _. gives x)
unless-is n true x = refl
unless-is n false x = refl

-- FFS_: finite first, then above 0
scale-is : (finite : Bool) (x : Float) →
    then (then (unless 12 finite) (λ _. gives x)) (λ y. allowed (lt (of_bits binary32 0) y) (FloatFullScale y))
    ≡ then (unless 12 (both finite (lt (of_bits binary32 0) x))) (λ _. gives (FloatFullScale x))
scale-is true x = unless-is 12 (lt (of_bits binary32 0) x) (FloatFullScale x)
scale-is false x = refl

-- what comes of a value that is given or refused with 12
then-is : {A B : Type 0} (ok : Bool) (x : A) (f : A → B) → then (then (unless 12 ok) (λ _. gives x)) (λ y. gives (f y)) ≡ then (unless 12 ok) (λ _. gives (f x))
then-is true x f = refl
then-is false x f = refl

module _ (o : Order) where
  -- Reading the body of a value says what the row of its kind says of the value.
  pub siqp-said : (x : ℤ) → SFits w32 x → siqp o (int32 o x) ≡ says SIQP x
  siqp-said x f = rw (eq-eqb _ _ (bytes-length o 4 (of_z w32 x)), int32-back o x f) (unless-is 12 (zero_or_one x) x)

  -- SR__ at 1, and BW__ and GCBW at 0
  pub least-said : (least x : ℤ) → SFits w64 x → at_least least o (int64 o x) ≡ then (unless 12 (le_z least x)) (λ _. gives x)
  least-said least x f = rw (eq-eqb _ _ (bytes-length o 8 (of_z w64 x)), int64-back o x f) (unless-is 12 (le_z least x) x)

  band-by : (b : Band) (ok : Bool) → le_z (pos 0) b.width ≡ ok → SFits w64 b.width → SFits w64 b.offset →
      bwof o (int64 o b.width ++ int64 o b.offset) ≡ then (unless 12 ok) (λ _. gives b)
  band-by b true e f g = bwof-back o b.width b.offset f g e
  band-by b false e f g = rw (eq-eqb _ _ (band-size o b.width b.offset), first-back o b.width (int64 o b.offset) f, e)

  pub bwof-said : (b : Band) → Fitting BWOF b → bwof o (int64 o b.width ++ int64 o b.offset) ≡ says BWOF b
  bwof-said b f = band-by b (le_z (pos 0) b.width) refl f.0 f.1

  finite-said : (x : Float) → T (fits binary32 x) → finite32 o (float32 o x) ≡ then (unless 12 (is_finite x)) (λ _. gives x)
  finite-said x f = rw (eq-eqb _ _ (bytes-length o 4 (to_bits binary32 x)), float32-back o x f) (unless-is 12 (is_finite x) x)

  pub dbfs-said : (x : Float) → T (fits binary32 x) → dbfs o (float32 o x) ≡ says DBFS x
  dbfs-said x f = rw (finite-said x f) (then-is (is_finite x) x FullScale)

  pub dbtg-said : (x : Float) → T (fits binary32 x) → dbtg o (float32 o x) ≡ says DBTG x
  dbtg-said x f = rw (finite-said x f) (then-is (is_finite x) x TotalGain)

  pub ffs-said : (x : Float) → T (fits binary32 x) → ffs o (float32 o x) ≡ says FFS x
  ffs-said x f = rw (finite-said x f) (scale-is (is_finite x) x)
