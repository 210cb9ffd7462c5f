-- What a copy leaves in the slice, by its count.
use Prim.Native.Nat.{ℕ}
use mathlib.Core.Path.{◌≡◌, refl, sym, ◌∙◌}
use mathlib.Core.Bool.{Bool, true, false}
use mathlib.Core.List.{List}
use native.Mathlib.Omega.{arith}
use lib.Dec.{leb}
use lib.ListN.{length, take, drop}
use lib.Seq.{take_at, drop_at}
use Rattle.num.specs.Answer.{Answer, gives, refuses, then}
use Rattle.copy.specs.Samples.{short_at, pattern_at}
use Rattle.copy.proofs.Laws.{length-pairs, length-reals}
use Rattle.samples.specs.Copy.{layout_at, count_within, count_of, samples_at, filled}
use Rattle.samples.specs.Given.{layout_given, count_given, samples_given}
use Rattle.samples.specs.Layout.{numbers, values_of}
use Rattle.samples.specs.declared.Layout.{Layout}
use Rattle.std.specs.Prelude.{Ok}
use Rattle.samples.proofs.patterns.patterns_at.Reads as patterns_at
use Rattle.samples.proofs.patterns.patterns_of.Reads as patterns_of
use Rattle.samples.proofs.shorts.shorts_at.Reads as shorts_at
use Rattle.samples.proofs.shorts.shorts_of.Reads as shorts_of

-- the first n numbers are those of the channel, whose layout the answer gives, and the rest is as it was
pub record FirstNumbers {A : Type 0} (a : Answer Layout) (value : ℕ → A) (n : ℕ) (was is : List A) : Type 0 where
  pub layout : Layout
  pub given : a ≡ gives layout
  pub count : n ≡ length (values_of value layout)
  pub front : take n is ≡ values_of value layout
  pub rest : drop n is ≡ drop n was

-- as many values as numbers
values-length : {A : Type 0} (value : ℕ → A) (l : Layout) (b : Bool) → l.pairs ≡ b → length (values_of value l) ≡ numbers l
values-length value l true e = rw e (length-pairs value l.iq l.first l.step l.count)
values-length value l false e = rw e (length-reals value l.count)

module _ {A : Type 0} (value : ℕ → A) (n : ℕ) (was is : List A) where
  room-by : (l : Layout) (b : Bool) → leb (numbers l) (length was) ≡ b → gives n ≡ count_within (length was) l → is ≡ filled (count_within (length was) l) (gives l) value was →
      FirstNumbers (gives l) value n was is
  room-by l true k e q =
      let h = rw k at e in
      let i : n ≡ numbers l = cc in
      let m : length (values_of value l) ≡ n = values-length value l l.pairs refl ∙ sym i in
      let f = rw k at q in
      record {
        layout = l;
        given = refl;
        count = sym m;
        front = rw f (take_at (values_of value l) (drop (length (values_of value l)) was) n m);
        rest = rw f (drop_at (values_of value l) (drop (length (values_of value l)) was) n m ∙ rw m);
      }
  room-by l false k e q =
      let h = rw k at e in
      let z : ◌≡◌ {A = ℕ} 0 1 = cc in absurd (omega arith)

  -- after a copy that gives n
  pub first-numbers : (a : Answer Layout) → gives n ≡ then a (count_within (length was)) → is ≡ filled (then a (count_within (length was))) a value was → FirstNumbers a value n was is
  first-numbers (gives l) e q = room-by l (leb (numbers l) (length was)) refl e q
  first-numbers (refuses k) e q = let z : ◌≡◌ {A = ℕ} 0 1 = cc in absurd (omega arith)

-- ---- said of each call's promise

pub shorts-at-first : (κs : _) (a : _) (n : ℕ) (x : _) → shorts_at.Post κs a (Ok n) x →
    FirstNumbers (layout_at false a.0 a.1.0.now a.1.1.0 a.1.1.1.0) (short_at a.0 (samples_at a.0 a.1.0.now a.1.1.0)) n a.1.1.1.1.0.now x.1.1.1.1.0.now
unfolding count_of
shorts-at-first κs a n x p =
    first-numbers (short_at a.0 (samples_at a.0 a.1.0.now a.1.1.0)) n a.1.1.1.1.0.now x.1.1.1.1.0.now (layout_at false a.0 a.1.0.now a.1.1.0 a.1.1.1.0) p.0 p.1

pub patterns-at-first : (κs : _) (a : _) (n : ℕ) (x : _) → patterns_at.Post κs a (Ok n) x →
    FirstNumbers (layout_at true a.0 a.1.0.now a.1.1.0 a.1.1.1.0) (pattern_at a.0 (samples_at a.0 a.1.0.now a.1.1.0)) n a.1.1.1.1.0.now x.1.1.1.1.0.now
unfolding count_of
patterns-at-first κs a n x p =
    first-numbers (pattern_at a.0 (samples_at a.0 a.1.0.now a.1.1.0)) n a.1.1.1.1.0.now x.1.1.1.1.0.now (layout_at true a.0 a.1.0.now a.1.1.0 a.1.1.1.0) p.0 p.1

pub shorts-of-first : (κs : _) (a : _) (n : ℕ) (x : _) → shorts_of.Post κs a (Ok n) x →
    FirstNumbers (layout_given false a.0 a.1.0.now a.1.1.0 a.1.1.1.0) (short_at a.0 (samples_given a.1.0.now a.1.1.0)) n a.1.1.1.1.0.now x.1.1.1.1.0.now
unfolding count_given
shorts-of-first κs a n x p =
    first-numbers (short_at a.0 (samples_given a.1.0.now a.1.1.0)) n a.1.1.1.1.0.now x.1.1.1.1.0.now (layout_given false a.0 a.1.0.now a.1.1.0 a.1.1.1.0) p.0 p.1

pub patterns-of-first : (κs : _) (a : _) (n : ℕ) (x : _) → patterns_of.Post κs a (Ok n) x →
    FirstNumbers (layout_given true a.0 a.1.0.now a.1.1.0 a.1.1.1.0) (pattern_at a.0 (samples_given a.1.0.now a.1.1.0)) n a.1.1.1.1.0.now x.1.1.1.1.0.now
unfolding count_given
patterns-of-first κs a n x p =
    first-numbers (pattern_at a.0 (samples_given a.1.0.now a.1.1.0)) n a.1.1.1.1.0.now x.1.1.1.1.0.now (layout_given true a.0 a.1.0.now a.1.1.0 a.1.1.1.0) p.0 p.1
