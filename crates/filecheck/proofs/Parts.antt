-- The part of a chunk in a file, and its kind: a header is a SOFH, a header's end an EOFH, and data is of a kind that has samples.
use Prim.Native.Nat.{ℕ, ◌<◌}
use mathlib.Core.Path.{◌≡◌, refl, ap, sym, ◌∙◌}
use mathlib.Core.Bool.{Bool, true, false}
use mathlib.Core.List.{List, [], ◌∷◌}
use mathlib.Core.Logic.{◌⊎◌, inl, inr}
use native.Mathlib.Omega.{arith}
use denote.Enum.Declared.{tag_of}
use lib.Dec.{eqb}
use borrow.Author.Tests.{eqb-true}
use Rattle.std.specs.Prelude.{Option, Some, None}
use Rattle.num.specs.Choice.{pick}
use Rattle.body.specs.Kind.{code_of, known, kind_in, kind_of}
use Rattle.body.specs.Table.{shaped}
use Rattle.body.specs.declared.kinds.Kind.{Kind}
use Rattle.body.specs.declared.kinds.Kind.TheVariants.{SOFH, EOFH, Unknown}
use Rattle.body.specs.declared.sampled.Shape.{Shape}
use Rattle.filecheck.specs.File.{part_by, part_of}
use Rattle.filecheck.specs.declared.Part.{Part}
use Rattle.filecheck.specs.declared.Part.TheVariants.{Data, Header, HeaderEnd, Other}
use Rattle.filecheck.specs.contracts.Part as Part

-- ---- the kind of a type

module _ (n : ℕ) where
  -- the kind that is found has the type that was looked for
  found-by : (k : Kind) (ks : List Kind) (b : Bool) → eqb n (code_of k) ≡ b → (kind_in ks n ≡ Unknown) ⊎ (code_of (kind_in ks n) ≡ n) →
      (pick b k (kind_in ks n) ≡ Unknown) ⊎ (code_of (pick b k (kind_in ks n)) ≡ n)
  found-by k ks true e r = inr (sym (eqb-true n (code_of k) e))
  found-by k ks false e r = r

  found : (ks : List Kind) → (kind_in ks n ≡ Unknown) ⊎ (code_of (kind_in ks n) ≡ n)
  unfolding kind_in
  found [] = inl refl
  found (k ∷ ks) = found-by k ks (eqb n (code_of k)) refl (found ks)

  kind-by : (k : Kind) → 0 < code_of k → code_of (kind_of n) ≡ code_of k → (kind_of n ≡ Unknown) ⊎ (code_of (kind_of n) ≡ n) → kind_of n ≡ kind_of (code_of k)
  kind-by k h e (inl u) = absurd (omega (arith, ap code_of u))
  kind-by k h e (inr i) = ap kind_of (sym i ∙ e)

  -- so a type that has the code of a kind is of that kind
  kind-told : (k : Kind) → 0 < code_of k → eqb (code_of (kind_of n)) (code_of k) ≡ true → kind_of n ≡ kind_of (code_of k)
  unfolding kind_of
  kind-told k h e = kind-by k h (eqb-true (code_of (kind_of n)) (code_of k) e) (found known)

-- ---- the part of a kind

sofh-kind : kind_of (code_of SOFH) ≡ SOFH
unfolding kind_of kind_in known
sofh-kind = refl

eofh-kind : kind_of (code_of EOFH) ≡ EOFH
unfolding kind_of kind_in known
eofh-kind = refl

-- what a part says of a kind
abbrev pub Says : Part → Kind → Type 0
Says Data k = (shape : Shape) × (shaped k ≡ Some shape)
Says Header k = k ≡ SOFH
Says HeaderEnd k = k ≡ EOFH
Says Other k = Unit {0}

module _ (n : ℕ) where
  says-by : (x : Option Shape) (a b : Bool) → shaped (kind_of n) ≡ x → eqb (code_of (kind_of n)) (code_of SOFH) ≡ a → eqb (code_of (kind_of n)) (code_of EOFH) ≡ b →
      Says (part_by x (code_of (kind_of n))) (kind_of n)
  says-by (Some shape) a b e i j = (shape, e)
  says-by None true b e i j = rw i (kind-told n SOFH (omega arith) i ∙ sofh-kind)
  says-by None false true e i j = rw (i, j) (kind-told n EOFH (omega arith) j ∙ eofh-kind)
  says-by None false false e i j = rw (i, j) tt

  pub says : Says (part_of (kind_of n)) (kind_of n)
  unfolding part_of
  says = says-by (shaped (kind_of n)) (eqb (code_of (kind_of n)) (code_of SOFH)) (eqb (code_of (kind_of n)) (code_of EOFH)) refl refl refl

module _ (k : Kind) where
  -- two parts of a kind are one, so they have one number
  pub apart : (p q : Part) → part_of k ≡ p → part_of k ≡ q → tag_of Part.the_type p ≡ tag_of Part.the_type q
  apart p q e i = ap (tag_of Part.the_type) (sym e ∙ i)

  pub is-sofh : k ≡ SOFH → part_of k ≡ Header
  unfolding part_of shaped
  is-sofh e = rw e

  pub is-eofh : k ≡ EOFH → part_of k ≡ HeaderEnd
  unfolding part_of shaped
  is-eofh e = rw e

  pub is-data : (shape : Shape) × (shaped k ≡ Some shape) → part_of k ≡ Data
  unfolding part_of
  is-data h = rw h.1
