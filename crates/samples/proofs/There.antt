-- The chunk that a step gave, looked for in the stream.
use Prim.Native.Nat.{ℕ}
use mathlib.Core.Path.{◌≡◌, refl, sym, ap, ◌∙◌}
use mathlib.Core.Bool.{Bool, true, false, ◌&&◌}
use Rattle.std.proofs.Common.{int_eq}
use Rattle.std.proofs.lemmas.Bool.Decides.{Decides-int_eq}
use mathlib.Core.List.{List}
use native.Mathlib.Omega.{arith}
use lib.Dec.{eqb}
use lib.IntN.{ℤ, pos, negsuc}
use lib.ListN.{drop}
use borrow.Author.Tests.{eqb-true, eq-eqb}
use Rattle.num.specs.Answer.{gives, refuses}
use Rattle.num.specs.Choice.{pick, both}
use Rattle.num.specs.declared.Order.{Order}
use Rattle.num.proofs.Tests.{both-true, both-hold}
use Rattle.frame.specs.declared.Ahead.{Ahead}
use Rattle.frame.specs.declared.Ahead.TheVariants.{Chunk}
use Rattle.frame.proofs.Looks.{ahead-by, other-ahead}
use Rattle.body.specs.declared.sampled.Data.{Data}
use Rattle.effect.specs.Says.{verdict_said}
use Rattle.effect.specs.declared.Verdict.{Verdict}
use Rattle.effect.specs.declared.Verdict.TheVariants.{Good, Unknown, Malformed, NotCovered, Waits, Ready}
use Rattle.reader.specs.Item.{chunk, item_said}
use Rattle.reader.specs.declared.Item.{Item}
use Rattle.reader.specs.declared.Item.TheVariants.{PastEnd, BadState, End, Skipped, Unfinished}
use Rattle.state.specs.declared.State.{State}
use Rattle.samples.specs.Given.{same_time, same_data, is_that, is_there, layout_there}

-- ---- the tests tell what is equal

same-time : (a b : ℤ) → same_time a b ≡ true → a ≡ b
same-time (pos m) (pos n) e = ap pos (eqb-true m n e)
same-time (negsuc m) (negsuc n) e = ap negsuc (eqb-true m n e)
same-time (pos m) (negsuc n) e = let z : ◌≡◌ {A = ℕ} 0 1 = cc in absurd (omega arith)
same-time (negsuc m) (pos n) e = let z : ◌≡◌ {A = ℕ} 0 1 = cc in absurd (omega arith)

own-time : (a : ℤ) → same_time a a ≡ true
own-time (pos m) = eq-eqb m m refl
own-time (negsuc m) = eq-eqb m m refl

-- and the derived equality of data is that test
by-truth : (p q : Bool) → (p ≡ true → q ≡ true) → (q ≡ true → p ≡ true) → p ≡ q
by-truth true q f g = sym (f refl)
by-truth false true f g = g refl
by-truth false false f g = refl

same-times : (x y : ℤ) → int_eq x y ≡ same_time x y
same-times x y =
    by-truth (int_eq x y) (same_time x y)
    (λ e. let q : x ≡ y = (Decides-int_eq x y).0 e in rw q (own-time y))
    (λ e. (Decides-int_eq x y).1 (same-time x y e))

both-and : (p q : Bool) → (p && q) ≡ both p q
both-and true q = refl
both-and false q = refl

pub same-derived : (a b : Data) → (int_eq a.time b.time && eqb a.samples b.samples) ≡ same_data a b
same-derived a b = both-and (int_eq a.time b.time) (eqb a.samples b.samples) ∙ rw (same-times a.time b.time) refl

pub same-data : (a b : Data) → same_data a b ≡ true → a ≡ b
same-data a b e =
    let h = both-true (same_time a.time b.time) (eqb a.samples b.samples) e in
    let p = same-time a.time b.time h.0 in
    let q = eqb-true a.samples b.samples h.1 in
    λ i. record { time = p i; samples = q i }

pub own-data : (a : Data) → same_data a a ≡ true
own-data a = both-hold (same_time a.time a.time) (eqb a.samples a.samples) (own-time a.time) (eq-eqb a.samples a.samples refl)

pub is-that : (code size : ℕ) (a : Ahead) → is_that code size a ≡ true → a ≡ Chunk code size
is-that code size a =
    ahead-by (λ (b : Ahead). is_that code size b ≡ true → b ≡ Chunk code size)
    (λ k n e. let h = both-true (eqb k code) (eqb n size) e in rw (eqb-true k code h.0, eqb-true n size h.1))
    (λ b n e. let z : ◌≡◌ {A = ℕ} 0 1 = cc (other-ahead false (λ k m. both (eqb k code) (eqb m size)) b n) in absurd (omega arith))
    a

pub own-that : (code size : ℕ) → is_that code size (Chunk code size) ≡ true
own-that code size = both-hold (eqb code code) (eqb size size) (eq-eqb code code refl) (eq-eqb size size refl)

-- ---- what is refused

pub pick-same : {A : Type 0} (b : Bool) (x : A) → pick b x x ≡ x
pick-same true x = refl
pick-same false x = refl

module _ (float : Bool) (o : Order) (s : List ℕ) (channel : ℕ) (shown : State) where
  -- an item that is no chunk
  pub no-chunk : (i : Item) → ((place code size : ℕ) (v : Verdict) → i ≡ Item.Chunk place code size v → ⊥) → layout_there float o s channel shown (item_said i) ≡ refuses 35
  no-chunk PastEnd h = refl
  no-chunk BadState h = refl
  no-chunk End h = refl
  no-chunk (Skipped place n cause) h = refl
  no-chunk (Unfinished place n) h = refl
  no-chunk (Item.Chunk place code size v) h = absurd (h place code size v refl)

  module _ (place code size : ℕ) where
    -- a chunk that is not said to be ready
    pub not-ready : (v : Verdict) → ((d : Data) → v ≡ Ready d → ⊥) → layout_there float o s channel shown (gives (chunk place code size (verdict_said v))) ≡ refuses 35
    not-ready Good h = pick-same (is_there o (drop place s) shown code size (verdict_said Good)) (refuses 35)
    not-ready Unknown h = pick-same (is_there o (drop place s) shown code size (verdict_said Unknown)) (refuses 35)
    not-ready (Malformed f) h = pick-same (is_there o (drop place s) shown code size (verdict_said (Malformed f))) (refuses 35)
    not-ready NotCovered h = pick-same (is_there o (drop place s) shown code size (verdict_said NotCovered)) (refuses 35)
    not-ready (Waits l t) h = pick-same (is_there o (drop place s) shown code size (verdict_said (Waits l t))) (refuses 35)
    not-ready (Ready d) h = absurd (h d refl)
