-- What a checker gives is what its row of the table allows.
use Prim.Native.Nat.{ℕ, ◌+◌, ◌*◌, ◌^◌, ◌≤◌, ◌<◌}
use mathlib.Core.Path.{◌≡◌, refl, sym, ap, ◌∙◌}
use mathlib.Core.Bool.{Bool, true, false}
use mathlib.Core.List.{List}
use native.Mathlib.Omega.{arith}
use lib.Dec.{eqb, ltb}
use lib.Ieee.{Float}
use lib.IntN.{ℤ, pos, negsuc, nat_abs}
use lib.ListN.{length}
use lib.Signed.{le_z}
use mir.Syntax.{w32}
use mir.Val.{to_z}
use mir.ValLaws.{to_z_pos}
use borrow.Author.Tests.{leb-true, ltb-true, ltb-false}
use Rattle.num.specs.Answer.{Answer, gives, refuses, then}
use Rattle.num.specs.Choice.{pick, both}
use Rattle.num.specs.declared.Order.{Order}
use Rattle.num.proofs.Tests.{both-true}
use Rattle.body.specs.Check.{int32, sized, allowed}
use Rattle.body.specs.Levels.{is_finite, finite32, float32}
use Rattle.body.specs.Groups.{with_channels, listed}
use Rattle.body.proofs.Laws.{negative32}

apart : {A B : Type 0} (a : A) (n : ℕ) → ◌≡◌ {A = Answer A} (refuses n) (gives a) → B
apart a n e = let z : ◌≡◌ {A = ℕ} 0 1 = cc in absurd (omega arith)

-- a sized body whose value is given has an allowed value
sized-by : {A : Type 0} (size ok : Bool) (v w : A) → pick size (pick ok (gives v) (refuses 12)) (refuses 11) ≡ gives w → (ok ≡ true) × (v ≡ w)
sized-by true true v w e = (refl, cc)
sized-by true false v w e = apart w 12 e
sized-by false ok v w e = apart w 11 e

pub sized-gives : {A : Type 0} (k : ℕ) (body : List ℕ) (ok : Bool) (v w : A) → sized k body (allowed ok v) ≡ gives w → (ok ≡ true) × (v ≡ w)
sized-gives k body ok v w e = sized-by (eqb (length body) k) ok v w e

-- a float that is given is finite
pub finite-gives : (o : Order) (body : List ℕ) (x : Float) → finite32 o body ≡ gives x → is_finite x ≡ true
finite-gives o body x e =
    let h = sized-gives 4 body (is_finite (float32 o body 0)) (float32 o body 0) x e in
    sym (ap is_finite h.1) ∙ h.0

-- what comes of an answer came of a value
then-by : {A B : Type 0} (a : Answer A) (f : A → Answer B) (b : B) → then a f ≡ gives b → (x : A) × (a ≡ gives x) × (f x ≡ gives b)
then-by (gives x) f b e = (x, refl, e)
then-by (refuses n) f b e = apart b n e

pub then-gives : {A B : Type 0} (a : Answer A) (f : A → Answer B) (b : B) → then a f ≡ gives b → (x : A) × (a ≡ gives x) × (f x ≡ gives b)
then-gives a f b e = then-by a f b e

-- a group that is given has 1 to 16 channels
count-by : {A : Type 0} (z : ℤ) (t : Bool) (f : ℕ → Answer A) (a : A) → both (le_z (pos 1) z) (le_z z (pos 16)) ≡ t → pick t (f (nat_abs z)) (refuses 13) ≡ gives a →
    (1 ≤ nat_abs z) × (nat_abs z ≤ 16) × (f (nat_abs z) ≡ gives a)
count-by z false f a q e = apart a 13 e
count-by (pos n) true f a q e =
    let h = both-true (le_z (pos 1) (pos n)) (le_z (pos n) (pos 16)) q in
    (leb-true 1 n h.0, leb-true n 16 h.1, e)
count-by (negsuc n) true f a q e = let z : ◌≡◌ {A = ℕ} 0 1 = cc in absurd (omega arith)

short-by : {A : Type 0} (short : Bool) (r : Answer A) (a : A) → pick short (refuses 11) r ≡ gives a → r ≡ gives a
short-by true r a e = apart a 11 e
short-by false r a e = e

whole-by : {A : Type 0} (whole : Bool) (r : Answer A) (a : A) → pick whole r (refuses 11) ≡ gives a → r ≡ gives a
whole-by true r a e = e
whole-by false r a e = apart a 11 e

pub listed-gives : {A : Type 0} (head value : ℕ) (o : Order) (body : List ℕ) (f : ℕ → Answer A) (a : A) → listed head value o body f ≡ gives a →
    (n : ℕ) × (1 ≤ n) × (n ≤ 16) × (f n ≡ gives a)
unfolding listed
listed-gives head value o body f a e =
    let z = int32 o body 0 in
    let g : ℕ → Answer _ = λ (n : ℕ). sized (head + value * n) body (f n) in
    let q = short-by (ltb (length body) head) (with_channels z g) a e in
    let h = count-by z (both (le_z (pos 1) z) (le_z z (pos 16))) g a refl q in
    (nat_abs z, h.0, h.1, whole-by (eqb (length body) (head + value * nat_abs z)) (f (nat_abs z)) a h.2)

-- an int32 that is at least 0 is below 2^31
small-by : (u : ℕ) (b : Bool) → ltb u 2147483648 ≡ b → le_z (pos 0) (to_z w32 u) ≡ true → nat_abs (to_z w32 u) < 2 ^ 31
small-by u true e h = let k = ltb-true u 2147483648 e in rw (to_z_pos w32 u k) k
small-by u false e h =
    let q = rw (negative32 u (ltb-false u 2147483648 e)) at h in
    let z : ◌≡◌ {A = ℕ} 0 1 = cc in absurd (omega arith)

pub small32 : (u : ℕ) → le_z (pos 0) (to_z w32 u) ≡ true → nat_abs (to_z w32 u) < 2 ^ 31
small32 u h = small-by u (ltb u 2147483648) refl h
