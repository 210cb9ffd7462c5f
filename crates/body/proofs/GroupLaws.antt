-- Laws of the kinds that count channels.
use Prim.Native.Nat.{ℕ, ◌+◌, ◌*◌, ◌≤◌, ◌<◌}
use mathlib.Core.Path.{◌≡◌, refl}
use mathlib.Core.Bool.{Bool, true, false}
use mathlib.Core.List.{List}
use native.Mathlib.Omega.{arith}
use lib.Dec.{eqb, ltb}
use lib.IntN.{ℤ, pos, negsuc, nat_abs}
use lib.ListN.{length}
use lib.Signed.{le_z}
use mir.Syntax.{w32}
use mir.Val.{to_z}
use mir.ValLaws.{to_z_pos}
use borrow.Author.Tests.{lt-ltb, le-ltb, le-leb, lt-leb, eq-eqb, ne_eqb, ltb-true, ltb-false}
use Rattle.num.specs.Answer.{Answer, gives, refuses, then}
use Rattle.num.specs.Choice.{pick, both, either}
use Rattle.num.specs.Number.{unsigned_at}
use Rattle.num.specs.declared.Order.{Order}
use Rattle.num.proofs.Tests.{both-true}
use Rattle.body.specs.Check.{int32}
use Rattle.body.specs.Lists.{sixteen}
use Rattle.body.specs.Groups.{listed, is_number, head_ok, offset_at, offsets_ok, packed}
use Rattle.body.proofs.Laws.{negative32, is-pattern, natural-pattern}

-- a count that is not 1 to 16, by its pattern
many-by : (u : ℕ) (b : Bool) → ltb u 2147483648 ≡ b → 16 < u → both (le_z (pos 1) (to_z w32 u)) (le_z (to_z w32 u) (pos 16)) ≡ false
many-by u true e h = rw (to_z_pos w32 u (ltb-true u 2147483648 e), le-leb 1 u (omega arith), lt-leb u 16 h)
many-by u false e h = rw (negative32 u (ltb-false u 2147483648 e))

module _ {A : Type 0} (head value : ℕ) (o : Order) (body : List ℕ) (f : ℕ → Answer A) where
  pub listed-short : length body < head → refuses 11 ≡ listed head value o body f
  unfolding listed
  listed-short h = rw (lt-ltb (length body) head h)

  pub listed-none : (u : ℕ) → u ≡ unsigned_at 4 o body 0 → head ≤ length body → u < 1 → refuses 13 ≡ listed head value o body f
  unfolding listed
  listed-none u e h k = let z : u ≡ 0 = omega arith in rw (le-ltb (length body) head h, ← e, z)

  pub listed-many : (u : ℕ) → u ≡ unsigned_at 4 o body 0 → head ≤ length body → 16 < u → refuses 13 ≡ listed head value o body f
  unfolding listed
  listed-many u e h k = rw (le-ltb (length body) head h, ← e, many-by u (ltb u 2147483648) refl k)

  pub listed-size : (u : ℕ) → u ≡ unsigned_at 4 o body 0 → head ≤ length body → 1 ≤ u → u ≤ 16 → (length body ≡ head + value * u → ⊥) → refuses 11 ≡ listed head value o body f
  unfolding listed
  listed-size u e h k m q =
      rw (le-ltb (length body) head h, ← e, to_z_pos w32 u (omega arith), le-leb 1 u k, le-leb u 16 m, ne_eqb (length body) (head + value * u) q)

  pub listed-whole : (u : ℕ) → u ≡ unsigned_at 4 o body 0 → head ≤ length body → 1 ≤ u → u ≤ 16 → length body ≡ head + value * u → f u ≡ listed head value o body f
  unfolding listed
  listed-whole u e h k m q =
      rw (le-ltb (length body) head h, ← e, to_z_pos w32 u (omega arith), le-leb 1 u k, le-leb u 16 m, eq-eqb (length body) (head + value * u) q)

  then-by : (a b c : Bool) (n : ℕ) →
      pick a (refuses 11) (pick b (pick c (f n) (refuses 11)) (refuses 13)) ≡ then (pick a (refuses 11) (pick b (pick c (gives n) (refuses 11)) (refuses 13))) f
  then-by true b c n = refl
  then-by false true true n = refl
  then-by false true false n = refl
  then-by false false c n = refl

  -- the count first, then what depends on it
  pub listed-then : listed head value o body f ≡ then (listed head value o body gives) f
  unfolding listed
  listed-then =
      let z = int32 o body 0 in
      then-by (ltb (length body) head) (both (le_z (pos 1) z) (le_z z (pos 16))) (eqb (length body) (head + value * nat_abs z)) (nat_abs z)

-- what a count says, by the pattern of the number at the front
pub ruleset counted = (listed-short, listed-none, listed-many, listed-size, listed-whole)

-- the count first, then what depends on it
pub ruleset counts_first = (listed-then)

-- ---- GIQP, by the patterns p of its packing and q of its increment

head-natural : (n : ℕ) (p z : ℤ) → head_ok n p z ≡ true → le_z (pos 0) z ≡ true
head-natural n p (pos m) h = le-leb 0 m (omega arith)
head-natural n p (negsuc m) h = (both-true (either (is_number 0 p) (is_number 1 p)) false h).1

module _ (o : Order) (body : List ℕ) (n p q : ℕ) (ep : p ≡ unsigned_at 4 o body 4) (eq : q ≡ unsigned_at 4 o body 8) where
  pub packed-head : head_ok n (to_z w32 p) (to_z w32 q) ≡ false → packed o body n ≡ refuses 12
  unfolding packed
  packed-head h = rw (← ep, ← eq, h)

  pub packed-offsets : head_ok n (to_z w32 p) (to_z w32 q) ≡ true → offsets_ok o body n ≡ false → packed o body n ≡ refuses 12
  unfolding packed
  packed-offsets h k = rw (← ep, ← eq, h, k)

  pub packed-good : head_ok n (to_z w32 p) (to_z w32 q) ≡ true → offsets_ok o body n ≡ true →
      packed o body n ≡ gives (record { n = n; iq = eqb p 1; increment = q; offsets = sixteen (λ c. nat_abs (offset_at o body c)) 0 n })
  unfolding packed
  packed-good h k = rw (← ep, ← eq, h, k, is-pattern 1 p (omega arith), natural-pattern q (head-natural n (to_z w32 p) (to_z w32 q) h))

-- what a packing says, by these patterns
pub ruleset packing = (packed-head, packed-offsets, packed-good)
