-- Reading what a group's values make says what the row says of the values, whatever their count.
use Prim.Native.Nat.{ℕ, zero, suc, ◌+◌, ◌*◌, ◌≤◌, ◌<◌}
use mathlib.Core.Path.{◌≡◌, refl, sym, ap, ◌∙◌}
use mathlib.Core.Bool.{Bool, true, false}
use mathlib.Core.List.{List, []}
use native.Mathlib.Omega.{arith}
use borrow.Author.Tests.{le-leb, ltb-true, ltb-false, leb-true, leb-false}
use lib.Dec.{eqb, ltb, leb}
use lib.Ieee.{binary32, of_bits, to_bits}
use lib.IntN.{pos, nat_abs}
use lib.ListN.{length, get_or, length-append}
use lib.Signed.{le_z}
use mir.Syntax.{w32, w64}
use mir.Val.{to_z, of_z}
use mir.ValLaws.{to_z_pos}
use Rattle.num.specs.Answer.{Answer, gives, refuses, then}
use Rattle.num.specs.Choice.{pick, both, either, each}
use Rattle.num.specs.Number.{unsigned_at}
use Rattle.num.specs.declared.Order.{Order}
use Rattle.num.proofs.Laws.{bytes-length}
use Rattle.num.proofs.Tests.{each-at, each-same}
use Rattle.body.specs.Groups.{listed, head_ok, offset_at, offsets_ok, packed, hertz_at, tuned, gain_at, amplified, giqp, gcf, grg}
use Rattle.body.specs.Levels.{is_finite}
use Rattle.body.specs.Lists.{upto, sixteen}
use Rattle.body.specs.declared.groups.GroupPacking.{GroupPacking}
use Rattle.body.specs.declared.groups.GroupHertz.{GroupHertz}
use Rattle.body.specs.declared.groups.GroupGains.{GroupGains}
use Rattle.body.specs.declared.kinds.Kind.TheVariants.{GIQP, GCF, GRG}
use Rattle.body.proofs.GroupLaws.{listed-none, packed-head, packed-offsets, packed-good}
use Rattle.body.proofs.Laws.{negative32, is-pattern, natural-pattern}
use Rattle.state.specs.Good.{is_offset}
use Rattle.typed.specs.Groups.{at_most, count_then, packing_body, hertz_body, gains_body}
use Rattle.typed.proofs.Groups.{counted-back, counted-many, packing-is, packing-size, values-size, iq-at, increment-at, offset-at, hertz-at, gain-at}
use Rattle.typed.proofs.Numbers.{number-at}
use Rattle.values.specs.Made.{Fitting}
use Rattle.values.specs.Says.{unless, packing_ok, gains_finite, used_packing, used_hertz, used_gains, says}
use Rattle.values.proofs.Numbers.{unless-is}

-- ---- lists that agree below n

module _ {A : Type 0} (f g : ℕ → A) (d : A) (n : ℕ) (same : (c : ℕ) → c < n → f c ≡ g c) where
  place-same : (i : ℕ) (b : Bool) → ltb i n ≡ b → pick b (f i) d ≡ pick b (g i) d
  place-same i true e = same i (ltb-true i n e)
  place-same i false e = refl

  upto-same : (i k : ℕ) → upto f d n i k ≡ upto g d n i k
  unfolding upto
  upto-same i zero = refl
  upto-same i (suc k) = rw (place-same i (ltb i n) refl, upto-same (suc i) k)

  sixteen-same : sixteen f d n ≡ sixteen g d n
  sixteen-same = upto-same 0 16

-- ---- the count

module _ {A : Type 0} (head value : ℕ) (o : Order) (n : ℕ) (rest : List ℕ) (f : ℕ → Answer A) (fits : 4 ≤ head)
    (long : head ≤ length (count_then o n rest)) where
  counted-none : n ≡ 0 → listed head value o (count_then o n rest) f ≡ refuses 13
  counted-none z =
      let t : at_most 17 n ≡ 0 = ap (at_most 17) z in
      sym (listed-none head value o (count_then o n rest) f 0 (sym (number-at o 4 (at_most 17 n) [] rest 0 refl (rw t (omega arith)) ∙ t)) long (omega arith))

  -- the values are read for their count where it is 1 to 16, and else the number is 13
  counted-said : ((few : 1 ≤ n) (many : n ≤ 16) → length (count_then o n rest) ≡ head + value * n) →
      (a b : Bool) → leb 1 n ≡ a → leb n 16 ≡ b → listed head value o (count_then o n rest) f ≡ pick (both a b) (f n) (refuses 13)
  counted-said size true true e i =
      let few = leb-true 1 n e in
      let many = leb-true n 16 i in
      counted-back head value o n rest f few many fits (size few many)
  counted-said size true false e i = counted-many head value o n rest f (leb-false n 16 i) long
  counted-said size false b e i = let h = leb-false 1 n e in counted-none (omega arith)

-- what is said for a count of 1 to 16 is said
by-count : {A : Type 0} (n : ℕ) (a : Answer A) (j : Answer (Unit {0})) (x : A) → ((few : 1 ≤ n) (many : n ≤ 16) → a ≡ then j (λ _. gives x)) →
    (b c : Bool) → leb 1 n ≡ b → leb n 16 ≡ c → pick (both b c) a (refuses 13) ≡ then (pick (both b c) j (refuses 13)) (λ _. gives x)
by-count n a j x h true true e i = h (leb-true 1 n e) (leb-true n 16 i)
by-count n a j x h true false e i = refl
by-count n a j x h false c e i = refl

-- ---- GIQP

natural-by : (u : ℕ) (b : Bool) → ltb u 2147483648 ≡ b → le_z (pos 0) (to_z w32 u) ≡ b
natural-by u true e = rw (to_z_pos w32 u (ltb-true u 2147483648 e)) (le-leb 0 u (omega arith))
natural-by u false e = rw (negative32 u (ltb-false u 2147483648 e))

natural-said : (u : ℕ) → le_z (pos 0) (to_z w32 u) ≡ is_offset u
natural-said u = natural-by u (ltb u 2147483648) refl

head-said : (b : Bool) (a n : ℕ) → n ≤ 16 → head_ok n (to_z w32 (pick b 1 0)) (to_z w32 a) ≡ either (eqb a 1) (eqb a n)
head-said true a n h = rw (is-pattern 1 a (omega arith), is-pattern n a (omega arith))
head-said false a n h = rw (is-pattern 1 a (omega arith), is-pattern n a (omega arith))

module _ (o : Order) (g : GroupPacking) (fit : Fitting GIQP g) where
  module _ (few : 1 ≤ g.n) (many : g.n ≤ 16) where
    abbrev body : List ℕ
    body = packing_body o g

    iq : pick g.iq 1 0 ≡ unsigned_at 4 o body 4
    iq = iq-at o g few many fit.0 fit.1.fits (λ c h. (fit.2 c).fits)

    increment : g.increment ≡ unsigned_at 4 o body 8
    increment = increment-at o g few many fit.0 fit.1.fits (λ c h. (fit.2 c).fits)

    at : (c : ℕ) → c < g.n → offset_at o body c ≡ to_z w32 (get_or g.offsets c 0)
    at c h = offset-at o g few many fit.0 fit.1.fits (λ c h. (fit.2 c).fits) c h

    offsets-said : offsets_ok o body g.n ≡ each (λ c. is_offset (get_or g.offsets c 0)) g.n
    offsets-said = each-same _ _ g.n (λ c h. ap (le_z (pos 0)) (at c h) ∙ natural-said (get_or g.offsets c 0))

    places-back : each (λ c. is_offset (get_or g.offsets c 0)) g.n ≡ true →
        sixteen (λ c. nat_abs (offset_at o body c)) 0 g.n ≡ sixteen (λ c. get_or g.offsets c 0) 0 g.n
    places-back h =
        sixteen-same _ _ 0 g.n
        (λ c k. ap nat_abs (at c k) ∙ natural-pattern (get_or g.offsets c 0) (natural-said (get_or g.offsets c 0) ∙ each-at _ g.n c h k))

    packed-by : (a b : Bool) → head_ok g.n (to_z w32 (pick g.iq 1 0)) (to_z w32 g.increment) ≡ a → offsets_ok o body g.n ≡ b →
        packed o body g.n ≡ then (unless 12 (both a b)) (λ _. gives (used_packing g))
    packed-by true true e i =
        packed-good o body g.n (pick g.iq 1 0) g.increment iq increment e i
        ∙ rw (packing-is g.iq, places-back (sym offsets-said ∙ i))
    packed-by true false e i = packed-offsets o body g.n (pick g.iq 1 0) g.increment iq increment e i
    packed-by false b e i = packed-head o body g.n (pick g.iq 1 0) g.increment iq increment e

    packed_said : packed o body g.n ≡ then (unless 12 (packing_ok g)) (λ _. gives (used_packing g))
    packed_said = packed-by _ _ (head-said g.iq g.increment g.n many) offsets-said

  -- Reading the body of a group's packing says what the row says of the packing,
  pub packing-said : giqp o (packing_body o g) ≡ says GIQP g
  unfolding packing_body
  packing-said =
      counted-said 12 4 o g.n _ (packed o (packing_body o g)) (omega arith) (simp (length-append, bytes-length) (omega arith)) (λ few many. packing-size o g (omega (arith, fit.0))) _ _ refl refl
      ∙ by-count g.n (packed o (packing_body o g) g.n) (unless 12 (packing_ok g)) (used_packing g) packed_said _ _ refl refl

-- ---- GCF_

module _ (o : Order) (g : GroupHertz) (fit : Fitting GCF g) where
  tuned-said : g.n ≤ 16 → tuned o (hertz_body o g) g.n ≡ gives (used_hertz g)
  unfolding tuned
  tuned-said many = rw (sixteen-same (hertz_at o (hertz_body o g)) (λ c. get_or g.values c (pos 0)) (pos 0) g.n (λ c h. hertz-at o g fit.0 fit.1 c many h))

  -- so too of frequencies,
  pub hertz-said : gcf o (hertz_body o g) ≡ says GCF g
  unfolding hertz_body
  hertz-said =
      counted-said 4 8 o g.n _ (tuned o (hertz_body o g)) (omega arith) (simp (length-append, bytes-length) (omega arith)) (λ few many. values-size o 8 g.n (of_z w64) g.values (omega (arith, fit.0))) _ _ refl refl
      ∙ by-count g.n (tuned o (hertz_body o g) g.n) (gives tt) (used_hertz g) (λ few many. tuned-said many) _ _ refl refl

-- ---- GRG_

module _ (o : Order) (g : GroupGains) (fit : Fitting GRG g) where
  amplified-said : 1 ≤ g.n → g.n ≤ 16 → amplified o (gains_body o g) g.n ≡ then (unless 12 (gains_finite g)) (λ _. gives (used_gains g))
  unfolding amplified
  amplified-said few many =
      let d = of_bits binary32 0 in
      let at : (c : ℕ) → c < g.n → gain_at o (gains_body o g) c ≡ get_or g.values c d = gain-at o g few many fit.0 fit.1 in
      rw (each-same (λ c. is_finite (gain_at o (gains_body o g) c)) (λ c. is_finite (get_or g.values c d)) g.n (λ c h. ap is_finite (at c h)), sixteen-same (gain_at o (gains_body o g)) (λ c. get_or g.values c d) d g.n at)
      (unless-is 12 (gains_finite g) (used_gains g))

  -- and of gains.
  pub gains-said : grg o (gains_body o g) ≡ says GRG g
  unfolding gains_body
  gains-said =
      counted-said 4 4 o g.n _ (amplified o (gains_body o g)) (omega arith) (simp (length-append, bytes-length) (omega arith)) (λ few many. values-size o 4 g.n (to_bits binary32) g.values (omega (arith, fit.0))) _ _ refl refl
      ∙ by-count g.n (amplified o (gains_body o g) g.n) (unless 12 (gains_finite g)) (used_gains g) amplified-said _ _ refl refl
