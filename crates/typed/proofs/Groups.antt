-- What a group's values make is read back as the values, for every group that a state may hold; what the row does not allow is refused.
use Prim.Native.Nat.{ℕ, zero, suc, ◌+◌, ◌*◌, ◌^◌, ◌≤◌, ◌<◌}
use mathlib.Core.Path.{◌≡◌, refl, sym, ap, ◌∙◌}
use mathlib.Core.Bool.{Bool, true, false}
use mathlib.Core.List.{List, [], ◌∷◌, ◌++◌, append_assoc}
use native.Mathlib.Nat.{mul_comm}
use native.Mathlib.Omega.{arith}
use borrow.Author.Tests.{le-ltb, le-leb, lt-ltb, ltb-true, ltb-false, leb-true, eqb-true, ne_eqb}
use lib.Dec.{T, eqb, ltb, leb}
use lib.Ieee.{Float, binary32, of_bits, to_bits, fits}
use lib.Ieee.Bits.{of_bits-to_bits, to_bits-lt}
use lib.IntN.{ℤ, pos, negsuc, nat_abs}
use lib.ListN.{length, take, get_or, length-append}
use lib.Signed.{le_z}
use mir.Syntax.{w32, w64}
use mir.Val.{SFits, to_z, of_z}
use mir.ValLaws.{to_z_pos, to_z-of_z, of_z_fits}
use Rattle.num.specs.Answer.{Answer, gives, refuses}
use Rattle.num.specs.Choice.{pick, either}
use Rattle.num.specs.Number.{unsigned_at, bytes_of}
use Rattle.num.specs.declared.Order.{Order}
use Rattle.num.proofs.Laws.{bytes-length}
use Rattle.num.proofs.Tests.{both-true, each-all}
use Rattle.body.specs.Groups.{listed, head_ok, offset_at, offsets_ok, packed, hertz_at, tuned, gain_at, gains_ok, amplified, giqp, gcf, grg}
use Rattle.body.specs.Levels.{is_finite}
use Rattle.body.specs.Lists.{upto, sixteen}
use Rattle.body.specs.declared.groups.GroupPacking.{GroupPacking}
use Rattle.body.specs.declared.groups.GroupHertz.{GroupHertz}
use Rattle.body.specs.declared.groups.GroupGains.{GroupGains}
use Rattle.body.proofs.GroupLaws.{listed-many, listed-whole, packed-good}
use Rattle.body.proofs.Laws.{is-pattern}
use Rattle.state.specs.Good.{is_zero, is_plus_zero, any_number, is_offset, is_no_offset, good_from, good_head, good_list, good_group, good_frequencies, good_gains}
use Rattle.state.proofs.Tests.{plus-zero-pattern}
use Rattle.lay.specs.Numbers.{int64}
use Rattle.lay.specs.Runs.{run_of}
use Rattle.lay.proofs.Values.{first-length}
use Rattle.typed.specs.Bodies.{float32}
use Rattle.typed.specs.Groups.{at_most, count_then, packing_body, hertz_body, gains_body}
use Rattle.typed.proofs.Numbers.{number-at, value-at}

-- ---- lists of sixteen

module _ {A : Type 0} (f : ℕ → A) (d : A) (n : ℕ) where
  upto-is : (i : ℕ) (l : List A) → ((j : ℕ) → j < length l → pick (ltb (i + j) n) (f (i + j)) d ≡ get_or l j d) → upto f d n i (length l) ≡ l
  unfolding upto
  upto-is i [] h = refl
  upto-is i (x ∷ l) h =
      let e : i + 0 ≡ i = omega arith in
      let a : pick (ltb i n) (f i) d ≡ x = rw e at (h 0 (omega arith)) in
      let r : upto f d n (suc i) (length l) ≡ l = upto-is (suc i) l (λ j k. let z : suc i + j ≡ i + suc j = omega arith in rw z (h (suc j) (omega arith))) in
      rw (a, r)

module _ {A : Type 0} (ok none : A → Bool) (d : A) (n : ℕ) where
  -- what a good list has at a place
  good-at : (i j : ℕ) (l : List A) → good_from ok none n i l ≡ true → j < length l → pick (ltb (i + j) n) (ok (get_or l j d)) (none (get_or l j d)) ≡ true
  unfolding good_from
  good-at i j [] g h = absurd (omega arith)
  good-at i zero (x ∷ l) g h =
      let e : i + 0 ≡ i = omega arith in
      rw e (both-true (pick (ltb i n) (ok x) (none x)) (good_from ok none n (suc i) l) g).0
  good-at i (suc j) (x ∷ l) g h =
      let e : i + suc j ≡ suc i + j = omega arith in
      rw e (good-at (suc i) j l (both-true (pick (ltb i n) (ok x) (none x)) (good_from ok none n (suc i) l) g).1 (omega arith))

  used-at : (c : ℕ) (l : List A) → good_from ok none n 0 l ≡ true → c < length l → c < n → ok (get_or l c d) ≡ true
  used-at c l g h k =
      let e : 0 + c ≡ c = omega arith in
      rw (e, lt-ltb c n k) at (good-at 0 c l g h)

  module _ (f : ℕ → A) (l : List A) (good : good_from ok none n 0 l ≡ true)
      (used : (c : ℕ) → c < n → f c ≡ get_or l c d) (unused : (c : ℕ) → none (get_or l c d) ≡ true → get_or l c d ≡ d) where
    place-back : (c : ℕ) (b : Bool) → ltb c n ≡ b → c < length l → pick b (f c) d ≡ get_or l c d
    place-back c true e h = used c (ltb-true c n e)
    place-back c false e h =
        let z : 0 + c ≡ c = omega arith in
        sym (unused c (rw (z, e) at (good-at 0 c l good h)))

    -- the places that were read, one by one, are the list
    list_back : length l ≡ 16 → sixteen f d n ≡ l
    list_back m = rw m at (upto-is f d n 0 l (λ j h. let z : 0 + j ≡ j = omega arith in rw z (place-back j (ltb j n) refl h)))

-- ---- the count

module _ {A : Type 0} (head value : ℕ) (o : Order) (n : ℕ) (rest : List ℕ) (f : ℕ → Answer A) (few : 1 ≤ n) (many : n ≤ 16) where
  -- the count is read back, and the values for that count
  pub counted-back : 4 ≤ head → length (count_then o n rest) ≡ head + value * n → listed head value o (count_then o n rest) f ≡ f n
  counted-back h e =
      let t : at_most 17 n ≡ n = rw (le-ltb 17 n (omega arith)) in
      sym (listed-whole head value o (count_then o n rest) f n (sym (number-at o 4 (at_most 17 n) [] rest 0 refl (rw t (omega arith)) ∙ t)) (omega arith) few many e)

-- ---- a count that is too large

at-most-many : (n : ℕ) (b : Bool) → ltb 17 n ≡ b → 16 < n → pick b 17 n ≡ 17
at-most-many n true e h = refl
at-most-many n false e h = let k = ltb-false 17 n e in omega arith

module _ {A : Type 0} (head value : ℕ) (o : Order) (n : ℕ) (rest : List ℕ) (f : ℕ → Answer A) where
  pub counted-many : 16 < n → head ≤ length (count_then o n rest) → listed head value o (count_then o n rest) f ≡ refuses 13
  counted-many h k =
      let t : at_most 17 n ≡ 17 = at-most-many n (ltb 17 n) refl h in
      sym (listed-many head value o (count_then o n rest) f 17 (sym (number-at o 4 (at_most 17 n) [] rest 0 refl (rw t (omega arith)) ∙ t)) k (omega arith))

-- ---- the size

-- a count and n values of w bytes
pub values-size : {A : Type 0} (o : Order) (w n : ℕ) (pattern : A → ℕ) (xs : List A) → n ≤ length xs → length (count_then o n (run_of (λ x. bytes_of o w (pattern x)) (take n xs))) ≡ 4 + w * n
values-size o w n pattern xs h =
    let l = run_of (λ x. bytes_of o w (pattern x)) (take n xs) in
    omega (arith, length-append (bytes_of o 4 (at_most 17 n)) l, bytes-length o 4 (at_most 17 n), first-length (λ x. bytes_of o w (pattern x)) w (λ x. bytes-length o w (pattern x)) xs n h, mul_comm w n)

-- ---- GIQP

packing-small : (b : Bool) → pick b 1 0 < 256 ^ 4
packing-small true = omega arith
packing-small false = omega arith

pub packing-is : (b : Bool) → eqb (pick b 1 0) 1 ≡ b
packing-is true = refl
packing-is false = refl

one-or : (a n : ℕ) (b : Bool) → eqb a 1 ≡ b → either b (eqb a n) ≡ true → 1 ≤ n → a ≤ n
one-or a n true e h k = let i = eqb-true a 1 e in omega arith
one-or a n false e h k = let i = eqb-true a n h in omega arith

head-back : (b : Bool) (a n : ℕ) → n ≤ 16 → either (eqb a 1) (eqb a n) ≡ true → head_ok n (to_z w32 (pick b 1 0)) (to_z w32 a) ≡ true
head-back true a n h e = rw (is-pattern 1 a (omega arith), is-pattern n a (omega arith)) e
head-back false a n h e = rw (is-pattern 1 a (omega arith), is-pattern n a (omega arith)) e

pub packing-size : (o : Order) (g : GroupPacking) → g.n ≤ length g.offsets → length (packing_body o g) ≡ 12 + 4 * g.n
unfolding packing_body
packing-size o g h = simp (length-append, bytes-length) (omega (arith, first-length (bytes_of o 4) 4 (bytes-length o 4) g.offsets g.n h))

module _ (o : Order) (g : GroupPacking) (few : 1 ≤ g.n) (many : g.n ≤ 16) (all : length g.offsets ≡ 16)
    (step : g.increment < 2 ^ 32) (fit : (c : ℕ) → c < g.n → get_or g.offsets c 0 < 2 ^ 32) where
  abbrev count : List ℕ
  count = bytes_of o 4 (at_most 17 g.n)

  abbrev iq : List ℕ
  iq = bytes_of o 4 (pick g.iq 1 0)

  abbrev increment : List ℕ
  increment = bytes_of o 4 g.increment

  abbrev offsets : List ℕ
  offsets = run_of (bytes_of o 4) (take g.n g.offsets)

  packing-read : giqp o (packing_body o g) ≡ packed o (packing_body o g) g.n
  unfolding packing_body
  packing-read = counted-back 12 4 o g.n (iq ++ (increment ++ offsets)) (packed o (packing_body o g)) few many (omega arith) (packing-size o g (omega arith))

  pub iq-at : pick g.iq 1 0 ≡ unsigned_at 4 o (packing_body o g) 4
  unfolding packing_body
  iq-at = sym (number-at o 4 (pick g.iq 1 0) count (increment ++ offsets) 4 (bytes-length o 4 (at_most 17 g.n)) (packing-small g.iq))

  pub increment-at : g.increment ≡ unsigned_at 4 o (packing_body o g) 8
  unfolding packing_body
  increment-at =
      let n : length (count ++ iq) ≡ 8 = simp (length-append, bytes-length) in
      sym (ap (λ (l : List ℕ). unsigned_at 4 o l 8) (sym (append_assoc count iq (increment ++ offsets))) ∙ number-at o 4 g.increment (count ++ iq) offsets 8 n step)

  pub offset-at : (c : ℕ) → c < g.n → offset_at o (packing_body o g) c ≡ to_z w32 (get_or g.offsets c 0)
  unfolding packing_body offset_at
  offset-at c h =
      let front = (count ++ iq) ++ increment in
      let n : length front ≡ 12 = simp (length-append, bytes-length) in
      let e : count ++ (iq ++ (increment ++ offsets)) ≡ front ++ offsets = sym (simp append_assoc) in
      ap (λ (l : List ℕ). to_z w32 (unsigned_at 4 o l (12 + 4 * c))) e
      ∙ ap (to_z w32) (value-at o 4 (λ (x : ℕ). x) front 12 g.n c g.offsets 0 n h (omega arith) (fit c h))

  -- a good group is read back
  good-back : good_group g ≡ true → giqp o (packing_body o g) ≡ gives g
  good-back good =
      let a = both-true (good_head g) (good_list is_offset is_no_offset g.n g.offsets) good in
      let b = (both-true (leb g.n 16) (good_from is_offset is_no_offset g.n 0 g.offsets) a.1).1 in
      let i : either (eqb g.increment 1) (eqb g.increment g.n) ≡ true = rw (ne_eqb g.n 0 (λ e. omega arith)) at a.0 in
      let r : offsets_ok o (packing_body o g) g.n ≡ true = each-all (λ c. le_z (pos 0) (offset_at o (packing_body o g) c)) g.n (λ c h. rw (is-offset b c h) (le-leb 0 (get_or g.offsets c 0) (omega arith))) in
      let v : sixteen (λ c. nat_abs (offset_at o (packing_body o g) c)) 0 g.n ≡ g.offsets = list_back is_offset is_no_offset 0 g.n _ g.offsets b (λ c h. ap nat_abs (is-offset b c h)) (λ c h. eqb-true _ 0 h) all in
      packing-read
      ∙ packed-good o (packing_body o g) g.n (pick g.iq 1 0) g.increment iq-at increment-at (head-back g.iq g.increment g.n many i) r
      ∙ rw (packing-is g.iq, v)
    where
      is-offset : good_from is_offset is_no_offset g.n 0 g.offsets ≡ true → (c : ℕ) → c < g.n → offset_at o (packing_body o g) c ≡ pos (get_or g.offsets c 0)
      is-offset b c h = offset-at c h ∙ to_z_pos w32 (get_or g.offsets c 0) (ltb-true _ _ (used-at is_offset is_no_offset 0 g.n c g.offsets b (omega arith) h))

pub packing-back : (o : Order) (g : GroupPacking) → good_group g ≡ true → 1 ≤ g.n → length g.offsets ≡ 16 → giqp o (packing_body o g) ≡ gives g
packing-back o g good few all =
    let a = both-true (good_head g) (good_list is_offset is_no_offset g.n g.offsets) good in
    let b = both-true (leb g.n 16) (good_from is_offset is_no_offset g.n 0 g.offsets) a.1 in
    let many = leb-true g.n 16 b.0 in
    let i : either (eqb g.increment 1) (eqb g.increment g.n) ≡ true = rw (ne_eqb g.n 0 (λ e. omega arith)) at a.0 in
    let small = one-or g.increment g.n (eqb g.increment 1) refl i few in
    good-back o g few many all (omega arith) (λ c h. let k = ltb-true (get_or g.offsets c 0) (2 ^ 31) (used-at is_offset is_no_offset 0 g.n c g.offsets b.1 (omega arith) h) in omega arith) good

-- ---- GCF_

-- a number, and a float, that pass for an absent one are 0
pub zero-is : (z : ℤ) → is_zero z ≡ true → z ≡ pos 0
zero-is (pos n) h = ap pos (eqb-true n 0 h)
zero-is (negsuc n) h = let z : ◌≡◌ {A = ℕ} 0 1 = cc in absurd (omega arith)

module _ (o : Order) (g : GroupHertz) (all : length g.values ≡ 16) (fit : (c : ℕ) → SFits w64 (get_or g.values c (pos 0))) where
  pub hertz-at : (c : ℕ) → g.n ≤ 16 → c < g.n → hertz_at o (hertz_body o g) c ≡ get_or g.values c (pos 0)
  unfolding hertz_body hertz_at
  hertz-at c many h =
      ap (to_z w64) (value-at o 8 (of_z w64) (bytes_of o 4 (at_most 17 g.n)) 4 g.n c g.values (pos 0) (bytes-length o 4 (at_most 17 g.n)) h (omega arith) (of_z_fits w64 _ (fit c)).fits)
      ∙ to_z-of_z w64 _ (fit c)

module _ (o : Order) (g : GroupHertz) (good : good_frequencies g ≡ true) (few : 1 ≤ g.n) (all : length g.values ≡ 16)
    (fit : (c : ℕ) → SFits w64 (get_or g.values c (pos 0))) where
  pub hertz-back : gcf o (hertz_body o g) ≡ gives g
  unfolding hertz_body tuned
  hertz-back =
      let b = both-true (leb g.n 16) (good_from any_number is_zero g.n 0 g.values) good in
      let many = leb-true g.n 16 b.0 in
      counted-back 4 8 o g.n (run_of (int64 o) (take g.n g.values)) (tuned o (hertz_body o g)) few many (omega arith) (values-size o 8 g.n (of_z w64) g.values (omega arith))
      ∙ rw (list_back any_number is_zero (pos 0) g.n (hertz_at o (hertz_body o g)) g.values b.1 (λ c h. hertz-at o g all fit c many h) (λ c h. zero-is _ h) all)

-- ---- GRG_

pub plus-zero-is : (x : Float) → T (fits binary32 x) → is_plus_zero x ≡ true → x ≡ of_bits binary32 0
plus-zero-is x f h = sym (of_bits-to_bits binary32 x f) ∙ ap (of_bits binary32) (eqb-true (to_bits binary32 x) 0 (plus-zero-pattern x f ∙ h))

module _ (o : Order) (g : GroupGains) (few : 1 ≤ g.n) (many : g.n ≤ 16) (all : length g.values ≡ 16)
    (fit : (c : ℕ) → T (fits binary32 (get_or g.values c (of_bits binary32 0)))) where
  pub gain-at : (c : ℕ) → c < g.n → gain_at o (gains_body o g) c ≡ get_or g.values c (of_bits binary32 0)
  unfolding gains_body gain_at
  gain-at c h =
      ap (of_bits binary32) (value-at o 4 (to_bits binary32) (bytes_of o 4 (at_most 17 g.n)) 4 g.n c g.values (of_bits binary32 0) (bytes-length o 4 (at_most 17 g.n)) h (omega arith) (to_bits-lt binary32 _ (fit c)))
      ∙ of_bits-to_bits binary32 _ (fit c)

  gains-read : grg o (gains_body o g) ≡ amplified o (gains_body o g) g.n
  unfolding gains_body
  gains-read = counted-back 4 4 o g.n (run_of (float32 o) (take g.n g.values)) (amplified o (gains_body o g)) few many (omega arith) (values-size o 4 g.n (to_bits binary32) g.values (omega arith))

  finite-back : good_from is_finite is_plus_zero g.n 0 g.values ≡ true → grg o (gains_body o g) ≡ gives g
  unfolding amplified
  finite-back b =
      let d = of_bits binary32 0 in
      let r : gains_ok o (gains_body o g) g.n ≡ true = each-all (λ c. is_finite (gain_at o (gains_body o g) c)) g.n (λ c h. rw (gain-at c h) (used-at is_finite is_plus_zero d g.n c g.values b (omega arith) h)) in
      gains-read ∙ rw (r, list_back is_finite is_plus_zero d g.n (gain_at o (gains_body o g)) g.values b gain-at (λ c h. plus-zero-is _ (fit c) h) all)

pub gains-back : (o : Order) (g : GroupGains) → good_gains g ≡ true → 1 ≤ g.n → length g.values ≡ 16 → ((c : ℕ) → T (fits binary32 (get_or g.values c (of_bits binary32 0)))) →
    grg o (gains_body o g) ≡ gives g
gains-back o g good few all fit =
    let b = both-true (leb g.n 16) (good_from is_finite is_plus_zero g.n 0 g.values) good in
    finite-back o g few (leb-true g.n 16 b.0) all fit b.1
