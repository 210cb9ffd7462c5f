-- What number 3 allows in a slot is just what the body table allows there: a present value is good exactly where a
-- well-formed body of a kind that sets the slot leaves it, and the one good value that is not present is what stands for
-- an absent one.
use Prim.Native.Nat.{ℕ, suc}
use mathlib.Core.Path.{◌≡◌, refl, sym, ap, ap₂, subst, ◌∙◌}
use mathlib.Core.Bool.{Bool, true, false, not}
use mathlib.Core.List.{List, [], ◌∷◌, ◌++◌}
use mathlib.Core.Logic.{◌↔◌}
use native.Mathlib.Omega.{arith}
use borrow.Author.Tests.{lt-ltb, le-ltb, eq-eqb, ltb-true, ltb-false, leb-true, eqb-true, not-true}
use lib.Dec.{T, eqb, ltb, leb}
use lib.Ieee.{binary32, of_bits, to_bits, fits, lt}
use lib.IntN.{ℤ, pos, negsuc}
use lib.ListN.{length, get_or, take, replicate}
use lib.Signed.{le_z}
use mir.Syntax.{w32, w64}
use mir.Val.{SFits, of_z}
use Rattle.num.specs.Answer.{Answer, gives, refuses}
use Rattle.num.specs.Choice.{pick, both}
use Rattle.num.specs.Number.{bytes_of}
use Rattle.num.specs.declared.Order.{Order}
use Rattle.num.proofs.Laws.{Bytes, append-bytes, number-bytes}
use Rattle.num.proofs.Tests.{both-true}
use Rattle.body.specs.Check as check
use Rattle.body.specs.Check.{allowed, or_else}
use Rattle.body.specs.Groups.{head_ok, offsets_ok, gains_ok, listed, packed, tuned, amplified}
use Rattle.body.specs.Levels.{is_finite}
use Rattle.body.specs.Table.{Slot, packing, rate, band, group_band, centre, full_scale, total_gain, float_scale, group, frequencies, gains, Value, none, slot_number, is_slot, Row, sets, marks, leaves, samples, unknown, row, sets_by, set_by}
use Rattle.body.specs.Values.{no_number, no_level, number}
use Rattle.body.specs.Verdict.{seen, verdict_by, verdict}
use Rattle.body.specs.declared.groups.GroupPacking.{GroupPacking}
use Rattle.body.specs.declared.groups.GroupHertz.{GroupHertz}
use Rattle.body.specs.declared.groups.GroupGains.{GroupGains}
use Rattle.body.specs.declared.kinds.Kind.{Kind}
use Rattle.body.specs.declared.kinds.Kind.TheVariants.{SSNC, SSNR, SFNC, SFNR, GSNC, GFNC, SIQP, SR, BW, GCBW, BWOF, CF, DBFS, DBTG, FFS, GIQP, GCF, GRG, SOFH, EOFH, IQDC, TEXT, Unknown}
use Rattle.body.specs.declared.values.Held.{Held}
use Rattle.body.specs.declared.values.LevelHeld.{LevelHeld}
use Rattle.body.proofs.Allowed.{listed-gives}
use Rattle.state.specs.Good.{is_zero, is_plus_zero, zero_or_one, any_number, is_offset, is_no_offset, good_from, good_head, good_list, good_in}
use Rattle.state.specs.State.{value_in, set_in, emptied}
use Rattle.state.specs.declared.State.{State}
use Rattle.state.specs.declared.Values.{Values}
use Rattle.effect.specs.Effect.{effect_by, effect}
use Rattle.effect.proofs.Good.{Allows, allows}
use Rattle.lay.specs.Runs.{run_of}
use Rattle.lay.specs.Numbers.{int32, int64}
use Rattle.typed.specs.Bodies.{float32}
use Rattle.typed.specs.Groups.{at_most, packing_body, hertz_body, gains_body}
use Rattle.typed.proofs.Groups.{zero-is, plus-zero-is, packing-back, hertz-back, gains-back}
use Rattle.typed.proofs.Numbers.{siqp-back, at-least-back, cf-back, bwof-back, dbfs-back, dbtg-back, ffs-back}
use Rattle.claims.specs.Allowed.{is_present, Fitting, Left}

-- ---- the bodies are bytes

module _ (o : Order) where
  run-bytes : {A : Type 0} (w : ℕ) (pattern : A → ℕ) (xs : List A) → Bytes (run_of (λ x. bytes_of o w (pattern x)) xs)
  unfolding run_of
  run-bytes w pattern [] i = record { fits = omega arith }
  run-bytes w pattern (x ∷ xs) i =
      append-bytes (bytes_of o w (pattern x)) _ (number-bytes o w (pattern x)) (run-bytes w pattern xs) i

  -- a number of four bytes, then others
  four-bytes : (n : ℕ) (l : List ℕ) → Bytes l → Bytes (bytes_of o 4 n ++ l)
  four-bytes n l h = append-bytes (bytes_of o 4 n) l (number-bytes o 4 n) h

  packing-bytes : (g : GroupPacking) → Bytes (packing_body o g)
  unfolding packing_body
  packing-bytes g =
      four-bytes (at_most 17 g.n) _
      (four-bytes (pick g.iq 1 0) _ (four-bytes g.increment _ (run-bytes 4 (λ x. x) (take g.n g.offsets))))

  hertz-bytes : (g : GroupHertz) → Bytes (hertz_body o g)
  unfolding hertz_body
  hertz-bytes g = four-bytes (at_most 17 g.n) _ (run-bytes 8 (of_z w64) (take g.n g.values))

  gains-bytes : (g : GroupGains) → Bytes (gains_body o g)
  unfolding gains_body
  gains-bytes g = four-bytes (at_most 17 g.n) _ (run-bytes 4 (to_bits binary32) (take g.n g.values))

-- ---- what is good and present was left by a body

put-is : (x : Slot) (a : Value x) (v : Values) → value_in x (set_in x a v) ≡ a
put-is packing a v = refl
put-is rate a v = refl
put-is band a v = refl
put-is group_band a v = refl
put-is centre a v = refl
put-is full_scale a v = refl
put-is total_gain a v = refl
put-is float_scale a v = refl
put-is group a v = refl
put-is frequencies a v = refl
put-is gains a v = refl

-- by a body that is read as what the slot holds so
left-by : {o : Order} {x : Slot} {v : Value x} {A : Type 0} {hold : A → Value x} {read : Order → List ℕ → Answer A} {a : A}
    (k : Kind) → row k ≡ sets x hold read → (b : List ℕ) → Bytes b → read o b ≡ gives a → hold a ≡ v → Left o x v
unfolding set_by verdict effect
left-by {x = x} {hold = hold} k e b c r h = record {
  kind = k;
  body = b;
  bytes = c;
  sets_it = rw e (eq-eqb (slot_number x) (slot_number x) refl);
  well_formed = rw e (ap seen r);
  left = λ s. rw e (put-is x _ s.values ∙ ap (or_else (none x) hold) r ∙ h);
}

held : (v : Held) → v.present ≡ true → number v.value ≡ v
held v p = λ i. record { present = sym p i; value = v.value }

level-held : (v : LevelHeld) → v.present ≡ true → record { present = true; value = v.value } ≡ v
level-held v p = λ i. record { present = sym p i; value = v.value }

-- 0 and 1 have the width of an int32
small : (z : ℤ) → zero_or_one z ≡ true → SFits w32 z
small (pos n) h =
    let k = leb-true n 1 (both-true (le_z (pos 0) (pos n)) (le_z (pos n) (pos 1)) h).1 in
    record { sfits = omega arith }
small (negsuc n) h = let z : ◌≡◌ {A = ℕ} 0 1 = cc in absurd (omega arith)

-- A present value that number 3 allows in a slot is what some well-formed body of a kind that sets the slot leaves there.
pub just-allowed : (o : Order) (x : Slot) (v : Value x) → Fitting x v → is_present x v ≡ true → good_in x v ≡ true →
    Left o x v
just-allowed o packing v f p g =
    let h : zero_or_one v.value ≡ true = rw p at g in
    left-by SIQP refl (int32 o v.value) (number-bytes o 4 _) (siqp-back o v.value (small v.value h) h) (held v p)
just-allowed o rate v f p g =
    let h : le_z (pos 1) v.value ≡ true = rw p at g in
    left-by SR refl (int64 o v.value) (number-bytes o 8 _) (at-least-back o (pos 1) v.value f h) (held v p)
just-allowed o band v f p g =
    left-by BWOF refl (int64 o v.width ++ int64 o v.offset)
    (append-bytes (int64 o v.width) _ (number-bytes o 8 _) (number-bytes o 8 _))
    (bwof-back o v.width v.offset f.0 f.1 (rw p at g))
    (λ i. record { present = sym p i; width = v.width; offset = v.offset })
just-allowed o group_band v f p g =
    let h : le_z (pos 0) v.value ≡ true = rw p at g in
    left-by GCBW refl (int64 o v.value) (number-bytes o 8 _) (at-least-back o (pos 0) v.value f h) (held v p)
just-allowed o centre v f p g =
    left-by CF refl (int64 o v.value) (number-bytes o 8 _) (cf-back o v.value f) (held v p)
just-allowed o full_scale v f p g =
    left-by DBFS refl (float32 o v.value) (number-bytes o 4 _) (dbfs-back o v.value f (rw p at g)) (level-held v p)
just-allowed o total_gain v f p g =
    left-by DBTG refl (float32 o v.value) (number-bytes o 4 _) (dbtg-back o v.value f (rw p at g)) (level-held v p)
just-allowed o float_scale v f p g =
    let h = both-true (is_finite v.value) (lt (of_bits binary32 0) v.value) (rw p at g) in
    left-by FFS refl (float32 o v.value) (number-bytes o 4 _) (ffs-back o v.value f h.0 h.1) (level-held v p)
just-allowed o group v f p g =
    left-by GIQP refl (packing_body o v) (packing-bytes o v) (packing-back o v g (ltb-true 0 v.n p) f) refl
just-allowed o frequencies v f p g =
    left-by GCF refl (hertz_body o v) (hertz-bytes o v) (hertz-back o v g (ltb-true 0 v.n p) f.0 f.1) refl
just-allowed o gains v f p g =
    left-by GRG refl (gains_body o v) (gains-bytes o v) (gains-back o v g (ltb-true 0 v.n p) f.0 f.1) refl

-- ---- what a well-formed body leaves is good and present

-- the slots in the order of their numbers
slots : List Slot
slots = packing ∷ rate ∷ band ∷ group_band ∷ centre ∷ full_scale ∷ total_gain ∷ float_scale ∷ group ∷ frequencies ∷ gains ∷ []

slot-at : (x : Slot) → get_or slots (slot_number x) packing ≡ x
unfolding slots
slot-at packing = refl
slot-at rate = refl
slot-at band = refl
slot-at group_band = refl
slot-at centre = refl
slot-at full_scale = refl
slot-at total_gain = refl
slot-at float_scale = refl
slot-at group = refl
slot-at frequencies = refl
slot-at gains = refl

one-slot : (y x : Slot) → is_slot y x ≡ true → y ≡ x
one-slot y x e =
    sym (slot-at y) ∙ ap (λ (n : ℕ). get_or slots n packing) (eqb-true (slot_number y) (slot_number x) e) ∙ slot-at x

-- a list that is given has a channel, where what is read for a count has that count
module _ {A : Type 0} (count : A → ℕ) where
  allowed-count : (ok : Bool) (v g : A) → allowed ok v ≡ gives g → count g ≡ count v
  allowed-count true v g e = let i : v ≡ g = cc in ap count (sym i)
  allowed-count false v g e = let z : ◌≡◌ {A = ℕ} 0 1 = cc in absurd (omega arith)

  list-present : (head value : ℕ) (o : Order) (b : List ℕ) (f : ℕ → Answer A) →
      ((n : ℕ) (g : A) → f n ≡ gives g → count g ≡ n) → (g : A) → listed head value o b f ≡ gives g → ltb 0 (count g) ≡ true
  list-present head value o b f h g e =
      let r = listed-gives head value o b f g e in
      rw (h r.0 g r.3) (lt-ltb 0 r.0 r.1)

abbrev packing_count : GroupPacking → ℕ
packing_count g = g.n

abbrev hertz_count : GroupHertz → ℕ
hertz_count g = g.n

abbrev gains_count : GroupGains → ℕ
gains_count g = g.n

-- a row that sets a value sets one that is present
abbrev Presents : Row → Type 0
Presents (sets {A = A} x hold read) = (o : Order) (b : List ℕ) (a : A) → read o b ≡ gives a → is_present x (hold a) ≡ true
Presents (marks read) = Unit {0}
Presents (leaves read) = Unit {0}
Presents (samples shape) = Unit {0}
Presents unknown = Unit {0}

presents : (k : Kind) → Presents (row k)
unfolding packed tuned amplified
presents SIQP = λ o b a e. refl
presents SR = λ o b a e. refl
presents BW = λ o b a e. refl
presents GCBW = λ o b a e. refl
presents BWOF = λ o b a e. refl
presents CF = λ o b a e. refl
presents DBFS = λ o b a e. refl
presents DBTG = λ o b a e. refl
presents FFS = λ o b a e. refl
presents GIQP = λ o b.
    list-present packing_count 12 4 o b (packed o b)
    (λ n g. allowed-count packing_count (both (head_ok n (check.int32 o b 4) (check.int32 o b 8)) (offsets_ok o b n)) _ g)
presents GCF = λ o b. list-present hertz_count 4 8 o b (tuned o b) (λ n g. allowed-count hertz_count true _ g)
presents GRG = λ o b. list-present gains_count 4 4 o b (amplified o b) (λ n g. allowed-count gains_count (gains_ok o b n) _ g)
presents SOFH = tt
presents EOFH = tt
presents IQDC = tt
presents TEXT = tt
presents SSNC = tt
presents SSNR = tt
presents SFNC = tt
presents SFNR = tt
presents GSNC = tt
presents GFNC = tt
presents Unknown = tt

-- present, and what number 3 allows
abbrev Ok : (x : Slot) → Value x → Type 0
Ok x v = (is_present x v ≡ true) × (good_in x v ≡ true)

put-ok : (y x : Slot) (a : Value y) (v : Values) → is_slot y x ≡ true → Ok y a → Ok x (value_in x (set_in y a v))
put-ok y x a v e h = subst (λ (z : Slot). Ok z (value_in z (set_in y a v))) (one-slot y x e) (rw (put-is y a v) h)

read-ok : {A : Type 0} (y : Slot) (hold : A → Value y) (r : Answer A) → seen r ≡ gives tt →
    ((a : A) → r ≡ gives a → Ok y (hold a)) → Ok y (or_else (none y) hold r)
read-ok y hold (gives a) e h = h a refl
read-ok y hold (refuses n) e h = let z : ◌≡◌ {A = ℕ} 0 1 = cc in absurd (omega arith)

module _ (o : Order) (b : List ℕ) (s : State) (x : Slot) where
  row-ok : (r : Row) → Presents r → Allows r → sets_by r x ≡ true → verdict_by r o b ≡ gives tt →
      Ok x (value_in x (effect_by r o b s).after.values)
  row-ok (sets y hold read) p g e w =
      put-ok y x _ s.values e (read-ok y hold (read o b) w (λ a r. (p o b a r, g o b a r)))
  row-ok (marks read) p g e w = let z : ◌≡◌ {A = ℕ} 0 1 = cc in absurd (omega arith)
  row-ok (leaves read) p g e w = let z : ◌≡◌ {A = ℕ} 0 1 = cc in absurd (omega arith)
  row-ok (samples shape) p g e w = let z : ◌≡◌ {A = ℕ} 0 1 = cc in absurd (omega arith)
  row-ok unknown p g e w = let z : ◌≡◌ {A = ℕ} 0 1 = cc in absurd (omega arith)

  kind-ok : (k : Kind) → set_by k x ≡ true → verdict o k b ≡ gives tt → Ok x (value_in x (effect o k b s).after.values)
  unfolding set_by verdict effect
  kind-ok k e w = row-ok (row k) (presents k) (allows k) e w

-- What a well-formed body leaves in the slot that its kind sets is present, and number 3 allows it.
pub left-allowed : (o : Order) (x : Slot) (v : Value x) → Left o x v → (is_present x v ≡ true) × (good_in x v ≡ true)
left-allowed o x v l =
    let s = emptied false in
    subst (Ok x) (l.left s) (kind-ok o l.body s x l.kind l.sets_it l.well_formed)

-- So the present values that number 3 allows in a slot are just those that the body table allows.
pub allowed-both-ways : (o : Order) (x : Slot) (v : Value x) → Fitting x v →
    (is_present x v ≡ true) × (good_in x v ≡ true) ↔ Left o x v
allowed-both-ways o x v f = (λ h. just-allowed o x v f h.0 h.1, left-allowed o x v)

-- ---- what is good and not present

no-number : (v : Held) → v.present ≡ false → is_zero v.value ≡ true → v ≡ no_number
no-number v p h = λ i. record { present = p i; value = zero-is v.value h i }

no-level : (v : LevelHeld) → T (fits binary32 v.value) → v.present ≡ false → is_plus_zero v.value ≡ true → v ≡ no_level
no-level v f p h = λ i. record { present = p i; value = plus-zero-is v.value f h i }

no-channel : (n : ℕ) → ltb 0 n ≡ false → n ≡ 0
no-channel n p = let h = ltb-false 0 n p in omega arith

-- a list with no channel has in every place what stands for nothing
module _ {A : Type 0} (ok none : A → Bool) (d : A) where
  abbrev OnlyNone : List A → Type 0
  OnlyNone l = (c : ℕ) → none (get_or l c d) ≡ true → get_or l c d ≡ d

  nothing-from : (i : ℕ) (l : List A) → OnlyNone l → good_from ok none 0 i l ≡ true → l ≡ replicate (length l) d
  unfolding good_from
  nothing-from i [] h g = refl
  nothing-from i (x ∷ l) h g =
      let two = both-true (none x) (good_from ok none 0 (suc i) l) (rw (le-ltb i 0 (omega arith)) at g) in
      ap₂ ◌∷◌ (h 0 two.0) (nothing-from (suc i) l (λ c. h (suc c)) two.1)

  nothing-in : (n : ℕ) (l : List A) → n ≡ 0 → length l ≡ 16 → OnlyNone l → good_list ok none n l ≡ true → l ≡ replicate 16 d
  nothing-in n l z m h g = rw m at (nothing-from 0 l h (both-true (leb 0 16) (good_from ok none 0 0 l) (rw z at g)).1)

-- A value that is not present and that number 3 allows is the one that stands for an absent value: 0, and for a list 0 in
-- all sixteen places.
pub absent-is-none : (x : Slot) (v : Value x) → Fitting x v → is_present x v ≡ false → good_in x v ≡ true → v ≡ none x
absent-is-none packing v f p g = no-number v p (rw p at g)
absent-is-none rate v f p g = no-number v p (rw p at g)
absent-is-none band v f p g =
    let h = both-true (is_zero v.width) (is_zero v.offset) (rw p at g) in
    λ i. record { present = p i; width = zero-is v.width h.0 i; offset = zero-is v.offset h.1 i }
absent-is-none group_band v f p g = no-number v p (rw p at g)
absent-is-none centre v f p g = no-number v p (rw p at g)
absent-is-none full_scale v f p g = no-level v f p (rw p at g)
absent-is-none total_gain v f p g = no-level v f p (rw p at g)
absent-is-none float_scale v f p g = no-level v f p (rw p at g)
absent-is-none group v f p g =
    let z = no-channel v.n p in
    let a = both-true (good_head v) (good_list is_offset is_no_offset v.n v.offsets) g in
    let h = both-true (eqb v.increment 0) (not v.iq) (rw (eq-eqb v.n 0 z) at a.0) in
    let l = nothing-in is_offset is_no_offset 0 v.n v.offsets z f (λ c k. eqb-true _ 0 k) a.1 in
    λ i. record { n = z i; iq = not-true v.iq h.1 i; increment = eqb-true v.increment 0 h.0 i; offsets = l i }
absent-is-none frequencies v f p g =
    let z = no-channel v.n p in
    let l = nothing-in any_number is_zero (pos 0) v.n v.values z f.0 (λ c k. zero-is _ k) g in
    λ i. record { n = z i; values = l i }
absent-is-none gains v f p g =
    let z = no-channel v.n p in
    let d = of_bits binary32 0 in
    let l = nothing-in is_finite is_plus_zero d v.n v.values z f.0 (λ c k. plus-zero-is _ (f.1 c) k) g in
    λ i. record { n = z i; values = l i }
