-- No chunk leaves a state that is not good, so number 3 is never given for a state that the reader made.
use Prim.Native.Nat.{ℕ, ◌+◌, ◌*◌, ◌<◌, ◌^◌}
use mathlib.Core.Path.{◌≡◌, refl, sym, ap, ◌∙◌}
use mathlib.Core.Bool.{Bool, true, false}
use mathlib.Core.List.{List}
use native.Mathlib.Omega.{arith}
use lib.Dec.{eqb}
use lib.Ieee.{Float, binary32, of_bits, lt}
use lib.IntN.{ℤ, pos, negsuc, nat_abs}
use lib.Signed.{le_z}
use borrow.Author.Tests.{lt-ltb, ne_eqb}
use Rattle.num.specs.Answer.{Answer, gives, refuses, then}
use Rattle.num.specs.Choice.{both, either}
use Rattle.num.specs.Number.{unsigned_at}
use Rattle.num.specs.declared.Order.{Order}
use Rattle.num.proofs.Tests.{both-true, each-at}
use Rattle.body.specs.Check.{int32, int64, allowed, or_else}
use Rattle.body.specs.Numbers.{siqp, sr, bw, bwof}
use Rattle.body.specs.Levels.{is_finite, finite32, ffs}
use Rattle.body.specs.Lists.{sixteen}
use Rattle.body.specs.Table.{Slot, Value, none, Row, sets, marks, leaves, samples, unknown, row}
use Rattle.body.specs.Values.{amount}
use Rattle.body.specs.Groups.{is_number, head_ok, offset_at, offsets_ok, hertz_at, gain_at, gains_ok, packed, tuned, amplified, giqp, gcf, grg}
use Rattle.body.specs.declared.kinds.Kind.{Kind}
use Rattle.body.specs.declared.kinds.Kind.TheVariants.{SSNC, SSNR, SFNC, SFNR, GSNC, GFNC, SIQP, SR, BW, GCBW, BWOF, CF, DBFS, DBTG, FFS, GIQP, GCF, GRG, SOFH, EOFH, IQDC, TEXT, Unknown}
use Rattle.body.specs.declared.levels.Level.{Level}
use Rattle.body.specs.declared.levels.Level.TheVariants.{FullScale, TotalGain, FloatFullScale}
use Rattle.body.specs.declared.numbers.Band.{Band}
use Rattle.body.specs.declared.groups.GroupPacking.{GroupPacking}
use Rattle.body.specs.declared.groups.GroupHertz.{GroupHertz}
use Rattle.body.specs.declared.groups.GroupGains.{GroupGains}
use Rattle.body.proofs.Allowed.{sized-gives, finite-gives, then-gives, listed-gives, small32}
use Rattle.state.specs.Good.{zero_or_one, any_number, is_scale, is_offset, is_no_offset, is_zero, is_plus_zero, good_list, good_group, good_frequencies, good_gains, good_in, good_state}
use Rattle.state.specs.declared.State.{State}
use Rattle.state.proofs.Laws.{set-good, none-good, upto-good}
use Rattle.effect.specs.Effect.{effect_by, effect}

-- ---- what each kind gives

siqp-good : (o : Order) (b : List ℕ) (v : ℤ) → siqp o b ≡ gives v → zero_or_one v ≡ true
siqp-good o b v e = let h = sized-gives 4 b (zero_or_one (int32 o b 0)) (int32 o b 0) v e in sym (ap zero_or_one h.1) ∙ h.0

sr-good : (o : Order) (b : List ℕ) (v : ℤ) → sr o b ≡ gives v → le_z (pos 1) v ≡ true
sr-good o b v e = let h = sized-gives 8 b (le_z (pos 1) (int64 o b 0)) (int64 o b 0) v e in sym (ap (le_z (pos 1)) h.1) ∙ h.0

bw-good : (o : Order) (b : List ℕ) (v : ℤ) → bw o b ≡ gives v → le_z (pos 0) v ≡ true
bw-good o b v e = let h = sized-gives 8 b (le_z (pos 0) (int64 o b 0)) (int64 o b 0) v e in sym (ap (le_z (pos 0)) h.1) ∙ h.0

bwof-good : (o : Order) (b : List ℕ) (v : Band) → bwof o b ≡ gives v → le_z (pos 0) v.width ≡ true
bwof-good o b v e =
    let w : Band = record { width = int64 o b 0; offset = int64 o b 8 } in
    let h = sized-gives 16 b (le_z (pos 0) (int64 o b 0)) w v e in
    sym (ap (λ (x : Band). le_z (pos 0) x.width) h.1) ∙ h.0

level-good : (o : Order) (b : List ℕ) (f : Float → Level) (l : Level) → ((x : Float) → amount (f x) ≡ x) → then (finite32 o b) (λ x. gives (f x)) ≡ gives l → is_finite (amount l) ≡ true
level-good o b f l q e =
    let h = then-gives (finite32 o b) (λ (x : Float). gives (f x)) l e in
    let i : f h.0 ≡ l = gives_one h.2 in
    sym (ap (λ (y : Level). is_finite (amount y)) i) ∙ rw (q h.0) (finite-gives o b h.0 h.1)
  where
    gives_one : {A : Type 0} {a c : A} → ◌≡◌ {A = Answer A} (gives a) (gives c) → a ≡ c
    gives_one k = cc

allowed-by : {A : Type 0} (ok : Bool) (v w : A) → allowed ok v ≡ gives w → (ok ≡ true) × (v ≡ w)
allowed-by true v w e = (refl, cc)
allowed-by false v w e = let z : ◌≡◌ {A = ℕ} 0 1 = cc in absurd (omega arith)

ffs-good : (o : Order) (b : List ℕ) (l : Level) → ffs o b ≡ gives l → is_scale (amount l) ≡ true
ffs-good o b l e =
    let f : Float → Answer Level = λ (x : Float). allowed (lt (of_bits binary32 0) x) (FloatFullScale x) in
    let h = then-gives (finite32 o b) f l e in
    let x = h.0 in
    let k = allowed-by (lt (of_bits binary32 0) x) (FloatFullScale x) l h.2 in
    sym (ap (λ (y : Level). is_scale (amount y)) k.1) ∙ rw (finite-gives o b x h.1, k.0)

either-by : (z : ℤ) (n : ℕ) → either (is_number 1 z) (is_number n z) ≡ true → either (eqb (nat_abs z) 1) (eqb (nat_abs z) n) ≡ true
either-by (pos m) n h = h
either-by (negsuc m) n h = let z : ◌≡◌ {A = ℕ} 0 1 = cc in absurd (omega arith)

offset-small : (o : Order) (b : List ℕ) (c : ℕ) → le_z (pos 0) (offset_at o b c) ≡ true → is_offset (nat_abs (offset_at o b c)) ≡ true
unfolding offset_at
offset-small o b c h = lt-ltb (nat_abs (offset_at o b c)) (2 ^ 31) (small32 (unsigned_at 4 o b (12 + 4 * c)) h)

plus-zero : is_plus_zero (of_bits binary32 0) ≡ true
unfolding of_bits
plus-zero = refl

giqp-good : (o : Order) (b : List ℕ) (g : GroupPacking) → giqp o b ≡ gives g → good_group g ≡ true
unfolding packed
giqp-good o b g e =
    let h = listed-gives 12 4 o b (packed o b) g e in
    let n = h.0 in
    let z = int32 o b 8 in
    let v : GroupPacking = record { n = n; iq = is_number 1 (int32 o b 4); increment = nat_abs z; offsets = sixteen (λ c. nat_abs (offset_at o b c)) 0 n } in
    let k = allowed-by (both (head_ok n (int32 o b 4) z) (offsets_ok o b n)) v g h.3 in
    let t = both-true (head_ok n (int32 o b 4) z) (offsets_ok o b n) k.0 in
    let d = both-true (either (is_number 0 (int32 o b 4)) (is_number 1 (int32 o b 4))) (either (is_number 1 z) (is_number n z)) t.0 in
    let used : (c : ℕ) → c < n → is_offset (nat_abs (offset_at o b c)) ≡ true =
    λ c q. offset-small o b c (each-at (λ (i : ℕ). le_z (pos 0) (offset_at o b i)) n c t.1 q) in
    let l : good_list is_offset is_no_offset n (sixteen (λ c. nat_abs (offset_at o b c)) 0 n) ≡ true =
    upto-good is_offset is_no_offset (λ (c : ℕ). nat_abs (offset_at o b c)) 0 n used refl h.2 in
    sym (ap good_group k.1) ∙ rw (ne_eqb n 0 (λ q. omega (arith, h.1)), either-by z n d.1) l

gcf-good : (o : Order) (b : List ℕ) (g : GroupHertz) → gcf o b ≡ gives g → good_frequencies g ≡ true
unfolding tuned
gcf-good o b g e =
    let h = listed-gives 4 8 o b (tuned o b) g e in
    let n = h.0 in
    let v : GroupHertz = record { n = n; values = sixteen (hertz_at o b) (pos 0) n } in
    let k = allowed-by true v g h.3 in
    sym (ap good_frequencies k.1) ∙ upto-good any_number is_zero (hertz_at o b) (pos 0) n (λ c q. refl) refl h.2

grg-good : (o : Order) (b : List ℕ) (g : GroupGains) → grg o b ≡ gives g → good_gains g ≡ true
unfolding amplified
grg-good o b g e =
    let h = listed-gives 4 4 o b (amplified o b) g e in
    let n = h.0 in
    let v : GroupGains = record { n = n; values = sixteen (gain_at o b) (of_bits binary32 0) n } in
    let k = allowed-by (gains_ok o b n) v g h.3 in
    let used : (c : ℕ) → c < n → is_finite (gain_at o b c) ≡ true = λ c q. each-at (λ (i : ℕ). is_finite (gain_at o b i)) n c k.0 q in
    sym (ap good_gains k.1) ∙ upto-good is_finite is_plus_zero (gain_at o b) (of_bits binary32 0) n used plus-zero h.2

-- ---- what a well-formed chunk sets, its slot may hold

abbrev pub Allows : Row → Type 0
Allows (sets {A = A} x hold read) = (o : Order) (b : List ℕ) (a : A) → read o b ≡ gives a → good_in x (hold a) ≡ true
Allows (marks read) = Unit {0}
Allows (leaves read) = Unit {0}
Allows (samples shape) = Unit {0}
Allows unknown = Unit {0}

pub allows : (k : Kind) → Allows (row k)
allows SIQP = siqp-good
allows SR = sr-good
allows BW = bw-good
allows BWOF = bwof-good
allows GCBW = bw-good
allows CF = λ o b v e. refl
allows DBFS = λ o b l e. level-good o b FullScale l (λ x. refl) e
allows DBTG = λ o b l e. level-good o b TotalGain l (λ x. refl) e
allows FFS = ffs-good
allows GIQP = giqp-good
allows GCF = gcf-good
allows GRG = grg-good
allows SOFH = tt
allows EOFH = tt
allows TEXT = tt
allows IQDC = tt
allows Unknown = tt
allows SSNC = tt
allows SSNR = tt
allows SFNC = tt
allows SFNR = tt
allows GSNC = tt
allows GFNC = tt

-- ---- a chunk leaves a good state

or-else-good : {A : Type 0} (x : Slot) (hold : A → Value x) (r : Answer A) → ((a : A) → r ≡ gives a → good_in x (hold a) ≡ true) → good_in x (or_else (none x) hold r) ≡ true
or-else-good x hold (gives a) h = h a refl
or-else-good x hold (refuses n) h = none-good x

module _ (o : Order) (b : List ℕ) (s : State) (g : good_state s ≡ true) where
  row-good : (r : Row) → Allows r → good_state (effect_by r o b s).after ≡ true
  row-good (sets x hold read) h = set-good x (or_else (none x) hold (read o b)) s g (or-else-good x hold (read o b) (h o b))
  row-good (marks read) h = g
  row-good (leaves read) h = g
  row-good (samples shape) h = g
  row-good unknown h = g

  pub effect-good : (k : Kind) → good_state (effect o k b s).after ≡ true
  unfolding effect
  effect-good k = row-good (row k) (allows k)
