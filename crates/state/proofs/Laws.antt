-- Laws of good states: the parts of one, one with a part set, absent values, and lists of
-- values that are allowed.
use Prim.Native.Nat.{ℕ, zero, suc, ◌<◌, ◌≤◌}
use mathlib.Core.Path.{◌≡◌, refl, sym, ◌∙◌}
use mathlib.Core.Bool.{Bool, true, false}
use lib.Dec.{ltb}
use lib.Ieee.{of_bits, to_bits}
use borrow.Author.Tests.{le-leb, ltb-true}
use Rattle.num.specs.Choice.{pick, each}
use Rattle.num.proofs.Tests.{both-true}
use Rattle.body.specs.Lists.{upto, sixteen}
use Rattle.body.specs.Table.{Slot, packing, rate, band, group_band, centre, full_scale, total_gain, float_scale, group, frequencies, gains, Value, none}
use Rattle.state.specs.declared.Values.{Values}
use Rattle.state.specs.declared.State.{State}
use Rattle.state.specs.State.{emptied, set_in, with_values}
use Rattle.state.specs.Sums.{sums_of, agree}
use Rattle.state.proofs.Agree.{own-agree}
use Rattle.state.specs.Good.{good_from, good_list, good_in, good_numbers, good_held, good_state}

-- ---- the parts of a good state

pub record Parts (v : Values) : Type 0 where
  pub packing : good_in packing v.packing ≡ true
  pub rate : good_in rate v.rate ≡ true
  pub band : good_in band v.band ≡ true
  pub group-band : good_in group_band v.group_band ≡ true
  pub centre : good_in centre v.centre ≡ true
  pub full-scale : good_in full_scale v.full_scale ≡ true
  pub total-gain : good_in total_gain v.total_gain ≡ true
  pub float-scale : good_in float_scale v.float_scale ≡ true
  pub group : good_in group v.group ≡ true
  pub frequencies : good_in frequencies v.frequencies ≡ true
  pub gains : good_in gains v.gains ≡ true
  pub sums : agree v.total_gain v.gains v.sums ≡ true

pub good-parts : (s : State) → good_state s ≡ true → Parts s.values
unfolding good_held good_numbers
good-parts s g =
    let m = both-true _ _ g in
    let l = both-true _ _ m.0 in
    let k = both-true _ _ l.0 in
    let h = both-true _ _ k.0 in
    let f = both-true _ _ h.0 in
    let e = both-true _ _ f.0 in
    let d = both-true _ _ e.0 in
    let c = both-true _ _ d.0 in
    let b = both-true _ _ c.0 in
    let a = both-true _ _ b.0 in
    let p = both-true _ _ a.0 in
    record {
      packing = p.0;
      rate = p.1;
      band = a.1;
      group-band = b.1;
      centre = c.1;
      full-scale = d.1;
      total-gain = e.1;
      float-scale = f.1;
      group = h.1;
      frequencies = k.1;
      gains = l.1;
      sums = m.1;
    }

-- ---- a slot that was set: its test is true as the old one's was, and sums that were made anew agree, so nothing else of
-- the state's test changes

pub set-good : (x : Slot) (a : Value x) (s : State) → good_state s ≡ true → good_in x a ≡ true → good_state (with_values s (set_in x a s.values)) ≡ true
unfolding good_held good_numbers
set-good packing a s g h = rw (h ∙ sym (good-parts s g).packing) g
set-good rate a s g h = rw (h ∙ sym (good-parts s g).rate) g
set-good band a s g h = rw (h ∙ sym (good-parts s g).band) g
set-good group_band a s g h = rw (h ∙ sym (good-parts s g).group-band) g
set-good centre a s g h = rw (h ∙ sym (good-parts s g).centre) g
set-good full_scale a s g h = rw (h ∙ sym (good-parts s g).full-scale) g
set-good total_gain a s g h =
    let p = good-parts s g in
    rw (h ∙ sym p.total-gain, own-agree a s.values.gains (sums_of a s.values.gains) refl ∙ sym p.sums) g
set-good float_scale a s g h = rw (h ∙ sym (good-parts s g).float-scale) g
set-good group a s g h = rw (h ∙ sym (good-parts s g).group) g
set-good frequencies a s g h = rw (h ∙ sym (good-parts s g).frequencies) g
set-good gains a s g h =
    let p = good-parts s g in
    let t = s.values.total_gain in
    rw (h ∙ sym p.gains, own-agree t a (sums_of t a) refl ∙ sym p.sums) g

-- ---- absent values

pub none-good : (x : Slot) → good_in x (none x) ≡ true
unfolding good_from of_bits
none-good packing = refl
none-good rate = refl
none-good band = refl
none-good group_band = refl
none-good centre = refl
none-good full_scale = refl
none-good total_gain = refl
none-good float_scale = refl
none-good group = refl
none-good frequencies = refl
none-good gains = refl

pub empty-good : (m : Bool) → good_state (emptied m) ≡ true
unfolding good_held good_numbers good_from of_bits each upto to_bits
empty-good m = refl

-- ---- lists

module _ {A : Type 0} (ok none : A → Bool) (f : ℕ → A) (d : A) (n : ℕ)
    (used : (c : ℕ) → c < n → ok (f c) ≡ true) (unused : none d ≡ true) where
  place-good : (i : ℕ) (b : Bool) → ltb i n ≡ b → pick b (ok (pick b (f i) d)) (none (pick b (f i) d)) ≡ true
  place-good i true e = used i (ltb-true i n e)
  place-good i false e = unused

  from-good : (i k : ℕ) → good_from ok none n i (upto f d n i k) ≡ true
  unfolding good_from upto
  from-good i zero = refl
  from-good i (suc k) = rw (place-good i (ltb i n) refl) (from-good (suc i) k)

  -- 16 places of which the first n are filled, each with a value that is allowed
  pub upto-good : n ≤ 16 → good_list ok none n (sixteen f d n) ≡ true
  upto-good h = rw (le-leb n 16 h) (from-good 0 16)
