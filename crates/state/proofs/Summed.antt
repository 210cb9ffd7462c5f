-- Laws of the sums: without a part there is none, how they are filled in, and that they follow whatever is set.
use Prim.Native.Nat.{ℕ}
use mathlib.Core.Path.{◌≡◌, refl, ◌∙◌}
use mathlib.Core.Bool.{Bool, true, false}
use borrow.Author.Tests.{lt-ltb}
use lib.Dec.{ltb}
use lib.Ieee.{Float, binary32, of_bits}
use Rattle.num.specs.Choice.{pick, both}
use Rattle.body.specs.Groups.{no_gains}
use Rattle.body.specs.Levels.{is_finite}
use Rattle.body.specs.Lists.{upto, sixteen}
use Rattle.body.specs.Table.{Slot, packing, rate, band, group_band, centre, full_scale, total_gain, float_scale, group, frequencies, gains, Value}
use Rattle.body.specs.Values.{no_level}
use Rattle.body.specs.declared.groups.GroupGains.{GroupGains}
use Rattle.body.specs.declared.values.LevelHeld.{LevelHeld}
use Rattle.body.proofs.Lists.{upto-same}
use Rattle.state.specs.State.{set_in, Summed}
use Rattle.state.specs.Sums.{both_parts, sum_at, has_sum, held_sum, sums_of, no_sums}
use Rattle.state.specs.declared.Values.{Values}
use Rattle.state.proofs.Powers.{used-by}

-- ---- without one of the parts there is no sum

pub no-level-sums : (g : GroupGains) → sums_of no_level g ≡ no_sums
unfolding upto
no-level-sums g = refl

without-by : (b : Bool) (x : Float) → sums_of (record { present = b; value = x }) no_gains ≡ no_sums
unfolding upto
without-by true x = refl
without-by false x = refl

pub no-gains-sums : (t : LevelHeld) → sums_of t no_gains ≡ no_sums
no-gains-sums t = without-by t.present t.value

-- ---- the sums filled in for the channels that have both parts

module _ (t : LevelHeld) (g : GroupGains) where
  abbrev finite_at : ℕ → Bool
  finite_at c = is_finite (sum_at t g c)

  abbrev kept_at : ℕ → Float
  kept_at c = pick (finite_at c) (sum_at t g c) (of_bits binary32 0)

  flag-by : (c m : ℕ) (u : Bool) → ltb c m ≡ u → pick u (finite_at c) false ≡ both (ltb c m) (finite_at c)
  flag-by c m true e = rw e
  flag-by c m false e = rw e

  kept-by : (c m : ℕ) (u : Bool) → ltb c m ≡ u → pick u (kept_at c) (of_bits binary32 0) ≡ pick (both (ltb c m) (finite_at c)) (sum_at t g c) (of_bits binary32 0)
  kept-by c m true e = rw e
  kept-by c m false e = rw e

  pub filled-sums :
      let n = both_parts t g in
      let m = pick (ltb n 16) n 16 in
      record { present = sixteen finite_at false m; values = sixteen kept_at (of_bits binary32 0) m } ≡ sums_of t g
  filled-sums =
      let n = both_parts t g in
      let m = pick (ltb n 16) n 16 in
      let p = upto-same finite_at (has_sum t g) false m 16 0 16
      (λ c h. flag-by c m (ltb c m) refl ∙ rw (lt-ltb c 16 h, used-by c n (ltb n 16) refl h)) in
      let q = upto-same kept_at (held_sum t g) (of_bits binary32 0) m 16 0 16
      (λ c h. kept-by c m (ltb c m) refl ∙ rw (lt-ltb c 16 h, used-by c n (ltb n 16) refl h)) in
      λ i. record { present = p i; values = q i }

-- ---- every way to set a value leaves the sums those of their parts

pub set-summed : (x : Slot) (a : Value x) (v : Values) → Summed v → Summed (set_in x a v)
set-summed packing a v h = h
set-summed rate a v h = h
set-summed band a v h = h
set-summed group_band a v h = h
set-summed centre a v h = h
set-summed full_scale a v h = h
set-summed total_gain a v h = refl
set-summed float_scale a v h = h
set-summed group a v h = h
set-summed frequencies a v h = h
set-summed gains a v h = refl
