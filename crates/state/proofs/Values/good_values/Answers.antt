-- Each call promises the test of one value, by what its closure answers where the value is present; and the test of the values is
-- those tests together, with the counts'.
use Rattle.std.proofs.Common.{◌≡◌, Bool, Float, ℤ, pos, rules}
use Rattle.std.specs.Int.Signed.{le_z}
use Rattle.num.specs.Choice.{pick}
use Rattle.body.specs.Levels.{is_finite}
use Rattle.body.specs.declared.values.Held.{Held}
use Rattle.body.specs.declared.values.LevelHeld.{LevelHeld}
use Rattle.state.specs.Good.{is_zero, is_plus_zero, good_number, good_level, zero_or_one, any_number, is_scale, good_numbers}
use Rattle.state.specs.GoodParts.{good_values}
use Rattle.state.proofs.Tests.{finite-is}
use Rattle.state.proofs.Values.good_values.Goals as goal

number-by : {P : Bool → Type 0} (ok : ℤ → Bool) (h : Held) (r : Bool) →
    ((a : Bool) × P a × (r ≡ pick h.present a (is_zero h.value))) → ((a : Bool) → P a → a ≡ ok h.value) → r ≡ good_number ok h
number-by ok h r (a, p, e) k = rw (e, k a p)

level-by : {P : Bool → Type 0} (ok : Float → Bool) (x : LevelHeld) (r : Bool) →
    ((a : Bool) × P a × (r ≡ pick x.present a (is_plus_zero x.value))) → ((a : Bool) → P a → a ≡ ok x.value) → r ≡ good_level ok x
level-by ok x r (a, p, e) k = rw (e, k a p)

pub returns : goal.returns
unfolding good_values good_numbers
returns c =
    let v = c.args.self in
    let packing = number-by zero_or_one v.packing _ c.good_number.ensures (λ a h. search rules) in
    let rate = number-by (le_z (pos 1)) v.rate _ c.good_number-2.ensures (λ a h. search rules) in
    let group = number-by (le_z (pos 0)) v.group_band _ c.good_number-3.ensures (λ a h. search rules) in
    let centre = number-by any_number v.centre _ c.good_number-4.ensures (λ a h. search rules) in
    let full = level-by is_finite v.full_scale _ c.good_level.ensures (λ a h. search (rules, finite-is)) in
    let total = level-by is_finite v.total_gain _ c.good_level-2.ensures (λ a h. search (rules, finite-is)) in
    let scale = level-by is_scale v.float_scale _ c.good_level-3.ensures (λ a h. search (rules, finite-is)) in
    rw (packing, rate, c.good_band.ensures, group, centre, full, total, scale, c.good_head.ensures)
