-- A turn adds the power of its place where that is not 0, which its pattern tells. After the last turn the powers are those of the
-- places that hold something, and they are below 2 ^ n where these are used.
use Rattle.std.proofs.Common.{◌≡◌, ℕ, Bool, true, not, refl, sym, ◌∙◌, get_or, arith, rules}
use lib.IntN.{pos}
use Rattle.num.specs.Choice.{each}
use Rattle.num.proofs.Tests.{each-all}
use Rattle.body.specs.declared.groups.GroupHertz.{GroupHertz}
use Rattle.state.specs.Good.{any_number, is_zero}
use Rattle.state.specs.GoodParts.{good_hertz}
use Rattle.state.proofs.Powers.{powers-none, powers-next, powers-fit, list-by}
use Rattle.state.proofs.Tests.{zero-pattern}
use Rattle.state.proofs.good.good_frequencies.Goals as goal

abbrev filled_at : GroupHertz → ℕ → Bool
filled_at g c = not (is_zero (get_or g.values c (pos 0)))

pub loop-i-init : goal.loop-i-init
loop-i-init c = sym (powers-none _)

pub overflow_add-filled : goal.overflow_add-filled
overflow_add-filled c =
    let g = c.args.frequencies in
    let l = c.loop-i in
    let zero = zero-pattern (get_or g.values l.i (pos 0)) (search rules) in
    record { fits = powers-fit (filled_at g) l.i l.filled c.pick-filled.result (omega arith) l.invariant (rw zero at c.pick-filled.ensures) }

pub loop-i-preserved : goal.loop-i-preserved
loop-i-preserved c =
    let g = c.args.frequencies in
    let l = c.loop-i in
    let zero = zero-pattern (get_or g.values l.i (pos 0)) (search rules) in
    powers-next (filled_at g) l.i l.filled c.pick-filled.result (omega arith) l.invariant (rw zero at c.pick-filled.ensures)

pub returns : goal.returns
unfolding good_hertz
returns c =
    let g = c.args.frequencies in
    let l = c.loop-i in
    let e : l.i ≡ 16 = omega arith in
    let all : each (λ d. any_number (get_or g.values d (pos 0))) 16 ≡ true = each-all (λ d. any_number (get_or g.values d (pos 0))) 16 (λ k h. refl) in
    c.within.ensures ∙ rw (l.invariant, e) (rw all at (list-by any_number is_zero (λ x h. refl) g.n g.values (pos 0) (search rules)))
