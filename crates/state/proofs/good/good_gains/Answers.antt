-- A turn adds the power of its place for a gain that is not +0. After the last turn the list is good where its places hold what they
-- may and their powers are below 2 ^ n.
use Rattle.std.proofs.Common.{◌≡◌, ◌∙◌, ℕ, Bool, not, sym, get_or, arith, rules}
use lib.Ieee.{nan}
use Rattle.num.proofs.Tests.{each-none, each-more}
use Rattle.body.specs.Levels.{is_finite}
use Rattle.body.specs.declared.groups.GroupGains.{GroupGains}
use Rattle.state.specs.Good.{is_plus_zero}
use Rattle.state.proofs.Tests.{plus-zero-finite, finite-is}
use Rattle.state.proofs.Powers.{powers-none, powers-next, powers-fit, list-by}
use Rattle.state.proofs.good.good_gains.Goals as goal

abbrev filled_at : GroupGains → ℕ → Bool
filled_at g c = not (is_plus_zero (get_or g.values c nan))

pub loop-i-init : goal.loop-i-init
loop-i-init c = record { bounded = sym (each-none _); filled = sym (powers-none _) }

pub overflow_add-filled : goal.overflow_add-filled
overflow_add-filled c =
    let l = c.loop-i in
    record {
      fits = powers-fit (filled_at c.args.gains.now) l.i l.filled c.pick-filled.result (omega arith) l.invariant.filled (rw c.plus_zero.ensures at c.pick-filled.ensures);
    }

pub loop-i-preserved : goal.loop-i-preserved
loop-i-preserved c =
    let l = c.loop-i in
    record {
      bounded = each-more _ l.i l.bounded _ l.invariant.bounded (c.is_finite-bounded.ensures.value ∙ finite-is _);
      filled = powers-next (filled_at c.args.gains.now) l.i l.filled c.pick-filled.result (omega arith) l.invariant.filled (rw c.plus_zero.ensures at c.pick-filled.ensures);
    }

pub returns : goal.returns
returns c =
    let l = c.loop-i in
    let g = c.args.gains.now in
    let e : l.i ≡ 16 = omega arith in
    rw (c.within.ensures, l.invariant.bounded, l.invariant.filled, e) (list-by is_finite is_plus_zero plus-zero-finite g.n g.values nan (search rules))
