-- A turn adds the power of its channel for a flag and for a finite sum. After the last turn the sums agree where each is alike and the
-- flags' powers are those of the sums.
use Rattle.std.proofs.Common.{◌≡◌, ℕ, Bool, false, ◌∙◌, sym, get_or, arith}
use Rattle.num.proofs.Tests.{each-none, each-more}
use Rattle.body.specs.Levels.{is_finite}
use Rattle.body.specs.declared.groups.GroupGains.{GroupGains}
use Rattle.body.specs.declared.values.LevelHeld.{LevelHeld}
use Rattle.state.specs.Sums.{sum_at}
use Rattle.state.specs.declared.sums.GainSums.{GainSums}
use Rattle.state.proofs.Tests.{finite-is}
use Rattle.state.proofs.Powers.{powers-none, powers-next, powers-fit, shifted}
use Rattle.state.proofs.Agree.{agree-by}
use Rattle.state.proofs.good.agree.Goals as goal

abbrev flagged_sum : GainSums → ℕ → Bool
flagged_sum s c = get_or s.present c false

abbrev finite_sum : LevelHeld → GroupGains → ℕ → Bool
finite_sum t g c = is_finite (sum_at t g c)

pub loop-i-init : goal.loop-i-init
loop-i-init c = record { same = sym (each-none _); marked = sym (powers-none _); finites = sym (powers-none _) }

pub overflow_add-marked : goal.overflow_add-marked
overflow_add-marked c =
    let l = c.loop-i in
    record { fits = powers-fit (flagged_sum c.args.sums.now) l.i l.marked c.pick-marked.result (omega arith) l.invariant.marked c.pick-marked.ensures }

pub overflow_add-finites : goal.overflow_add-finites
overflow_add-finites c =
    let l = c.loop-i in
    record {
      fits = powers-fit (finite_sum c.args.total c.args.gains.now) l.i l.finites c.pick-finites.result (omega arith) l.invariant.finites (rw (c.is_finite.ensures.value, finite-is) at c.pick-finites.ensures);
    }

pub loop-i-preserved : goal.loop-i-preserved
loop-i-preserved c =
    let l = c.loop-i in
    record {
      same = each-more _ l.i l.alike _ l.invariant.same (c.same-alike.ensures ∙ rw c.pick.ensures);
      marked = powers-next (flagged_sum c.args.sums.now) l.i l.marked c.pick-marked.result (omega arith) l.invariant.marked c.pick-marked.ensures;
      finites = powers-next (finite_sum c.args.total c.args.gains.now) l.i l.finites c.pick-finites.result (omega arith) l.invariant.finites (rw (c.is_finite.ensures.value, finite-is) at c.pick-finites.ensures);
    }

pub returns : goal.returns
returns c =
    let l = c.loop-i in
    let a = c.args in
    let e : l.i ≡ 16 = omega arith in
    rw (l.invariant.same, l.invariant.marked, l.invariant.finites, e, shifted c.channels.result c.channels.ensures.few, c.channels.ensures.count)
    (agree-by a.total a.gains.now a.sums.now)
