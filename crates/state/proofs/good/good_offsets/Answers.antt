-- A turn adds the power of its place for an offset that is not 0. After the last turn the list is good where its places hold what they
-- may and their powers are below 2 ^ n.
use Rattle.std.proofs.Common.{◌≡◌, ℕ, Bool, not, refl, sym, get_or, arith, rules}
use Rattle.num.proofs.Tests.{each-none, each-more}
use Rattle.body.specs.declared.groups.GroupPacking.{GroupPacking}
use Rattle.state.specs.Good.{is_offset, is_no_offset}
use Rattle.state.proofs.Tests.{no-offset-small}
use Rattle.state.proofs.Powers.{powers-none, powers-next, powers-fit, list-by}
use Rattle.state.proofs.good.good_offsets.Goals as goal

abbrev filled_at : GroupPacking → ℕ → Bool
filled_at g c = not (is_no_offset (get_or g.offsets c 0))

pub loop-i-init : goal.loop-i-init
loop-i-init c = record { small = sym (each-none _); filled = sym (powers-none _) }

pub overflow_add-filled : goal.overflow_add-filled
overflow_add-filled c =
    let l = c.loop-i in
    record { fits = powers-fit (filled_at c.args.group.now) l.i l.filled c.pick-filled.result (omega arith) l.invariant.filled c.pick-filled.ensures }

pub loop-i-preserved : goal.loop-i-preserved
loop-i-preserved c =
    let l = c.loop-i in
    record {
      small = each-more _ l.i l.small _ l.invariant.small refl;
      filled = powers-next (filled_at c.args.group.now) l.i l.filled c.pick-filled.result (omega arith) l.invariant.filled c.pick-filled.ensures;
    }

pub returns : goal.returns
returns c =
    let l = c.loop-i in
    let g = c.args.group.now in
    let e : l.i ≡ 16 = omega arith in
    rw (c.within.ensures, l.invariant.small, l.invariant.filled, e) (list-by is_offset is_no_offset no-offset-small g.n g.offsets 0 (search rules))
