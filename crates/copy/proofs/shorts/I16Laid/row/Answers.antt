-- The numbers are laid two at a time, and a last one by itself.
use Rattle.std.proofs.Common.{◌≡◌, ◌+◌, ◌*◌, ◌/◌, length, to_z, of_z, rules, arith}
use Rattle.std.specs.Int.{w16}
use Rattle.copy.specs.Samples.{short_at}
use Rattle.copy.proofs.Fits.{fit-all}
use Rattle.copy.proofs.Laws.{pairs-first, reals-next}
use Rattle.copy.proofs.shorts.I16Laid.row.Goals as goal

pub line-requires : goal.line-requires
line-requires c =
    let a = c.args in
    fit-all 2 (length a.src.now) 0 1 (a.count / 2) (length a.out.now) (omega arith) (omega arith) (λ j l. omega arith)

pub returns-then-twos-count : goal.returns-then-twos-count
returns-then-twos-count c =
    let a = c.args in
    let v = short_at a.order a.src.now in
    let q : a.count / 2 * 2 ≡ 2 * (a.count / 2) = omega arith in
    let n : 2 * (a.count / 2) + 1 ≡ a.count = omega arith in
    let back : to_z w16 (of_z w16 c.short_at.result) ≡ c.short_at.result = search rules in
    let twos = rw (pairs-first v (a.count / 2)) at c.line.ensures in
    rw (back, c.short_at.ensures, q, twos) (rw n at (reals-next v a.out.now (2 * (a.count / 2)) (omega arith)))

pub returns-else-twos-count : goal.returns-else-twos-count
returns-else-twos-count c =
    let a = c.args in
    let n : 2 * (a.count / 2) ≡ a.count = omega arith in
    rw (pairs-first (short_at a.order a.src.now) (a.count / 2), n) at c.line.ensures
