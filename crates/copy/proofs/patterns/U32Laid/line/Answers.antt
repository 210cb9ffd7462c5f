-- With I first the pairs are the numbers that stand there, and they end within the bytes.
use Rattle.std.proofs.Common.{◌≡◌, length, arith}
use Rattle.copy.specs.Samples.{pattern_at, pairs_of}
use Rattle.copy.proofs.Fits.{run-inside, pairs-room}
use Rattle.copy.proofs.Laws.{pairs-reals}
use Rattle.copy.proofs.patterns.U32Laid.line.Goals as goal

pub overflow_mul-pairs-then-pairs-gt0-2 : goal.overflow_mul-pairs-then-pairs-gt0-2
overflow_mul-pairs-then-pairs-gt0-2 c =
    let a = c.args in
    omega (arith, run-inside 4 (length a.src.now) a.pairs.first a.pairs.count (length a.out.now) (omega arith) c.requires)

pub lay-requires : goal.lay-requires
lay-requires c =
    let a = c.args in (
      omega (arith, run-inside 4 (length a.src.now) a.pairs.first a.pairs.count (length a.out.now) (omega arith) c.requires),
      pairs-room 4 (length a.src.now) a.pairs.first 1 a.pairs.count (length a.out.now) c.requires,
      c.lead-few.ensures,
    )

pub returns-then-pairs-gt0 : goal.returns-then-pairs-gt0
returns-then-pairs-gt0 c =
    let a = c.args in
    rw (c.if-pairs.true, pairs-reals (pattern_at a.order a.src.now) a.pairs.first a.pairs.count) c.lay.ensures

pub returns-else-pairs-gt0 : goal.returns-else-pairs-gt0
unfolding pairs_of
returns-else-pairs-gt0 c =
    let e : c.args.pairs.count ≡ 0 = omega arith in
    rw e
