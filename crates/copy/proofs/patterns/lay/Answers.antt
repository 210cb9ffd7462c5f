-- A number more is laid with each turn.
use Rattle.std.proofs.Common.{◌+◌, refl, arith}
use Rattle.copy.specs.Samples.{pattern_at, reals_of}
use Rattle.copy.proofs.Laws.{reals-next}
use Rattle.copy.proofs.patterns.lay.Goals as goal

pub loop-j-init : goal.loop-j-init
unfolding reals_of
loop-j-init c = record { within = omega arith; laid = refl }

pub loop-j-preserved : goal.loop-j-preserved
loop-j-preserved c =
    let a = c.args in record {
      within = omega arith;
      laid = rw (c.word_at.ensures, c.loop-j.invariant.laid) (reals-next (λ k. pattern_at a.order a.src.now (a.first + k)) a.out.now c.loop-j.j (omega arith));
    }

pub loop-j-2-preserved : goal.loop-j-2-preserved
loop-j-2-preserved c =
    let a = c.args in record {
      within = omega arith;
      laid = rw (c.word_at-in-loop-j-2.ensures, c.loop-j-2.invariant.laid) (reals-next (λ k. pattern_at a.order a.src.now (a.first + k)) a.out.now c.loop-j-2.j (omega arith));
    }
