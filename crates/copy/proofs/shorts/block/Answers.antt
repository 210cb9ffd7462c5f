-- A word's halves are the two numbers that stand there, and a number turned has the bytes the other way round.
use Rattle.std.proofs.Common.{◌≡◌, ◌+◌, ◌*◌, ◌/◌, ◌%◌, ◌∙◌, sym, ap, take, drop, set, to_z, of_z, length-set, length-drop, take-append-drop, rules, arith}
use lib.Seq.{length-take-le}
use Rattle.std.specs.Int.{w16}
use Rattle.num.specs.Number.{signed, bytes_of}
use Rattle.num.specs.declared.Order.TheVariants.{Big, Little}
use Rattle.copy.specs.Samples.{short_at, reals_of}
use Rattle.copy.proofs.Halves.{little-halves, bytes-back}
use Rattle.copy.proofs.Laws.{wanted-next, reals-behind, pairs-reals}
use Rattle.copy.proofs.shorts.block.Invariants.{Read, numbers}
use Rattle.copy.proofs.shorts.block.Goals as goal

pub loop-k-preserved : goal.loop-k-preserved
loop-k-preserved c =
    let a = c.args in
    let k = c.loop-k.k in
    let x = c.word_at-word.result in
    let h = little-halves 2 a.src.now (a.place + k) (omega arith) c.type_inv.src in
    let e : 2 * (a.place + k) ≡ 2 * a.place + 2 * k = omega arith in
    let f : 2 * a.place + 2 * k + 1 ≡ 2 * a.place + (2 * k + 1) = omega arith in
    let one = wanted-next (Read a.src.now a.place) c.loop-k.halves (2 * k) (x % 65536) 0 (omega arith) (rw c.word_at-word.ensures (rw e at h.0)) c.loop-k.invariant.read in
    let two = wanted-next (Read a.src.now a.place) (set c.loop-k.halves (2 * k) (x % 65536)) (2 * k + 1) (x / 65536) 0 (simp length-set (omega arith)) (rw c.word_at-word.ensures (rw (e, f) at h.1)) one in
    record { within = omega arith; long = simp length-set c.loop-k.invariant.long; read = λ m b. two m (omega arith) }

pub loop-i-init : goal.loop-i-init
unfolding reals_of
loop-i-init c = let a = c.args in record { within = omega arith; laid = sym (take-append-drop (2 * a.j) a.out.now) }

pub loop-i-preserved : goal.loop-i-preserved
loop-i-preserved c =
    let a = c.args in
    let i = c.loop-i.i in
    let at = 2 * a.place + i in
    let x = c.loop-k.invariant.read i (omega arith) in
    let bytes = c.bytes.ensures ∙ ap (bytes_of Little 2) x ∙ bytes-back 2 a.src.now at (omega arith) c.type_inv.src in
    let value : c.of.result ≡ numbers a.src.now a.place i = c.of.ensures ∙ ap (signed w16 Big) bytes in
    let back : to_z w16 (of_z w16 c.of.result) ≡ c.of.result = search rules in
    let next = reals-behind (numbers a.src.now a.place) (take (2 * a.j) a.out.now) (drop (2 * a.j) a.out.now) (2 * a.j) i (length-take-le (2 * a.j) a.out.now (omega arith)) (simp length-drop (omega arith)) in
    record { within = omega arith; laid = rw (back, value, c.loop-i.invariant.laid) next }

pub returns : goal.returns
returns c =
    let a = c.args in
    let e : c.loop-i.i ≡ 32 = omega arith in
    rw (pairs-reals (short_at Big a.src.now) a.place 16) (rw e at c.loop-i.invariant.laid)
