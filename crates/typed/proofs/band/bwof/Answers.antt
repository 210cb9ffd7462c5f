-- The two numbers fill the body.
use Rattle.std.proofs.Common.{◌≡◌, ◌++◌, length, replicate, length-append}
use Rattle.std.proofs.lemmas.Int.{to_z-of_z}
use Rattle.std.specs.Int.{w64}
use Rattle.num.proofs.Laws.{bytes-length}
use Rattle.lay.specs.Numbers.{int64}
use Rattle.lay.proofs.Splice.{laid-whole}
use Rattle.lay.proofs.Values.{run-two}
use Rattle.body.specs.Kind.{code_of}
use Rattle.body.specs.declared.kinds.Kind.TheVariants.{BWOF}
use Rattle.typed.proofs.Writes.{same-body}
use Rattle.typed.proofs.band.bwof.Goals as goal

pub returns : goal.returns
returns c =
    let a = c.args in
    let body = int64 a.order a.bandwidth ++ int64 a.order a.offset in
    let n : length body ≡ 16 = simp (length-append, bytes-length) in
    let laid = rw (to_z-of_z w64 a.bandwidth c.ranges.bandwidth, to_z-of_z w64 a.offset c.ranges.offset, run-two (int64 a.order) a.bandwidth a.offset) at c.run.ensures.left in
    let w = same-body a.order (code_of BWOF) _ body a.out.now a.place _ _ (laid-whole (replicate 16 0) _ body n laid) (c.write.ensures.said, c.write.ensures.left) in
    record { said = w.0; left = w.1 }
