-- The head is laid first, and the values where it ends.
use Rattle.std.proofs.Common.{◌*◌, length, replicate, arith}
use Rattle.num.specs.Number.{bytes_of}
use Rattle.lay.specs.Numbers.{numbers_of}
use Rattle.lay.specs.Runs.{run_of}
use Rattle.lay.proofs.Numbers.{numbers_length}
use Rattle.typed.proofs.Laid.{group-laid}
use Rattle.typed.proofs.Writes.{same-body}
use Rattle.typed.proofs.group.group.Goals as goal

pub returns : goal.returns
returns g c =
    let a = c.args in
    let head = run_of (bytes_of a.order 4) a.head.now in
    let run = numbers_of a.order g.row.N g.T.Number.bits a.values.now in
    let h = numbers_length a.order 4 (λ n. n) a.head.now in
    let r = numbers_length a.order g.row.N g.T.Number.bits a.values.now in
    let e = group-laid (replicate 132 0) _ _ head run (length a.head.now * 4) (length a.values.now * g.row.N) h r (omega arith) c.run.ensures.left c.run-2.ensures.left in
    let w = same-body a.order a.code _ _ a.out.now a.place _ _ e (c.write.ensures.said, c.write.ensures.left) in
    record { said = w.0; left = w.1 }
