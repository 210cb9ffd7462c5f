-- The body stands behind the header.
use Rattle.std.proofs.Common.{◌≡◌, ◌+◌, ◌-◌, arith}
use Rattle.std.proofs.Math.Seq.{drop-drop}
use Rattle.samples.proofs.data_at.Goals as goal

pub returns : goal.returns
returns c =
    let a = c.args in
    let q : a.at + 12 + a.size - (a.at + 12) ≡ a.size = omega arith in
    rw (q, ← drop-drop 12 a.at a.s.now) at c.ready_data.ensures
