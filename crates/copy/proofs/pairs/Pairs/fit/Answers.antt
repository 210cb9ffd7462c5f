-- The tests come in order: room, no pairs, the first pair, no step, and then the last pair, which is farthest on.
use Rattle.std.proofs.Common.{sym, arith}
use Rattle.copy.proofs.Fits.{fit-none, fit-outside, fit-same, fit-last}
use Rattle.copy.proofs.pairs.Pairs.fit.Goals as goal

pub returns-then-self-eq0 : goal.returns-then-self-eq0
returns-then-self-eq0 c =
    let a = c.args in
    sym (fit-none a.width a.size a.self.first a.self.step a.self.count a.room c.requires.0 c.if-self-eq0.true)

pub returns-then-places-self : goal.returns-then-places-self
returns-then-places-self c =
    let a = c.args in
    sym (fit-outside a.width a.size a.self.first a.self.step a.self.count a.room c.requires.0 (omega arith) (omega arith))

pub returns-then-self-eq0-2 : goal.returns-then-self-eq0-2
returns-then-self-eq0-2 c =
    let a = c.args in
    sym (fit-same a.width a.size a.self.first a.self.step a.self.count a.room c.requires.0 (omega arith) (omega arith) c.if-self-eq0-2.true)

pub returns : goal.returns
returns c =
    let a = c.args in
    fit-last a.width a.size a.self.first a.self.step a.self.count a.room c.requires.0 (omega arith) (omega arith) (omega arith) (omega arith)
