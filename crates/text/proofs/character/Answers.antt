-- Each arm is the one row of the table whose first range holds the byte, and the bytes after it are tested by that row;
-- the bytes of the last arm begin no row.
use Rattle.std.proofs.Common.{true, refl, arith}
use Rattle.text.specs.Utf8.{between, fits}
use Rattle.text.proofs.Laws.{at-row, at-none}
use Rattle.text.proofs.character.Goals as goal

pub returns-in-0-to-127 : goal.returns-in-0-to-127
unfolding fits
returns-in-0-to-127 c = at-row 0 _ _ {good = true} (omega arith) (omega arith) (omega arith) refl

pub returns-in-224 : goal.returns-in-224
returns-in-224 c = rw c.then_some.ensures (at-row 2 _ _ (omega arith) (omega arith) (omega arith) c.second.ensures)

pub returns-in-237 : goal.returns-in-237
returns-in-237 c = rw c.then_some-in-237.ensures (at-row 4 _ _ (omega arith) (omega arith) (omega arith) c.second-in-237.ensures)

pub returns-in-240 : goal.returns-in-240
returns-in-240 c = rw c.then_some-in-240.ensures (at-row 6 _ _ (omega arith) (omega arith) (omega arith) c.second-in-240.ensures)

pub returns-in-244 : goal.returns-in-244
returns-in-244 c = rw c.then_some-in-244.ensures (at-row 8 _ _ (omega arith) (omega arith) (omega arith) c.second-in-244.ensures)

pub returns-in-194-to-223 : goal.returns-in-194-to-223
returns-in-194-to-223 c = rw c.then_some-in-194-to-223.ensures (at-row 1 _ _ (omega arith) (omega arith) (omega arith) c.tails.ensures)

pub returns-in-225-to-236 : goal.returns-in-225-to-236
returns-in-225-to-236 c = rw c.then_some-in-225-to-236.ensures (at-row 3 _ _ (omega arith) (omega arith) (omega arith) c.tails-in-225-to-236.ensures)

pub returns-in-238-to-239 : goal.returns-in-238-to-239
returns-in-238-to-239 c = rw c.then_some-in-238-to-239.ensures (at-row 5 _ _ (omega arith) (omega arith) (omega arith) c.tails-in-238-to-239.ensures)

pub returns-in-241-to-243 : goal.returns-in-241-to-243
returns-in-241-to-243 c = rw c.then_some-in-241-to-243.ensures (at-row 7 _ _ (omega arith) (omega arith) (omega arith) c.tails-in-241-to-243.ensures)

pub returns-in_default : goal.returns-in_default
returns-in_default c = at-none (between 0x80 0xC1) _ _ refl (omega arith) (omega arith)

pub returns-in_default-2 : goal.returns-in_default-2
returns-in_default-2 c = at-none (between 0xF5 0xFF) _ _ refl (omega arith) (omega arith)
