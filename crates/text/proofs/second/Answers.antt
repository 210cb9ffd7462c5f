-- The first range is that of the first byte; with no byte nothing fits.
use Rattle.std.proofs.Common.{◌∷◌, replicate, sym, arith}
use Rattle.text.specs.Utf8.{between, utf8_tail, fits}
use Rattle.text.proofs.Laws.{fits-short}
use Rattle.text.proofs.second.Goals as goal

pub returns-in-Some : goal.returns-in-Some
unfolding fits
returns-in-Some g c = rw (c.in-Some.ensures.cases.0, c.lies.ensures, c.tails.ensures)

pub returns-in-None : goal.returns-in-None
returns-in-None g c = sym (fits-short (between c.args.low c.args.high ∷ replicate g.row.N utf8_tail) c.args.s.now (omega (arith, c.in-None.ensures.cases)))
