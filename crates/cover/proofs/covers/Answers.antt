-- The offsets in use are the first n.
use Rattle.std.proofs.Common.{◌≡◌, true, sym, ◌∙◌, arith}
use Rattle.cover.specs.Cover.{packs}
use Rattle.cover.proofs.Laws.{front, packed, group-packed}
use Rattle.cover.proofs.covers.Goals as goal

pub returns-else-pairs-eq0 : goal.returns-else-pairs-eq0
returns-else-pairs-eq0 c =
    let a = c.args in
    let good : packs a.n a.increment ≡ true = sym c.allowed.ensures ∙ c.if-not-allowed.false in
    c.fills.ensures
    ∙ front a.n a.increment a.pairs a.offsets (omega (arith, packed a.n a.increment good))
    ∙ sym (group-packed a.pairs a.n a.increment a.offsets good)
