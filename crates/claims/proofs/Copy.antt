-- Whether samples were copied, and what the slice holds at the end, are fixed.
use mathlib.Core.Path.{sym, ◌∙◌}
use Rattle.claims.proofs.Promise.{OneEnd}
use Rattle.copy.proofs.sample.U32Sample.pairs.Reads as pattern_pairs
use Rattle.copy.proofs.sample.U32Sample.reals.Reads as pattern_reals
use Rattle.copy.proofs.sample.I16Sample.pairs.Reads as short_pairs
use Rattle.copy.proofs.sample.I16Sample.reals.Reads as short_reals

pub short-pairs-one-answer : OneEnd short_pairs.Post (λ κs s. s.1.1.1.1.0.now)
short-pairs-one-answer κs a r r' s s' p q = (p.0 ∙ sym q.0, cc)

pub pattern-pairs-one-answer : OneEnd pattern_pairs.Post (λ κs s. s.1.1.1.1.0.now)
pattern-pairs-one-answer κs a r r' s s' p q = (p.0 ∙ sym q.0, cc)

pub short-reals-one-answer : OneEnd short_reals.Post (λ κs s. s.1.1.1.1.0.now)
short-reals-one-answer κs a r r' s s' p q = (p.0 ∙ sym q.0, cc)

pub pattern-reals-one-answer : OneEnd pattern_reals.Post (λ κs s. s.1.1.1.1.0.now)
pattern-reals-one-answer κs a r r' s s' p q = (p.0 ∙ sym q.0, cc)
