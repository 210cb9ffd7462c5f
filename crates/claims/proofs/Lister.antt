-- The answer of laying a listing, and what the slice holds at the end, are fixed. The example of a listing is that of its bytes.
use mathlib.Core.Path.{◌≡◌, sym, ◌∙◌}
use native.Mathlib.Omega.{arith}
use Rattle.num.specs.declared.Order.TheVariants.{Big}
use Rattle.lister.specs.Listed.{listed}
use Rattle.lister.proofs.Cases.{listed-order}
use Rattle.lister.proofs.lay.Reads as lay
use Rattle.claims.specs.Marked.{example, example_text}
use Rattle.claims.proofs.Marked.{listing-example}
use Rattle.claims.proofs.Promise.{OneEnd}

pub lay-one-answer : OneEnd lay.Post (λ κs s. s.1.0.now)
lay-one-answer κs a r r' s s' p q = (p.0 ∙ sym q.0, p.1 ∙ sym q.1)

-- the 73 bytes of the example have the text as their listing
pub listed-example : listed example ≡ example_text
listed-example = listed-order example Big (omega (arith, listing-example.1)) listing-example.0 ∙ listing-example.2
