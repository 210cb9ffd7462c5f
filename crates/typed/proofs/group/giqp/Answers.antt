-- The three words stand before the offsets, of which there are no more than sixteen.
use Rattle.std.proofs.Common.{◌≡◌, length, rules}
use Rattle.body.specs.Kind.{code_of}
use Rattle.body.specs.declared.kinds.Kind.TheVariants.{GIQP}
use Rattle.typed.specs.Groups.{packing_body}
use Rattle.typed.proofs.Laid.{packing-is-body}
use Rattle.typed.proofs.Writes.{same-body}
use Rattle.typed.proofs.group.giqp.Goals as goal

pub returns : goal.returns
returns c =
    let a = c.args in
    let sixteen : length a.packing.offsets ≡ 16 = search rules in
    let e = packing-is-body a.order a.packing sixteen _ _ _ c.min.ensures c.min-2.ensures c.from.ensures in
    let w = same-body a.order (code_of GIQP) _ (packing_body a.order a.packing) a.out.now a.place _ _ e (c.group.ensures.said, c.group.ensures.left) in
    record { said = w.0; left = w.1 }
