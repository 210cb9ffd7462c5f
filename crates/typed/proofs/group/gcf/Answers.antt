-- The count stands before the frequencies, of which there are no more than sixteen.
use Rattle.std.proofs.Common.{◌≡◌, length, rules}
use Rattle.body.specs.Kind.{code_of}
use Rattle.body.specs.declared.kinds.Kind.TheVariants.{GCF}
use Rattle.typed.specs.Groups.{hertz_body}
use Rattle.typed.proofs.Laid.{hertz-is-body}
use Rattle.typed.proofs.Writes.{same-body}
use Rattle.typed.proofs.group.gcf.Goals as goal

pub returns : goal.returns
returns c =
    let a = c.args in
    let sixteen : length a.hertz.values ≡ 16 = search rules in
    let e = hertz-is-body a.order a.hertz sixteen _ _ c.min.ensures c.min-2.ensures in
    let w = same-body a.order (code_of GCF) _ (hertz_body a.order a.hertz) a.out.now a.place _ _ e (c.group.ensures.said, c.group.ensures.left) in
    record { said = w.0; left = w.1 }
