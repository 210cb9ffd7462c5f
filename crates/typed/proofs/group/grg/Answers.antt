-- The count stands before the patterns of the gains, of which there are no more than sixteen.
use Rattle.std.proofs.Common.{◌≡◌, ◌∙◌, sym, ℕ, ◌<◌, get_or, length, map, rules}
use Rattle.std.proofs.lemmas.List.{ext_get_or, get_or-map, length-map}
use Rattle.std.specs.Float.{binary32}
use Rattle.std.specs.Float.Ieee.{nan, to_bits}
use Rattle.body.specs.Kind.{code_of}
use Rattle.body.specs.declared.kinds.Kind.TheVariants.{GRG}
use Rattle.typed.specs.Groups.{gains_body}
use Rattle.typed.proofs.Laid.{gains-is-body}
use Rattle.typed.proofs.Writes.{same-body}
use Rattle.typed.proofs.group.grg.Goals as goal

pub returns : goal.returns
returns c =
    let a = c.args in
    let sixteen : length a.gains.values ≡ 16 = search rules in
    let each : (i : ℕ) → i < 16 → get_or c.map-patterns.result i 0 ≡ to_bits binary32 (get_or a.gains.values i nan) = λ i h. let k = c.map-patterns.ensures.items.at i nan 0 h in let m = k.2.met in search rules in
    let long : length c.map-patterns.result ≡ length (map (to_bits binary32) a.gains.values) = c.map-patterns.ensures.items.long ∙ sym (length-map a.gains.values (to_bits binary32) ∙ sixteen) in
    let patterns : c.map-patterns.result ≡ map (to_bits binary32) a.gains.values =
    ext_get_or 0 _ _ long (λ i h. each i (rw c.map-patterns.ensures.items.long at h) ∙ sym (get_or-map (to_bits binary32) a.gains.values i nan 0 (rw (c.map-patterns.ensures.items.long ∙ sym sixteen) at h))) in
    let e = gains-is-body a.order a.gains sixteen _ patterns _ _ c.min.ensures c.min-2.ensures in
    let w = same-body a.order (code_of GRG) _ (gains_body a.order a.gains) a.out.now a.place _ _ e (c.group.ensures.said, c.group.ensures.left) in
    record { said = w.0; left = w.1 }
