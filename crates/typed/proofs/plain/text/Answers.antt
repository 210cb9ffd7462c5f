-- The length is laid first, and the text where it ends; what is left of the room is zero.
use Rattle.std.proofs.Common.{length, arith}
use Rattle.num.specs.Number.{bytes_of}
use Rattle.lay.proofs.Values.{run-one}
use Rattle.body.specs.Kind.{code_of}
use Rattle.body.specs.declared.kinds.Kind.TheVariants.{TEXT}
use Rattle.typed.specs.Texts.{text_body}
use Rattle.typed.proofs.Texts.{text-size, text-laid}
use Rattle.typed.proofs.Writes.{same-body, too-large}
use Rattle.typed.proofs.plain.text.Goals as goal

pub returns-then-n-gt-LONGEST : goal.returns-then-n-gt-LONGEST
returns-then-n-gt-LONGEST c =
    let a = c.args in
    let w = too-large a.order (code_of TEXT) (text_body a.order a.bytes.now) a.out.now a.place c.if-out-place.false (omega (arith, text-size a.order a.bytes.now)) in
    record { said = w.0; left = w.1 }

pub returns : goal.returns
returns c =
    let a = c.args in
    let h = rw (run-one (bytes_of a.order 4) (length a.bytes.now)) at c.run.ensures.left in
    let e = text-laid a.order a.bytes.now 69632 _ _ _ c.room-body.ensures (omega arith) h c.bytes.ensures.left in
    let w = same-body a.order (code_of TEXT) _ (text_body a.order a.bytes.now) a.out.now a.place _ _ e (c.write.ensures.said, c.write.ensures.left) in
    record { said = w.0; left = w.1 }
