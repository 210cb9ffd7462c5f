-- What may be written is read back as it was given, kind by kind.
use Prim.Native.Nat.{ℕ}
use mathlib.Core.Path.{◌≡◌, sym, ap, ◌∙◌}
use mathlib.Core.Bool.{Bool, true, false}
use native.Mathlib.Omega.{arith}
use Rattle.num.specs.Answer.{Answer, gives, refuses, then}
use Rattle.num.specs.Choice.{pick}
use Rattle.num.specs.declared.Order.{Order}
use Rattle.frame.specs.Place.{good_size}
use Rattle.body.specs.Kind.{code_of}
use Rattle.body.specs.declared.kinds.Kind.{Kind}
use Rattle.body.specs.declared.kinds.Kind.TheVariants.{SSNC, SSNR, SFNC, SFNR, GSNC, GFNC, SIQP, SR, BW, GCBW, BWOF, CF, DBFS, DBTG, FFS, GIQP, GCF, GRG, SOFH, EOFH, IQDC, TEXT, Unknown}
use Rattle.writer.specs.Write.{may_write}
use Rattle.typed.proofs.Texts.{text-bytes}
use Rattle.values.specs.Made.{Made, Fitting, body_of, size_of}
use Rattle.values.specs.Says.{judged, as_read}
use Rattle.values.specs.Back.{Behind, Back}
use Rattle.values.proofs.Table.{values-said}
use Rattle.values.proofs.Samples.{numbers-behind}
use Rattle.values.proofs.May.{values-may}

-- what may be written is allowed by its row
allowed-by : (good : Bool) (j : Answer (Unit {0})) → pick good j (refuses 32) ≡ gives tt → j ≡ gives tt
allowed-by true j e = e
allowed-by false j e = let z : ◌≡◌ {A = ℕ} 0 1 = cc in absurd (omega arith)

-- the bytes of a text, and the numbers of samples, stand in the body
behind-back : (o : Order) (k : Kind) (v : Made k) → Fitting k v → Behind k o (body_of k o v) v
behind-back o SSNC v f = numbers-behind false o v f.1
behind-back o SSNR v f = numbers-behind false o v f.1
behind-back o GSNC v f = numbers-behind false o v f.1
behind-back o SFNC v f = numbers-behind true o v f.1
behind-back o SFNR v f = numbers-behind true o v f.1
behind-back o GFNC v f = numbers-behind true o v f.1
behind-back o SIQP v f = tt
behind-back o SR v f = tt
behind-back o BW v f = tt
behind-back o GCBW v f = tt
behind-back o BWOF v f = tt
behind-back o CF v f = tt
behind-back o DBFS v f = tt
behind-back o DBTG v f = tt
behind-back o FFS v f = tt
behind-back o GIQP v f = tt
behind-back o GCF v f = tt
behind-back o GRG v f = tt
behind-back o SOFH v f = tt
behind-back o EOFH v f = tt
behind-back o IQDC v f = tt
behind-back o TEXT t f = text-bytes o t
behind-back o Unknown v f = tt

-- Values of which a record may be written are read back from its body as they were given, for each of the 22 kinds: a
-- group's places from n on as 0, a text with its bytes, samples with their time, their count and each number.
pub values-back : (o : Order) (k : Kind) (v : Made k) → Fitting k v → may_write o (code_of k) (body_of k o v) ≡ gives tt →
    Back k o (body_of k o v) v
values-back o k v f e =
    let j : judged k v ≡ gives tt = allowed-by (good_size (size_of k v)) (judged k v) (sym (values-may o k v f) ∙ e) in
    record {
      given = values-said o k v f ∙ ap (λ (a : Answer (Unit {0})). then a (λ _. gives (as_read k v))) j;
      behind = behind-back o k v f;
    }
