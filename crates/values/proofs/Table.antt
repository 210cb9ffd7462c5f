-- Reading the body that values make, kind by kind.
use mathlib.Core.Path.{◌≡◌, refl}
use mathlib.Core.Bool.{true, false}
use lib.IntN.{pos}
use Rattle.num.specs.declared.Order.{Order}
use Rattle.body.specs.declared.kinds.Kind.{Kind}
use Rattle.body.specs.declared.kinds.Kind.TheVariants.{SSNC, SSNR, SFNC, SFNR, GSNC, GFNC, SIQP, SR, BW, GCBW, BWOF, CF, DBFS, DBTG, FFS, GIQP, GCF, GRG, SOFH, EOFH, IQDC, TEXT, Unknown}
use Rattle.typed.proofs.Numbers.{sofh-back, cf-back}
use Rattle.values.specs.Made.{Made, Fitting, body_of}
use Rattle.values.specs.Says.{reading, says}
use Rattle.values.proofs.Numbers.{siqp-said, least-said, bwof-said, dbfs-said, dbtg-said, ffs-said}
use Rattle.values.proofs.Groups.{packing-said, hertz-said, gains-said}
use Rattle.values.proofs.Texts.{text-said}
use Rattle.values.proofs.Samples.{samples-said}

-- Reading the body that values of a kind make says exactly what the kind's row says of the values: it gives them, as
-- they are read, or it refuses them with the row's number.
pub values-said : (o : Order) (k : Kind) (v : Made k) → Fitting k v → reading k o (body_of k o v) ≡ says k v
values-said o SSNC v f = samples-said false o v 2 f.0
values-said o SSNR v f = samples-said false o v 1 f.0
values-said o GSNC v f = samples-said false o v 2 f.0
values-said o SFNC v f = samples-said true o v 2 f.0
values-said o SFNR v f = samples-said true o v 1 f.0
values-said o GFNC v f = samples-said true o v 2 f.0
values-said o SIQP x f = siqp-said o x f
values-said o SR x f = least-said o (pos 1) x f
values-said o BW x f = least-said o (pos 0) x f
values-said o GCBW x f = least-said o (pos 0) x f
values-said o BWOF b f = bwof-said o b f
values-said o CF x f = cf-back o x f
values-said o DBFS x f = dbfs-said o x f
values-said o DBTG x f = dbtg-said o x f
values-said o FFS x f = ffs-said o x f
values-said o GIQP g f = packing-said o g f
values-said o GCF g f = hertz-said o g f
values-said o GRG g f = gains-said o g f
values-said o SOFH x f = sofh-back o x f
values-said o EOFH v f = refl
values-said o IQDC v f = refl
values-said o TEXT t f = text-said o t
values-said o Unknown v f = absurd v
