-- A checker's verdict and the value that it reads are one answer.
use mathlib.Core.Path.{sym, ◌∙◌}
use Rattle.claims.proofs.Promise.{OneAnswer}
use Rattle.claims.proofs.Told.{read-told}
use Rattle.body.proofs.sampled.gfnc.Reads as gfnc
use Rattle.body.proofs.sampled.gsnc.Reads as gsnc
use Rattle.body.proofs.sampled.sfnc.Reads as sfnc
use Rattle.body.proofs.sampled.sfnr.Reads as sfnr
use Rattle.body.proofs.sampled.ssnc.Reads as ssnc
use Rattle.body.proofs.sampled.ssnr.Reads as ssnr
use Rattle.body.proofs.values.no_number.Reads as no_number
use Rattle.body.proofs.values.no_band.Reads as no_band
use Rattle.body.proofs.values.no_level.Reads as no_level
use Rattle.body.proofs.sampled.shape_of.Reads as shape_of
use Rattle.body.proofs.faults.FaultNumbered.number.Reads as number
use Rattle.body.proofs.groups.gcf.Reads as gcf
use Rattle.body.proofs.groups.giqp.Reads as giqp
use Rattle.body.proofs.groups.grg.Reads as grg
use Rattle.body.proofs.groups.no_gains.Reads as no_gains
use Rattle.body.proofs.groups.no_hertz.Reads as no_hertz
use Rattle.body.proofs.groups.no_packing.Reads as no_packing
use Rattle.body.proofs.kinds.code_of.Reads as code_of
use Rattle.body.proofs.kinds.kind_of.Reads as kind_of
use Rattle.body.proofs.kinds.letters_of.Reads as letters_of
use Rattle.body.proofs.levels.dbfs.Reads as dbfs
use Rattle.body.proofs.levels.dbtg.Reads as dbtg
use Rattle.body.proofs.levels.ffs.Reads as ffs
use Rattle.body.proofs.levels.pattern.Reads as pattern
use Rattle.body.proofs.numbers.bw.Reads as bw
use Rattle.body.proofs.numbers.bwof.Reads as bwof
use Rattle.body.proofs.numbers.cf.Reads as cf
use Rattle.body.proofs.numbers.siqp.Reads as siqp
use Rattle.body.proofs.numbers.sofh.Reads as sofh
use Rattle.body.proofs.numbers.sr.Reads as sr
use Rattle.body.proofs.plain.empty.Reads as empty
use Rattle.body.proofs.plain.text.Reads as text
use Rattle.body.proofs.verdict.check.Reads as check

pub fault-number-one-answer : OneAnswer number.Post
fault-number-one-answer κs a r r' s s' p q = p ∙ sym q

pub kind-of-one-answer : OneAnswer kind_of.Post
kind-of-one-answer κs a r r' s s' p q = p ∙ sym q

pub code-of-one-answer : OneAnswer code_of.Post
code-of-one-answer κs a r r' s s' p q = p ∙ sym q

pub letters-of-one-answer : OneAnswer letters_of.Post
letters-of-one-answer κs a r r' s s' p q = p ∙ sym q

pub no-packing-one-answer : OneAnswer no_packing.Post
no-packing-one-answer κs a r r' s s' p q = p ∙ sym q

pub no-hertz-one-answer : OneAnswer no_hertz.Post
no-hertz-one-answer κs a r r' s s' p q = p ∙ sym q

pub no-gains-one-answer : OneAnswer no_gains.Post
no-gains-one-answer κs a r r' s s' p q = p ∙ sym q

pub pattern-one-answer : OneAnswer pattern.Post
pattern-one-answer κs a r r' s s' p q = p ∙ sym q

-- an answer that means what a rule says

pub siqp-one-answer : OneAnswer siqp.Post
siqp-one-answer κs a r r' s s' p q = read-told r r' (p ∙ sym q)

pub sofh-one-answer : OneAnswer sofh.Post
sofh-one-answer κs a r r' s s' p q = read-told r r' (p ∙ sym q)

pub sr-one-answer : OneAnswer sr.Post
sr-one-answer κs a r r' s s' p q = read-told r r' (p ∙ sym q)

pub bw-one-answer : OneAnswer bw.Post
bw-one-answer κs a r r' s s' p q = read-told r r' (p ∙ sym q)

pub cf-one-answer : OneAnswer cf.Post
cf-one-answer κs a r r' s s' p q = read-told r r' (p ∙ sym q)

pub bwof-one-answer : OneAnswer bwof.Post
bwof-one-answer κs a r r' s s' p q = read-told r r' (p ∙ sym q)

pub dbfs-one-answer : OneAnswer dbfs.Post
dbfs-one-answer κs a r r' s s' p q = read-told r r' (p ∙ sym q)

pub dbtg-one-answer : OneAnswer dbtg.Post
dbtg-one-answer κs a r r' s s' p q = read-told r r' (p ∙ sym q)

pub ffs-one-answer : OneAnswer ffs.Post
ffs-one-answer κs a r r' s s' p q = read-told r r' (p ∙ sym q)

pub ssnc-one-answer : OneAnswer ssnc.Post
ssnc-one-answer κs a r r' s s' p q = read-told r r' (p ∙ sym q)

pub ssnr-one-answer : OneAnswer ssnr.Post
ssnr-one-answer κs a r r' s s' p q = read-told r r' (p ∙ sym q)

pub sfnc-one-answer : OneAnswer sfnc.Post
sfnc-one-answer κs a r r' s s' p q = read-told r r' (p ∙ sym q)

pub sfnr-one-answer : OneAnswer sfnr.Post
sfnr-one-answer κs a r r' s s' p q = read-told r r' (p ∙ sym q)

pub gsnc-one-answer : OneAnswer gsnc.Post
gsnc-one-answer κs a r r' s s' p q = read-told r r' (p ∙ sym q)

pub gfnc-one-answer : OneAnswer gfnc.Post
gfnc-one-answer κs a r r' s s' p q = read-told r r' (p ∙ sym q)

pub text-one-answer : OneAnswer text.Post
text-one-answer κs a r r' s s' p q = read-told r r' (p ∙ sym q)

pub empty-one-answer : OneAnswer empty.Post
empty-one-answer κs a r r' s s' p q = read-told r r' (p ∙ sym q)

pub check-one-answer : OneAnswer check.Post
check-one-answer κs a r r' s s' p q = read-told r r' (p ∙ sym q)

pub giqp-one-answer : OneAnswer giqp.Post
giqp-one-answer κs a r r' s s' p q = read-told r r' (p ∙ sym q)

pub gcf-one-answer : OneAnswer gcf.Post
gcf-one-answer κs a r r' s s' p q = read-told r r' (p ∙ sym q)

pub grg-one-answer : OneAnswer grg.Post
grg-one-answer κs a r r' s s' p q = read-told r r' (p ∙ sym q)

pub no-number-one-answer : OneAnswer no_number.Post
no-number-one-answer κs a r r' s s' p q = p ∙ sym q

pub no-band-one-answer : OneAnswer no_band.Post
no-band-one-answer κs a r r' s s' p q = p ∙ sym q

pub no-level-one-answer : OneAnswer no_level.Post
no-level-one-answer κs a r r' s s' p q = p ∙ sym q

pub shape-of-one-answer : OneAnswer shape_of.Post
shape-of-one-answer κs a r r' s s' p q = p ∙ sym q
