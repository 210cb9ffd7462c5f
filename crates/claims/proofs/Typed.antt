-- The answer of a record from its values, and what the slice holds at the end, are fixed.
use Rattle.writer.proofs.Theorems.{written-told}
use Rattle.claims.proofs.Promise.{OneEnd, by-meaning}
use Rattle.typed.proofs.band.bwof.Reads as bwof
use Rattle.typed.proofs.empty.eofh.Reads as eofh
use Rattle.typed.proofs.empty.iqdc.Reads as iqdc
use Rattle.typed.proofs.group.gcf.Reads as gcf
use Rattle.typed.proofs.group.giqp.Reads as giqp
use Rattle.typed.proofs.group.grg.Reads as grg
use Rattle.typed.proofs.levels.level.Reads as level
use Rattle.typed.proofs.number.bw.Reads as bw
use Rattle.typed.proofs.number.cf.Reads as cf
use Rattle.typed.proofs.number.gcbw.Reads as gcbw
use Rattle.typed.proofs.number.siqp.Reads as siqp
use Rattle.typed.proofs.number.sofh.Reads as sofh
use Rattle.typed.proofs.number.sr.Reads as sr
use Rattle.typed.proofs.plain.text.Reads as text

pub siqp-one-answer : OneEnd siqp.Post (λ κs s. s.1.1.0.now)
siqp-one-answer κs a r r' s s' p q = by-meaning written-told r r' p q

pub sr-one-answer : OneEnd sr.Post (λ κs s. s.1.1.0.now)
sr-one-answer κs a r r' s s' p q = by-meaning written-told r r' p q

pub bw-one-answer : OneEnd bw.Post (λ κs s. s.1.1.0.now)
bw-one-answer κs a r r' s s' p q = by-meaning written-told r r' p q

pub gcbw-one-answer : OneEnd gcbw.Post (λ κs s. s.1.1.0.now)
gcbw-one-answer κs a r r' s s' p q = by-meaning written-told r r' p q

pub cf-one-answer : OneEnd cf.Post (λ κs s. s.1.1.0.now)
cf-one-answer κs a r r' s s' p q = by-meaning written-told r r' p q

pub sofh-one-answer : OneEnd sofh.Post (λ κs s. s.1.1.0.now)
sofh-one-answer κs a r r' s s' p q = by-meaning written-told r r' p q

pub bwof-one-answer : OneEnd bwof.Post (λ κs s. s.1.1.1.0.now)
bwof-one-answer κs a r r' s s' p q = by-meaning written-told r r' p q

pub level-one-answer : OneEnd level.Post (λ κs s. s.1.1.0.now)
level-one-answer κs a r r' s s' p q = by-meaning written-told r r' p q

pub eofh-one-answer : OneEnd eofh.Post (λ κs s. s.1.0.now)
eofh-one-answer κs a r r' s s' p q = by-meaning written-told r r' p q

pub iqdc-one-answer : OneEnd iqdc.Post (λ κs s. s.1.0.now)
iqdc-one-answer κs a r r' s s' p q = by-meaning written-told r r' p q

pub giqp-one-answer : OneEnd giqp.Post (λ κs s. s.1.1.0.now)
giqp-one-answer κs a r r' s s' p q = by-meaning written-told r r' p q

pub gcf-one-answer : OneEnd gcf.Post (λ κs s. s.1.1.0.now)
gcf-one-answer κs a r r' s s' p q = by-meaning written-told r r' p q

pub grg-one-answer : OneEnd grg.Post (λ κs s. s.1.1.0.now)
grg-one-answer κs a r r' s s' p q = by-meaning written-told r r' p q

pub text-one-answer : OneEnd text.Post (λ κs s. s.1.1.0.now)
text-one-answer κs a r r' s s' p q = by-meaning written-told r r' p q
