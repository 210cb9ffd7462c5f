-- The answer of a record, and what the slice holds at the end, are fixed.
use Prim.Native.Nat.{ℕ}
use mathlib.Core.Path.{◌≡◌, sym, ◌∙◌}
use Rattle.std.specs.Prelude.{Result}
use Rattle.std.specs.Result.{result_unwrap_or}
use Rattle.writer.specs.Write.{written_reply}
use Rattle.writer.specs.declared.Unwritten.{Unwritten}
use Rattle.writer.proofs.Theorems.{written-told, next-place}
use Rattle.claims.proofs.Promise.{OneAnswer, OneEnd, by-meaning}
use Rattle.writer.proofs.patterns.gfnc.Reads as gfnc
use Rattle.writer.proofs.patterns.sfnc.Reads as sfnc
use Rattle.writer.proofs.patterns.sfnr.Reads as sfnr
use Rattle.writer.proofs.shorts.gsnc.Reads as gsnc
use Rattle.writer.proofs.shorts.ssnc.Reads as ssnc
use Rattle.writer.proofs.shorts.ssnr.Reads as ssnr
use Rattle.writer.proofs.write.Reads as write
use Rattle.writer.proofs.UnwrittenFromFault.from.Reads as from_fault
use Rattle.writer.proofs.UnwrittenNumbered.number.Reads as number

pub write-one-answer : OneEnd write.Post (λ κs s. s.1.1.1.0.now)
write-one-answer κs a r r' s s' p q = by-meaning written-told r r' p q

pub ssnc-one-answer : OneEnd ssnc.Post (λ κs s. s.1.1.1.0.now)
ssnc-one-answer κs a r r' s s' p q = by-meaning written-told r r' p q

pub ssnr-one-answer : OneEnd ssnr.Post (λ κs s. s.1.1.1.0.now)
ssnr-one-answer κs a r r' s s' p q = by-meaning written-told r r' p q

pub gsnc-one-answer : OneEnd gsnc.Post (λ κs s. s.1.1.1.0.now)
gsnc-one-answer κs a r r' s s' p q = by-meaning written-told r r' p q

pub sfnc-one-answer : OneEnd sfnc.Post (λ κs s. s.1.1.1.0.now)
sfnc-one-answer κs a r r' s s' p q = by-meaning written-told r r' p q

pub sfnr-one-answer : OneEnd sfnr.Post (λ κs s. s.1.1.1.0.now)
sfnr-one-answer κs a r r' s s' p q = by-meaning written-told r r' p q

pub gfnc-one-answer : OneEnd gfnc.Post (λ κs s. s.1.1.1.0.now)
gfnc-one-answer κs a r r' s s' p q = by-meaning written-told r r' p q

pub written-number-one-answer : OneAnswer number.Post
written-number-one-answer κs a r r' s s' p q = p ∙ sym q

pub written-from-fault-one-answer : OneAnswer from_fault.Post
written-from-fault-one-answer κs a r r' s s' p q = p ∙ sym q

-- the next place is what std's unwrap_or gives with the place of the call
pub written-place-one-answer : (from : ℕ) (r : Result ℕ Unwritten) → result_unwrap_or r from ≡ (written_reply from r).value
written-place-one-answer = next-place
