-- Whether bytes and numbers were laid, and what the slice holds at the end, are fixed.
use mathlib.Core.Path.{sym, ◌∙◌}
use Rattle.lay.proofs.bytes.Reads as bytes
use Rattle.lay.proofs.run.Reads as run
use Rattle.claims.proofs.Numbers.{i16_type, i64_type, u32_type}
use Rattle.claims.proofs.Promise.{OneEnd, NumberType}

pub bytes-one-answer : OneEnd bytes.Post (λ κs s. s.1.0.now)
bytes-one-answer κs a r r' s s' p q = (p.0 ∙ sym q.0, p.1 ∙ sym q.1)

-- of numbers of every type
abbrev pub RunOneAnswer : NumberType → Type 0
RunOneAnswer x = OneEnd (run.Post x.n x.T x.fits x.laws x.copy x.ghosts x.dict x.clone x.clone_dict) (λ κs s. s.1.1.0.now)

pub run-one-answer : (x : NumberType) → RunOneAnswer x
run-one-answer x κs a r r' s s' p q = (p.0 ∙ sym q.0, p.1 ∙ sym q.1)

pub shorts-one-answer : RunOneAnswer i16_type
shorts-one-answer = run-one-answer i16_type

pub words-one-answer : RunOneAnswer u32_type
words-one-answer = run-one-answer u32_type

pub longs-one-answer : RunOneAnswer i64_type
longs-one-answer = run-one-answer i64_type
