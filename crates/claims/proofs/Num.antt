-- Each number, each list of bytes and each number of a refusal is the one that a definition gives.
use mathlib.Core.Path.{sym, ◌∙◌}
use denote.Param.Laws.{Laws, IsCopy}
use denote.RattleType.{RattleType}
use mir.Syntax.{Dict}
use Rattle.std.proofs.result.Result.unwrap_or.Reads as unwrap_or
use Rattle.std.specs.declared.clone.Clone.{Ghosts as CloneGhosts}
use Rattle.num.specs.declared.numbered.Numbered.{Ghosts}
use Rattle.num.proofs.number.I16Number2.bytes.Reads as i16_bytes
use Rattle.num.proofs.number.I16Number2.of.Reads as i16_of
use Rattle.num.proofs.number.I32Number4.bytes.Reads as i32_bytes
use Rattle.num.proofs.number.I32Number4.of.Reads as i32_of
use Rattle.num.proofs.number.I64Number8.bytes.Reads as i64_bytes
use Rattle.num.proofs.number.I64Number8.of.Reads as i64_of
use Rattle.num.proofs.number.Number.at.Reads as at
use Rattle.num.proofs.number.U16Number2.bytes.Reads as u16_bytes
use Rattle.num.proofs.number.U16Number2.of.Reads as u16_of
use Rattle.num.proofs.number.U32Number4.bytes.Reads as u32_bytes
use Rattle.num.proofs.number.U32Number4.of.Reads as u32_of
use Rattle.num.proofs.number.U64Number8.bytes.Reads as u64_bytes
use Rattle.num.proofs.number.U64Number8.of.Reads as u64_of
use Rattle.num.proofs.numbered.ResultNumbered.number.Reads as number
use Rattle.num.proofs.pattern16.Reads as pattern16
use Rattle.num.proofs.pattern32.Reads as pattern32
use Rattle.num.proofs.pattern64.Reads as pattern64
use Rattle.num.proofs.signed16.Reads as signed16
use Rattle.num.proofs.signed32.Reads as signed32
use Rattle.num.proofs.signed64.Reads as signed64
use Rattle.claims.proofs.Numbers.{i32_type, i64_type, u32_type, u64_type}
use Rattle.claims.proofs.Promise.{OneAnswer, NumberType}

pub u16-of-one-answer : OneAnswer u16_of.Post
u16-of-one-answer κs a r r' s s' p q = p ∙ sym q

pub u32-of-one-answer : OneAnswer u32_of.Post
u32-of-one-answer κs a r r' s s' p q = p ∙ sym q

pub u64-of-one-answer : OneAnswer u64_of.Post
u64-of-one-answer κs a r r' s s' p q = p ∙ sym q

pub i16-of-one-answer : OneAnswer i16_of.Post
i16-of-one-answer κs a r r' s s' p q = p ∙ sym q

pub i32-of-one-answer : OneAnswer i32_of.Post
i32-of-one-answer κs a r r' s s' p q = p ∙ sym q

pub i64-of-one-answer : OneAnswer i64_of.Post
i64-of-one-answer κs a r r' s s' p q = p ∙ sym q

pub u16-bytes-one-answer : OneAnswer u16_bytes.Post
u16-bytes-one-answer κs a r r' s s' p q = p ∙ sym q

pub u32-bytes-one-answer : OneAnswer u32_bytes.Post
u32-bytes-one-answer κs a r r' s s' p q = p ∙ sym q

pub u64-bytes-one-answer : OneAnswer u64_bytes.Post
u64-bytes-one-answer κs a r r' s s' p q = p ∙ sym q

pub i16-bytes-one-answer : OneAnswer i16_bytes.Post
i16-bytes-one-answer κs a r r' s s' p q = p ∙ sym q

pub i32-bytes-one-answer : OneAnswer i32_bytes.Post
i32-bytes-one-answer κs a r r' s s' p q = p ∙ sym q

pub i64-bytes-one-answer : OneAnswer i64_bytes.Post
i64-bytes-one-answer κs a r r' s s' p q = p ∙ sym q

-- the number at a place, of every type of numbers
abbrev pub AtOneAnswer : NumberType → Type 0
AtOneAnswer x = OneAnswer (at.Post x.T x.n x.laws x.fits x.copy x.ghosts x.dict x.clone x.clone_dict)

pub at-one-answer : (x : NumberType) → AtOneAnswer x
at-one-answer x κs a r r' s s' p q = p ∙ sym q

pub u32-at-one-answer : AtOneAnswer u32_type
u32-at-one-answer = at-one-answer u32_type

pub u64-at-one-answer : AtOneAnswer u64_type
u64-at-one-answer = at-one-answer u64_type

pub i32-at-one-answer : AtOneAnswer i32_type
i32-at-one-answer = at-one-answer i32_type

pub i64-at-one-answer : AtOneAnswer i64_type
i64-at-one-answer = at-one-answer i64_type

-- the number of a result, whatever it gives and whatever error it has
pub result-number-one-answer : (T E : RattleType) (l : Laws T) (m : Laws E) (c : IsCopy T) (k : CloneGhosts T.Denot) (d : Dict) (g : Ghosts E.Denot) (e : Dict) →
    OneAnswer (number.Post T E l m c k d g e)
result-number-one-answer T E l m c k d g e κs a r r' s s' p q = p ∙ sym q

-- what it gives, or else a value of the caller's
pub unwrap-or-one-answer : (T E : RattleType) (l : Laws T) (m : Laws E) (d e : Dict) → OneAnswer (unwrap_or.Post T E l m d e)
unwrap-or-one-answer T E l m d e κs a r r' s s' p q = p ∙ sym q

pub signed16-one-answer : OneAnswer signed16.Post
signed16-one-answer κs a r r' s s' p q = p ∙ sym q

pub signed32-one-answer : OneAnswer signed32.Post
signed32-one-answer κs a r r' s s' p q = p ∙ sym q

pub signed64-one-answer : OneAnswer signed64.Post
signed64-one-answer κs a r r' s s' p q = p ∙ sym q

pub pattern16-one-answer : OneAnswer pattern16.Post
pattern16-one-answer κs a r r' s s' p q = p ∙ sym q

pub pattern32-one-answer : OneAnswer pattern32.Post
pattern32-one-answer κs a r r' s s' p q = p ∙ sym q

pub pattern64-one-answer : OneAnswer pattern64.Post
pattern64-one-answer κs a r r' s s' p q = p ∙ sym q
