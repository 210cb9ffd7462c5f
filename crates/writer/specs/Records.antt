-- Records one after the other: their bytes, and the run of calls that writes them.
use Rattle.std.specs.Prelude.{ℕ, ◌<◌, ◌^◌, ◌≡◌, true, List, [], ◌∷◌, ◌++◌, length}
use Rattle.num.specs.Answer.{Answer, gives, refuses}
use Rattle.num.specs.declared.Order.{Order}
use Rattle.frame.specs.Frames.{Frame, chunk, of_chunk, is_chunk, chunk_bytes}
use Rattle.body.specs.Kind.{kind_of}
use Rattle.body.specs.Verdict.{verdict}
use Rattle.writer.specs.Write.{may_write, write_of, written_out}

-- a record: its type and its body
pub record Record : Type 0 where
  pub code : ℕ
  pub body : List ℕ

-- a record as a reader gives it
abbrev pub chunk_of : Record → Frame
chunk_of r = chunk r.code r.body

-- the records of the chunks among some frames
unfoldable pub records_of : List Frame → List Record
records_of [] = []
records_of (f ∷ rest) = of_chunk (records_of rest) (λ code body. record { code = code; body = body } ∷ records_of rest) f

-- ---- what may hold of each element of a list

abbrev pub Each : {A : Type 0} → (A → Type 0) → List A → Type 0
Each P [] = Unit {0}
Each P (a ∷ rest) = P a × Each P rest

-- the frame is a complete chunk
abbrev pub IsChunk : Frame → Type 0
IsChunk f = is_chunk f ≡ true

-- the record may be written
abbrev pub Taken : Order → Record → Type 0
Taken o r = may_write o r.code r.body ≡ gives tt

-- its body is refused with none of 11 to 15
abbrev pub WellFormed : Order → Record → Type 0
WellFormed o r = verdict o (kind_of r.code) r.body ≡ gives tt

-- its type is a number of 32 bits
abbrev pub Typed : Record → Type 0
Typed r = r.code < 2 ^ 32

-- ---- writing them

-- the bytes of the records, one after the other
unfoldable pub written_all : Order → List Record → List ℕ
written_all o [] = []
written_all o (r ∷ rest) = chunk_bytes o r.code r.body ++ written_all o rest

-- how a run ends: what the slice holds, and the place that the last call gave or the number that it refused with
pub record Ran : Type 0 where
  pub slice : List ℕ
  pub place : Answer ℕ

-- a refusal ends a run; else it goes on at the place that was given
abbrev pub then_next : Answer ℕ → List ℕ → (ℕ → Ran) → Ran
then_next (gives next) d go = go next
then_next (refuses n) d go = record { slice = d; place = refuses n }

-- the records written into the slice d from a place on, each at the place that the one before gave
unfoldable pub write_all : Order → List Record → List ℕ → ℕ → Ran
write_all o [] d place = record { slice = d; place = gives place }
write_all o (r ∷ rest) d place =
    let d' : List ℕ = written_out o r.code r.body d place in
    then_next (write_of o r.code r.body (length d) place) d' (λ next. write_all o rest d' next)
