-- A call that writes a record, and a run of such calls, each going on where the one before ended.
use Rattle.std.specs.Prelude.{ℕ, zero, suc, ◌<◌, ◌≡◌, List, length, take, Result, Ok}
use Rattle.num.specs.declared.Order.{Order}
use Rattle.lay.specs.Splice.{splice}
use Rattle.writer.specs.Records.{Record, Typed}
use Rattle.writer.specs.Write.{write_of, written_out, written_reply, written_said}
use Rattle.writer.specs.declared.Unwritten.{Unwritten}

-- what a call was given, the record that its arguments make, its answer, and what its slice held before and after
pub record Writing : Type 0 where
  pub order : Order
  pub wrote : Record
  pub out : List ℕ
  pub place : ℕ
  pub result : Result ℕ Unwritten
  pub left : List ℕ

-- the answer and the slice are those of the rules for this record at this place, and its type is a number of 32 bits
pub record Writes (w : Writing) : Type 0 where
  pub said :
      written_said w.result ≡ write_of w.order w.wrote.code w.wrote.body (length w.out) w.place
  pub left : w.left ≡ written_out w.order w.wrote.code w.wrote.body w.out w.place
  pub typed : Typed w.wrote

-- the call was answered with a next place
abbrev pub Accepted : Writing → Type 0
Accepted w = (next : ℕ) × (w.result ≡ Ok next)

-- ---- a run of calls, by their number

-- the place of call k, the first being made at p, each next one at the place that goes with the answer before it; for k
-- calls, the place at which they ended
abbrev pub place_at : ℕ → (ℕ → Writing) → ℕ → ℕ
place_at p calls zero = p
place_at p calls (suc k) = (written_reply (calls k).place (calls k).result).value

-- what the slice holds at call k, and held d at the first; for k calls, what they left in it
abbrev pub held_at : List ℕ → (ℕ → Writing) → ℕ → List ℕ
held_at d calls zero = d
held_at d calls (suc k) = (calls k).left

-- a call in the order o, at the place p of a slice that holds d
pub record WriteOn (o : Order) (d : List ℕ) (p : ℕ) (w : Writing) : Type 0 where
  pub order : w.order ≡ o
  pub out : w.out ≡ d
  pub place : w.place ≡ p

-- n calls one after the other, from the place p of a slice that holds d on
abbrev pub InTurn : ℕ → Order → List ℕ → ℕ → (ℕ → Writing) → Type 0
InTurn n o d p calls = (k : ℕ) → k < n → WriteOn o (held_at d calls k) (place_at p calls k) (calls k)

-- and each of them does what the rules say
pub record WriteRun (n : ℕ) (o : Order) (d : List ℕ) (p : ℕ) (calls : ℕ → Writing) : Type 0 where
  pub turns : InTurn n o d p calls
  pub writes : (k : ℕ) → k < n → Writes (calls k)

-- the bytes that n calls from place 0 on wrote
abbrev pub bytes_written : ℕ → List ℕ → (ℕ → Writing) → List ℕ
bytes_written n d calls = take (place_at 0 calls n) (held_at d calls n)

-- n calls from place 0 on wrote the stream s: each was accepted, the last place is behind it, and the slice holds it
-- and then what stood there
pub record WroteStream (n : ℕ) (d s : List ℕ) (calls : ℕ → Writing) : Type 0 where
  pub accepted : (k : ℕ) → k < n → Accepted (calls k)
  pub place : place_at 0 calls n ≡ length s
  pub slice : held_at d calls n ≡ splice d 0 s
  pub bytes : bytes_written n d calls ≡ s
