-- What the calls accept is read back, and what the reader takes is written back: of any calls that write, raw or from values, and any steps.
use Prim.Native.Nat.{ℕ, ◌≤◌, ◌<◌}
use mathlib.Core.Path.{◌≡◌}
use mathlib.Core.List.{List}
use lib.ListN.{length}
use Rattle.num.specs.declared.Order.{Order}
use Rattle.num.proofs.Laws.{Bytes}
use Rattle.reader.specs.Item.{item_said}
use Rattle.reader.specs.declared.Item.TheVariants.{End}
use Rattle.ending.proofs.Calls.{NewCall, StepCall}
use Rattle.ending.proofs.Runs.{Run}
use Rattle.accepted.specs.Read.{ReadAs}
use Rattle.accepted.specs.Writing.{Writing, Accepted, InTurn, WriteRun, bytes_written, WroteStream}
use Rattle.accepted.proofs.Calls.{WriteCall, doing, does}
use Rattle.accepted.proofs.Written.{written-read, written-end}
use Rattle.accepted.proofs.WrittenBack.{ReadSound, WritesRead, read-written-back}

-- what each call of some did
abbrev pub doings : (ℕ → WriteCall) → ℕ → Writing
doings writes k = doing (writes k)

-- Calls made in turn, each at the place that the one before gave and with the slice that it left, are a run of the rules.
pub calls-run : (n : ℕ) (o : Order) (d : List ℕ) (p : ℕ) (writes : ℕ → WriteCall) → InTurn n o d p (doings writes) → WriteRun n o d p (doings writes)
calls-run n o d p writes t = record { turns = t; writes = λ k h. does (writes k) }

-- n calls in turn, from place 0 of a slice that holds d on, all answered Ok; and m steps from a new cursor over the bytes that they wrote
module _ (o : Order) (d : List ℕ) (n : ℕ) (writes : ℕ → WriteCall) (t : InTurn n o d 0 (doings writes)) (a : (k : ℕ) → k < n → Accepted (doing (writes k)))
    (start : NewCall) (m : ℕ) (calls : ℕ → StepCall) (r : Run m o (bytes_written n d (doings writes)) start.result calls) where
  -- Step k gives what call k wrote: a chunk at the place of that call, of its record's type and size, and body_of gives its body.
  pub calls-read : (k : ℕ) → k < n → k < m →
      ReadAs (bytes_written n d (doings writes)) (doing (writes k)).place (doing (writes k)).wrote (item_said (calls k).result.item)
  calls-read = written-read o d n (doings writes) (calls-run n o d 0 writes t) a start m calls r

  -- The step after the last of them gives End.
  pub calls-end : n < m → (calls n).result.item ≡ End
  calls-end = written-end o d n (doings writes) (calls-run n o d 0 writes t) a start m calls r

-- A stream that steps read as chunks, none refused with 11 to 15, and then End, is written by calls in turn, given those chunks' records,
-- into any slice with room for it: each call is answered Ok, and the bytes written are the stream.
pub calls-write-back : (o : Order) (s : List ℕ) (n : ℕ) (start : NewCall) (calls : ℕ → StepCall) → ReadSound o s n start calls → Bytes s →
    (d : List ℕ) → length s ≤ length d → (writes : ℕ → WriteCall) → InTurn n o d 0 (doings writes) → WritesRead n s calls (doings writes) → WroteStream n d s (doings writes)
calls-write-back o s n start calls r g d f writes t same = read-written-back o s n start calls r g d f (doings writes) (calls-run n o d 0 writes t) same
