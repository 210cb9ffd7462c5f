-- Writing one record, its type and its body, at a place of a slice: the answer, and what the slice holds afterwards.
use Rattle.std.specs.Prelude.{ℕ, ◌+◌, ◌-◌, List, ltb, length, Result}
use Rattle.num.specs.Answer.{Answer, gives, refuses, answered, Reply, reply_with, then}
use Rattle.num.specs.Choice.{pick}
use Rattle.num.specs.declared.Order.{Order}
use Rattle.lay.specs.Splice.{splice}
use Rattle.frame.specs.Place.{header_size, good_size}
use Rattle.frame.specs.Frames.{chunk_bytes}
use Rattle.body.specs.Fault.{fault_number}
use Rattle.body.specs.Kind.{kind_of}
use Rattle.body.specs.Verdict.{verdict}
use Rattle.writer.specs.declared.Unwritten.{Unwritten}
use Rattle.writer.specs.declared.Unwritten.TheVariants.{PastEnd, BadSize, Malformed, NoRoom}

-- a record of so many bytes, with the verdict on its body, may be written: 32 where its size is not good, then 11 to 15
abbrev pub may_by : Answer (Unit {0}) → ℕ → Answer (Unit {0})
may_by judged size = pick (good_size size) judged (refuses 32)

-- In a slice of `whole` bytes: 2 where the place is past its end, then what the record is refused with, then 31 where
-- the room left is under a header and the size; else the next place. A refusal leaves the place as it came.
abbrev pub write_by : Answer (Unit {0}) → ℕ → ℕ → ℕ → Answer ℕ
write_by judged size whole place =
    pick (ltb whole place) (refuses 2)
    (then (may_by judged size)
    (λ _. pick (ltb (whole - place) (header_size + size)) (refuses 31) (gives (place + header_size + size))))

-- a known type has to meet its row
abbrev pub may_write : Order → ℕ → List ℕ → Answer (Unit {0})
may_write o code body = may_by (verdict o (kind_of code) body) (length body)

abbrev pub write_of : Order → ℕ → List ℕ → ℕ → ℕ → Answer ℕ
write_of o code body whole place = write_by (verdict o (kind_of code) body) (length body) whole place

-- the bytes are laid where the answer gives a next place, and on a refusal the slice is as it was
abbrev pub laid_by : Answer ℕ → List ℕ → ℕ → List ℕ → List ℕ
laid_by (gives next) d place vs = splice d place vs
laid_by (refuses n) d place vs = d

-- what the slice d holds afterwards
abbrev pub written_out : Order → ℕ → List ℕ → List ℕ → ℕ → List ℕ
written_out o code body d place = laid_by (write_of o code body (length d) place) d place (chunk_bytes o code body)

-- the number of each refusal
abbrev pub unwritten_number : Unwritten → ℕ
unwritten_number PastEnd = 2
unwritten_number BadSize = 32
unwritten_number (Malformed fault) = fault_number fault
unwritten_number NoRoom = 31

-- what each case of the answer says: the next place, or the number of the refusal
abbrev pub written_said : Result ℕ Unwritten → Answer ℕ
written_said = answered unwritten_number

-- its number, and the place that goes with it: with a refusal, the place as it came
abbrev pub written_reply : ℕ → Result ℕ Unwritten → Reply ℕ
written_reply came a = reply_with came (written_said a)
