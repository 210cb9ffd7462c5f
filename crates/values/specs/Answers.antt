-- What a call answers that writes values.
use Rattle.std.specs.Prelude.{ℕ, ◌+◌, ◌≤◌, ◌≡◌, List, length, Result, Ok}
use Rattle.num.specs.Answer.{gives, refuses, refusal}
use Rattle.num.specs.declared.Order.{Order}
use Rattle.lay.specs.Splice.{splice}
use Rattle.frame.specs.Place.{header_size}
use Rattle.frame.specs.Frames.{chunk_bytes}
use Rattle.body.specs.Kind.{code_of}
use Rattle.body.specs.declared.kinds.Kind.{Kind}
use Rattle.writer.specs.Write.{write_by, written_said}
use Rattle.writer.specs.declared.Unwritten.{Unwritten}
use Rattle.values.specs.Made.{Made, body_of, size_of}
use Rattle.values.specs.Says.{judged, may}
use Rattle.values.specs.Back.{Back}

-- Values v of the kind k are written at a place of a slice that holds d: r is the answer, and the slice then holds l.
pub record Answers (k : Kind) (o : Order) (v : Made k) (d : List ℕ) (place : ℕ) (r : Result ℕ Unwritten) (l : List ℕ) :
    Type 0 where
  -- the answer follows from the values, the length of the slice and the place
  pub said : written_said r ≡ write_by (judged k v) (size_of k v) (length d) place
  -- values that may not be written are refused with their number, and the slice is as it was
  pub refused : (n : ℕ) → place ≤ length d → may k v ≡ refuses n → (refusal (written_said r) ≡ n) × (l ≡ d)
  -- values that may be written are laid where there is room, and the answer is the place past them
  pub written : may k v ≡ gives tt → place + header_size + size_of k v ≤ length d →
      (r ≡ Ok (place + header_size + size_of k v)) × (l ≡ splice d place (chunk_bytes o (code_of k) (body_of k o v)))
  -- what was written is read back as the values
  pub back : (next : ℕ) → r ≡ Ok next → Back k o (body_of k o v) v
