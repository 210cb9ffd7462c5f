-- The check of a file: it begins with a header, which is ended before any data, and it is made of whole chunks.
use Rattle.std.specs.Prelude.{ℕ, ◌+◌, Bool, true, false, List, [], ◌∷◌, eqb, length, drop, Option, Some, None, Result, Ok, Err}
use Rattle.num.specs.Answer.{Answer, gives, refuses}
use Rattle.num.specs.Choice.{pick, either}
use Rattle.num.specs.declared.Order.{Order}
use Rattle.frame.specs.Place.{header_size}
use Rattle.frame.specs.Frames.{Frame, of_chunk, frames}
use Rattle.body.specs.Kind.{code_of, kind_of}
use Rattle.body.specs.Table.{shaped}
use Rattle.body.specs.Verdict.{verdict}
use Rattle.body.specs.declared.kinds.Kind.{Kind}
use Rattle.body.specs.declared.kinds.Kind.TheVariants.{SOFH, EOFH}
use Rattle.body.specs.declared.sampled.Shape.{Shape}
use Rattle.filecheck.specs.declared.BadFile.{BadFile}
use Rattle.filecheck.specs.declared.BadFile.TheVariants.{NoHeader, HeaderNotEnded, SecondHeader, NotAChunk}
use Rattle.filecheck.specs.declared.Part.{Part}
use Rattle.filecheck.specs.declared.Part.TheVariants.{Data, Header, HeaderEnd, Other}

pub data FileAnswer : Type 0 where
  -- a good file, by the number of its items
  good : ℕ → FileAnswer
  -- a refusal, by its number and its place
  refused : ℕ → ℕ → FileAnswer

-- the number of each thing that is wrong with a file
abbrev pub bad_number : BadFile → ℕ
bad_number NoHeader = 41
bad_number (HeaderNotEnded place) = 42
bad_number (SecondHeader place) = 43
bad_number (NotAChunk place) = 44

-- the place where it stands
abbrev pub bad_place : BadFile → ℕ
bad_place NoHeader = 0
bad_place (HeaderNotEnded place) = place
bad_place (SecondHeader place) = place
bad_place (NotAChunk place) = place

-- what each case of the answer says
abbrev pub file_said : Result ℕ BadFile → FileAnswer
file_said (Ok items) = good items
file_said (Err bad) = refused (bad_number bad) (bad_place bad)

-- the number of a refusal, 0 for a good file
abbrev pub file_number : FileAnswer → ℕ
file_number (good items) = 0
file_number (refused number place) = number

-- the part that a kind has in a file: data, a header (SOFH), a header's end (EOFH), or another
abbrev pub part_by : Option Shape → ℕ → Part
part_by (Some shape) code = Data
part_by None code = pick (eqb code (code_of SOFH)) Header (pick (eqb code (code_of EOFH)) HeaderEnd Other)

unfoldable pub part_of : Kind → Part
part_of k = part_by (shaped k) (code_of k)

-- a verdict finds nothing wrong
abbrev pub is_good : Answer (Unit {0}) → Bool
is_good (gives u) = true
is_good (refuses n) = false

-- a chunk's body is well-formed, by the chunk's type
abbrev pub well_formed : Order → ℕ → List ℕ → Bool
well_formed o code body = is_good (verdict o (kind_of code) body)

-- a chunk with which a file may begin: a well-formed header
abbrev pub begins : Part → Bool → Bool
begins Header well = well
begins HeaderEnd well = false
begins Data well = false
begins Other well = false

-- A chunk after the first, by its part, by whether the header was ended before it, and by whether it is well-formed:
-- the number of its refusal, or whether the header is ended after it. Data is refused before the header's end with 42,
-- a second header with 43, well-formed or not. Only a well-formed end ends the header.
abbrev pub passes : Part → Bool → Bool → Answer Bool
passes Data ended well = pick ended (gives true) (refuses 42)
passes Header ended well = refuses 43
passes HeaderEnd ended well = gives (either ended well)
passes Other ended well = gives ended

-- a refusal stands at its place; what was passed goes on
abbrev pub then_rest : ℕ → Answer Bool → (Bool → FileAnswer) → FileAnswer
then_rest place (gives ended) rest = rest ended
then_rest place (refuses number) rest = refused number place

-- The frames from a place on, n items lying before it, and the header ended or not. What is no chunk is refused with
-- 44, the end of the file before the header's end with 42.
unfoldable pub file_from : Order → ℕ → ℕ → Bool → List Frame → FileAnswer
file_from o n place ended [] = pick ended (good n) (refused 42 place)
file_from o n place ended (f ∷ rest) =
    of_chunk (refused 44 place)
    (λ code body.
    then_rest place (passes (part_of (kind_of code)) ended (well_formed o code body))
    (λ next. file_from o (n + 1) (place + header_size + length body) next rest))
    f

-- the same, said of the bytes of the file
abbrev pub file_ahead : Order → List ℕ → ℕ → ℕ → Bool → FileAnswer
file_ahead o s n place ended = file_from o n place ended (frames o (drop place s))

-- a file that does not begin with a chunk that is a well-formed header is refused with 41, an empty file too
abbrev pub file_by : Order → List Frame → FileAnswer
file_by o [] = refused 41 0
file_by o (f ∷ rest) =
    of_chunk (refused 41 0)
    (λ code body.
    pick (begins (part_of (kind_of code)) (well_formed o code body))
    (file_from o 1 (header_size + length body) false rest) (refused 41 0))
    f

-- what the check of a file says
abbrev pub file_of : Order → List ℕ → FileAnswer
file_of o s = file_by o (frames o s)
