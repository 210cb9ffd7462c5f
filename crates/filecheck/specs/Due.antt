-- When each answer of the check of a file is due, in the words of the rules.
use Rattle.std.specs.Prelude.{ℕ, ◌<◌, ◌≡◌, true, false, List, [], ◌∷◌, ◌⊎◌, eqb, length, take, drop, Some}
use Rattle.num.specs.Choice.{pick}
use Rattle.num.specs.declared.Order.{Order}
use Rattle.frame.specs.Frames.{Frame, of_chunk, is_chunk, frames, covered}
use Rattle.body.specs.Kind.{kind_of}
use Rattle.body.specs.Table.{shaped}
use Rattle.body.specs.declared.kinds.Kind.{Kind}
use Rattle.body.specs.declared.kinds.Kind.TheVariants.{SOFH, EOFH}
use Rattle.body.specs.declared.sampled.Shape.{Shape}
use Rattle.reader.specs.Items.{items}
use Rattle.filecheck.specs.File.{FileAnswer, good, refused, well_formed}

-- ---- one frame

-- a chunk of a kind, well-formed or not
abbrev pub OfKind : Kind → Frame → Type 0
OfKind k f = of_chunk ⊥ (λ type body. kind_of type ≡ k) f

-- a well-formed chunk of a kind
abbrev pub WellFormed : Order → Kind → Frame → Type 0
WellFormed o k f = of_chunk ⊥ (λ type body. (kind_of type ≡ k) × (well_formed o type body ≡ true)) f

-- a data chunk, malformed ones too: its samples have a shape
abbrev pub IsData : Frame → Type 0
IsData f = of_chunk ⊥ (λ type body. (shape : Shape) × (shaped (kind_of type) ≡ Some shape)) f

-- a frame that is no chunk
abbrev pub NoChunk : Frame → Type 0
NoChunk f = is_chunk f ≡ false

-- ---- the frames of a file, numbered from 0 in file order; the end of the file has the number after the last

-- the first of some frames is such a frame
abbrev pub First : (Frame → Type 0) → List Frame → Type 0
First P [] = ⊥
First P (f ∷ rest) = P f

-- such a frame has the number k
abbrev pub Stands : (Frame → Type 0) → List Frame → ℕ → Type 0
Stands P fs k = First P (drop k fs)

-- the file begins with a well-formed SOFH
abbrev pub Begins : Order → List Frame → Type 0
Begins o fs = Stands (WellFormed o SOFH) fs 0

-- a well-formed EOFH stands before the number k
abbrev pub HeaderEnded : Order → List Frame → ℕ → Type 0
HeaderEnded o fs k = (j : ℕ) × (j < k) × Stands (WellFormed o EOFH) fs j

-- the number k is that of a data chunk or of the end
abbrev pub DataOrEnd : List Frame → ℕ → Type 0
DataOrEnd fs k = Stands IsData fs k ⊎ (k ≡ length fs)

-- A good file begins with a well-formed SOFH, has only chunks and no second SOFH, and before each data chunk, and
-- before the end, it has a well-formed EOFH.
pub record GoodFile (o : Order) (fs : List Frame) : Type 0 where
  pub begins : Begins o fs
  pub chunks : (k : ℕ) → Stands NoChunk fs k → ⊥
  pub single : (k : ℕ) → 0 < k → Stands (OfKind SOFH) fs k → ⊥
  pub ended : (k : ℕ) → DataOrEnd fs k → HeaderEnded o fs k

-- What is wrong at the number k, by the number n of its refusal. 42: data, or the end, with no well-formed EOFH before
-- it. 43: a second SOFH. 44: no chunk. No other number is that of something wrong there.
abbrev pub Wrong : Order → List Frame → ℕ → ℕ → Type 0
Wrong o fs n k =
    pick (eqb n 42) (DataOrEnd fs k × (HeaderEnded o fs k → ⊥))
    (pick (eqb n 43) ((0 < k) × Stands (OfKind SOFH) fs k)
    (pick (eqb n 44) (Stands NoChunk fs k)
    ⊥))

-- the first thing wrong in the file is refused with n and stands at the place p: the frames before it cover p bytes
pub record FirstWrong (o : Order) (fs : List Frame) (n p : ℕ) : Type 0 where
  pub at : ℕ
  pub wrong : Wrong o fs n at
  pub first : (m k : ℕ) → k < at → Wrong o fs m k → ⊥
  pub place : covered (take at fs) ≡ p

-- ---- the answers

-- A good file is answered with the number of its items. One that does not begin with a well-formed SOFH is refused
-- with 41 at place 0; any other is refused with the first thing wrong, at its place.
abbrev pub Due : Order → List ℕ → FileAnswer → Type 0
Due o s (good n) = GoodFile o (frames o s) × (n ≡ length (items o s))
Due o s (refused n p) =
    pick (eqb n 41) ((Begins o (frames o s) → ⊥) × (p ≡ 0)) (Begins o (frames o s) × FirstWrong o (frames o s) n p)
