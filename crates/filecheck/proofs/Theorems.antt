-- What the rules say of files: the answer's cases are told apart, each is given exactly where it is due, and small files.
use Prim.Native.Nat.{ℕ}
use mathlib.Core.Path.{◌≡◌, refl, ap, sym, ◌∙◌}
use mathlib.Core.List.{List, [], ◌∷◌, ◌++◌, map}
use mathlib.Core.Logic.{◌↔◌}
use lib.Dec.{eqb}
use lib.ListN.{length}
use Rattle.std.specs.Prelude.{Result, Ok, Err}
use Rattle.num.specs.Answer.{answered, refusal}
use Rattle.num.specs.Choice.{pick}
use Rattle.num.specs.declared.Order.{Order}
use Rattle.num.specs.declared.Order.TheVariants.{Big}
use Rattle.frame.specs.Place.{starts, shows, gap}
use Rattle.frame.specs.Frames.{chunk_bytes, frames_by, frames}
use Rattle.body.specs.Kind.{known, kind_in, kind_of}
use Rattle.body.specs.Table.{shaped}
use Rattle.body.specs.Verdict.{verdict}
use Rattle.reader.specs.Items.{items}
use Rattle.filecheck.specs.File.{FileAnswer, good, refused, bad_number, file_said, file_number, part_of, file_from, file_of}
use Rattle.filecheck.specs.Due.{Begins, GoodFile, FirstWrong, Due}
use Rattle.filecheck.specs.declared.BadFile.{BadFile}
use Rattle.filecheck.specs.declared.BadFile.TheVariants.{NoHeader, HeaderNotEnded, SecondHeader, NotAChunk}
use Rattle.filecheck.proofs.Exactly.{file-exactly}
use Rattle.filecheck.proofs.check.Reads as check

-- ---- the answer's cases say different things, so the promise fixes the case

-- the result that says an answer
unsaid : FileAnswer → Result ℕ BadFile
unsaid (good n) = Ok n
unsaid (refused k place) =
    Err (pick (eqb k 41) NoHeader
    (pick (eqb k 42) (HeaderNotEnded place)
    (pick (eqb k 43) (SecondHeader place)
    (NotAChunk place))))

unsaid-said : (a : Result ℕ BadFile) → unsaid (file_said a) ≡ a
unfolding unsaid
unsaid-said (Ok n) = refl
unsaid-said (Err NoHeader) = refl
unsaid-said (Err (HeaderNotEnded place)) = refl
unsaid-said (Err (SecondHeader place)) = refl
unsaid-said (Err (NotAChunk place)) = refl

pub file-told : (a b : Result ℕ BadFile) → file_said a ≡ file_said b → a ≡ b
file-told a b e = sym (unsaid-said a) ∙ ap unsaid e ∙ unsaid-said b

-- the number of a result is that of the answer which it says
pub number-said : (a : Result ℕ BadFile) → refusal (answered bad_number a) ≡ file_number (file_said a)
number-said (Ok n) = refl
number-said (Err bad) = refl

-- ---- a good file

module _ (o : Order) (s : List ℕ) where
  -- the number of a good file is that of its items
  pub good-counts : (m : ℕ) → file_of o s ≡ good m → m ≡ length (items o s)
  good-counts m e = ((file-exactly o s (good m)).0 e).1

  -- A file is answered so exactly where it begins with a well-formed SOFH, has only chunks and no second SOFH, and has a well-formed EOFH
  -- before each data chunk and before the end.
  pub file-good : file_of o s ≡ good (length (items o s)) ↔ GoodFile o (frames o s)
  file-good = let x = file-exactly o s (good (length (items o s))) in (λ e. (x.0 e).0, λ h. x.1 (h, refl))

-- ---- calls of check

-- of any call that meets the promise of check, by its arguments, its result and what it leaves
module _ (κs : _) (a : _) (r : Result ℕ BadFile) (last : _) (met : check.Post κs a r last) where
  abbrev order : Order
  order = a.0

  abbrev bytes : List ℕ
  bytes = a.1.0.now

  -- It answers each case exactly where what the case says is due.
  pub check-exactly : (c : Result ℕ BadFile) → r ≡ c ↔ Due order bytes (file_said c)
  check-exactly c =
      let x = file-exactly order bytes (file_said c) in
      (λ e. x.0 (sym met ∙ ap file_said e), λ h. file-told r c (met ∙ x.1 h))

  -- Ok exactly where the file is good, with the number of its items;
  pub good-exactly : (n : ℕ) → r ≡ Ok n ↔ GoodFile order (frames order bytes) × (n ≡ length (items order bytes))
  good-exactly n = check-exactly (Ok n)

  -- NoHeader exactly where it does not begin with a well-formed SOFH, an empty file too;
  pub no-header-exactly : r ≡ Err NoHeader ↔ (Begins order (frames order bytes) → ⊥)
  no-header-exactly = let x = check-exactly (Err NoHeader) in (λ e. (x.0 e).0, λ h. x.1 (h, refl))

  -- else HeaderNotEnded exactly where the first thing wrong is data, or the end, with no well-formed EOFH before it;
  pub not-ended-exactly : (p : ℕ) → r ≡ Err (HeaderNotEnded p) ↔ Begins order (frames order bytes) × FirstWrong order (frames order bytes) 42 p
  not-ended-exactly p = check-exactly (Err (HeaderNotEnded p))

  -- SecondHeader exactly where it is a second SOFH;
  pub second-exactly : (p : ℕ) → r ≡ Err (SecondHeader p) ↔ Begins order (frames order bytes) × FirstWrong order (frames order bytes) 43 p
  second-exactly p = check-exactly (Err (SecondHeader p))

  -- and NotAChunk exactly where it is a frame that is no chunk.
  pub not-a-chunk-exactly : (p : ℕ) → r ≡ Err (NotAChunk p) ↔ Begins order (frames order bytes) × FirstWrong order (frames order bytes) 44 p
  not-a-chunk-exactly p = check-exactly (Err (NotAChunk p))

-- ---- small files, in big order

pub record Case : Type 0 where
  pub bytes : List ℕ
  pub says : FileAnswer

sofh : List ℕ
sofh = chunk_bytes Big 0x534F4648 (0 ∷ 0 ∷ 0 ∷ 1 ∷ [])

eofh : List ℕ
eofh = chunk_bytes Big 0x454F4648 []

-- an EOFH with a body is malformed
long_eofh : List ℕ
long_eofh = chunk_bytes Big 0x454F4648 (0 ∷ 0 ∷ 0 ∷ 0 ∷ [])

iqdc : List ℕ
iqdc = chunk_bytes Big 0x49514443 []

-- an SSNC with no body is malformed
empty_ssnc : List ℕ
empty_ssnc = chunk_bytes Big 0x53534E43 []

pub table : List Case
table =
    record { bytes = []; says = refused 41 0 }
    ∷ record { bytes = iqdc; says = refused 41 0 }
    ∷ record { bytes = sofh ++ eofh; says = good 2 }
    ∷ record { bytes = sofh; says = refused 42 16 }
    ∷ record { bytes = sofh ++ (empty_ssnc ++ eofh); says = refused 42 16 }
    ∷ record { bytes = sofh ++ long_eofh; says = refused 42 32 }
    ∷ record { bytes = sofh ++ sofh; says = refused 43 16 }
    ∷ record { bytes = sofh ++ (eofh ++ (0 ∷ [])); says = refused 44 28 }
    ∷ []

pub small : map (λ (c : Case). file_of Big c.bytes) table ≡ map (λ (c : Case). c.says) table
unfolding table sofh eofh long_eofh iqdc empty_ssnc file_from frames_by gap shows starts kind_of kind_in known verdict part_of shaped
small = refl
