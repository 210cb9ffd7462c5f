-- A stream of three records, a sample rate, a group's packing and its pairs, and what a copying call leaves, computed by the rules.
use Prim.Native.Nat.{ℕ}
use mathlib.Core.Path.{◌≡◌, refl}
use mathlib.Core.Bool.{false}
use mathlib.Core.List.{List, [], ◌∷◌, ◌++◌}
use lib.Ieee.{of_bits, to_bits}
use lib.IntN.{pos, negsuc}
use Rattle.num.specs.Choice.{each}
use Rattle.num.specs.Number.{bytes_of}
use Rattle.num.specs.declared.Order.TheVariants.{Little}
use Rattle.frame.specs.Frames.{chunk_bytes}
use Rattle.frame.specs.Place.{starts, shows}
use Rattle.body.specs.Kind.{code_of, known, kind_in, kind_of}
use Rattle.body.specs.Groups.{listed, offset_at, packed}
use Rattle.body.specs.Lists.{upto}
use Rattle.body.specs.declared.kinds.Kind.TheVariants.{SR, GIQP, GSNC}
use Rattle.copy.specs.Samples.{pairs_of}
use Rattle.cover.specs.Cover.{total, covers, group_covers}
use Rattle.effect.specs.Effect.{effect}
use Rattle.reader.specs.Step.{new_cursor, step_of}
use Rattle.reader.specs.declared.Cursor.{Cursor}
use Rattle.state.specs.Good.{good_numbers, good_held, good_from}
use Rattle.samples.specs.Copy.{layout_at, count_of}
use Rattle.body.specs.Table.{shaped}
use Rattle.lay.specs.Numbers.{int64}
use Rattle.lay.specs.Runs.{run_of}
use Rattle.writer.specs.Data.{short_body}
use Rattle.roundtrip.proofs.Theorems.{left_by}

-- two channels of one pair each, I before Q: 10, -1 and 20, -2
pub stream : List ℕ
stream =
    chunk_bytes Little (code_of SR) (int64 Little (pos 1000))
    ++ (chunk_bytes Little (code_of GIQP) (run_of (bytes_of Little 4) (2 ∷ 1 ∷ 1 ∷ 0 ∷ 1 ∷ []))
    ++ chunk_bytes Little (code_of GSNC) (short_body Little (pos 5) (pos 10 ∷ negsuc 0 ∷ pos 20 ∷ negsuc 1 ∷ [])))

-- the cursor after two steps stands at the pairs
pub third : Cursor
third = (step_of Little stream (step_of Little stream new_cursor).cursor).cursor

pub copied : left_by false Little stream third 1 (pos 9 ∷ pos 9 ∷ pos 9 ∷ []) ≡ pos 20 ∷ negsuc 1 ∷ pos 9 ∷ []
unfolding stream third run_of step_of shows starts kind_of kind_in known effect good_held good_numbers good_from of_bits to_bits packed listed each offset_at upto group_covers covers total layout_at count_of shaped pairs_of
copied = refl
