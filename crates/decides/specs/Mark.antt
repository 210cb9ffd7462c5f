-- The start mark, by the answers of the steps before.
use Rattle.std.specs.Prelude.{ℕ, zero, suc, Bool, true, false}
use Rattle.num.specs.Answer.{Answer, gives, refuses}
use Rattle.num.specs.Choice.{pick}
use Rattle.body.specs.Kind.{kind_of}
use Rattle.body.specs.Table.{Row, sets, marks, leaves, samples, row}
use Rattle.body.specs.Table as Table
use Rattle.effect.specs.Says.{Says, ok, unknown, bad, waits, ready}
use Rattle.effect.specs.Ready.{is_ready}
use Rattle.reader.specs.Item.{Item, end, skipped, unfinished, chunk, of_chunk}

-- what an answer does to the mark
pub data Does : Type 0 where
  sets_it : Does
  clears_it : Does
  leaves_it : Does

-- well-formed, and no data
abbrev pub is_ok : Says → Bool
is_ok ok = true
is_ok unknown = false
is_ok (bad n) = false
is_ok (waits n t) = false
is_ok (ready d) = false

-- a chunk, by the row of its kind and what is said of it: a ready data chunk clears the mark, any other data chunk sets
-- it, and so does a well-formed IQDC
abbrev pub chunk_does : Row → Says → Does
chunk_does (sets x hold read) says = leaves_it
chunk_does (marks read) says = pick (is_ok says) sets_it leaves_it
chunk_does (leaves read) says = leaves_it
chunk_does (samples shape) says = pick (is_ready says) clears_it sets_it
chunk_does Table.unknown says = leaves_it

-- a skipped stretch: the next chunk regains the step, which sets the mark
abbrev pub is_stretch : Item → Bool
is_stretch end = false
is_stretch (skipped place n cause) = true
is_stretch (unfinished place n) = false
is_stretch (chunk place code size says) = false

-- a refusal, the end and an unfinished end leave the mark
abbrev pub does : Answer Item → Does
does (refuses n) = leaves_it
does (gives i) =
    pick (is_stretch i) sets_it (of_chunk leaves_it (λ place code size says. chunk_does (row (kind_of code)) says) i)

-- the mark after such an answer
abbrev pub mark_after : Does → Bool → Bool
mark_after sets_it mark = true
mark_after clears_it mark = false
mark_after leaves_it mark = mark

-- the mark that answer k of a reading finds, as all answers before it leave it; set at the start, where the first chunk
-- is yet to regain the step
unfoldable pub mark_before : (ℕ → Answer Item) → ℕ → Bool
mark_before answer zero = true
mark_before answer (suc k) = mark_after (does (answer k)) (mark_before answer k)
