-- When each answer of a step is due: said of the stream, the cursor and the answer, for all of them.
use Rattle.std.specs.Prelude.{ℕ, ◌+◌, ◌≤◌, ◌<◌, ◌≡◌, Bool, true, false, List, ◌⊎◌, eqb, length, take, drop}
use Rattle.num.specs.Answer.{Answer, gives, refuses}
use Rattle.num.specs.Choice.{pick}
use Rattle.num.specs.declared.Order.{Order}
use Rattle.frame.specs.Place.{header_size, shows, stops}
use Rattle.frame.specs.declared.At.{At}
use Rattle.frame.specs.declared.At.TheVariants.{NoSync, Bad, Unfinished, Complete}
use Rattle.frame.specs.declared.BadSize.TheVariants.{Large, Uneven}
use Rattle.body.specs.Kind.{kind_of}
use Rattle.state.specs.Good.{good_state}
use Rattle.effect.specs.Says.{Says}
use Rattle.effect.specs.Effect.{effect}
use Rattle.reader.specs.Item.{Item, end, skipped, unfinished, chunk}
use Rattle.reader.specs.Step.{before}
use Rattle.reader.specs.declared.Cause.{Cause}
use Rattle.reader.specs.declared.Cursor.{Cursor}
use Rattle.reading.specs.Ends.{Sound}

-- what the stream shows at a place
abbrev pub shows_at : Order → List ℕ → ℕ → At
shows_at o s p = shows o (drop p s)

-- number 2: the cursor's place is past the end
abbrev pub PastEndDue : List ℕ → Cursor → Type 0
PastEndDue s c = length s < c.place

-- number 3: the place is within the stream, and the cursor is in step with a state that is not good
pub record BadStateDue (s : List ℕ) (c : Cursor) : Type 0 where
  pub within : c.place ≤ length s
  pub step : c.in_step ≡ true
  pub state : good_state c.state ≡ false

-- End: neither refusal is due, and the place is the end
pub record EndDue (s : List ℕ) (c : Cursor) : Type 0 where
  pub sound : Sound s c
  pub place : c.place ≡ length s

-- Why a stretch is skipped: the reader came searching to the place where it begins; or it came in step, and the stream
-- shows there no sync, or a bad header of the one sort or the other.
abbrev pub CauseDue : Bool → At → Cause → Type 0
CauseDue step at Cause.Searching = step ≡ false
CauseDue step at Cause.NoSync = (step ≡ true) × (at ≡ NoSync)
CauseDue step at Cause.Large = (step ≡ true) × (at ≡ Bad Large)
CauseDue step at Cause.Uneven = (step ≡ true) × (at ≡ Bad Uneven)

-- a skipped stretch of n bytes from p on, one at least: no refusal is due, and p is the place; none of its places is
-- complete or unfinished, and the place after it is, or is the end; and why
pub record SkippedDue (o : Order) (s : List ℕ) (c : Cursor) (p n : ℕ) (cause : Cause) : Type 0 where
  pub sound : Sound s c
  pub place : p ≡ c.place
  pub some : 1 ≤ n
  pub none : (k : ℕ) → p ≤ k → k < p + n → stops (shows_at o s k) ≡ false
  pub to : (p + n ≡ length s) ⊎ (stops (shows_at o s (p + n)) ≡ true)
  pub why : CauseDue c.in_step (shows_at o s p) cause

-- an unfinished end of n bytes from p on: no refusal is due, p is the place, the stream shows an unfinished chunk
-- there, and the n bytes are all that are left
pub record UnfinishedDue (o : Order) (s : List ℕ) (c : Cursor) (p n : ℕ) : Type 0 where
  pub sound : Sound s c
  pub place : p ≡ c.place
  pub here : shows_at o s p ≡ Unfinished
  pub to : p + n ≡ length s

-- a chunk: no refusal is due, p is the place, and the stream shows there a complete chunk of this type and size; what
-- is said of it is what the effect of its body says, on the state or, where the reader was searching, on an emptied one
pub record ChunkDue (o : Order) (s : List ℕ) (c : Cursor) (p code size : ℕ) (says : Says) : Type 0 where
  pub sound : Sound s c
  pub place : p ≡ c.place
  pub here : shows_at o s p ≡ Complete code size
  pub said :
      says ≡ (effect o (kind_of code) (take size (drop (p + header_size) s)) (before c.in_step c.state)).says

-- each answer; no number but 2 and 3 is ever due
abbrev pub Due : Order → List ℕ → Cursor → Answer Item → Type 0
Due o s c (refuses n) = pick (eqb n 2) (PastEndDue s c) (pick (eqb n 3) (BadStateDue s c) ⊥)
Due o s c (gives end) = EndDue s c
Due o s c (gives (skipped p n cause)) = SkippedDue o s c p n cause
Due o s c (gives (unfinished p n)) = UnfinishedDue o s c p n
Due o s c (gives (chunk p code size says)) = ChunkDue o s c p code size says
