-- One turn of the check: what is left to be said after it, and where it goes.
use Rattle.std.specs.Prelude.{ℕ, ◌+◌, ◌<◌, ◌≤◌, ◌≡◌, Bool, List, length, Result, Ok, Err}
use Rattle.num.specs.declared.Order.{Order}
use Rattle.filecheck.specs.File.{FileAnswer, file_said, file_ahead}
use Rattle.filecheck.specs.declared.BadFile.{BadFile}
use Rattle.filecheck.specs.declared.Reach.{Reach}

-- a check that goes on, one item more lying behind it, says what the frames ahead say; one that stops says its answer
abbrev pub turn_said : Order → List ℕ → ℕ → Result Reach BadFile → FileAnswer
turn_said o s n (Ok to) = file_ahead o s (n + 1) to.place to.ended
turn_said o s n (Err bad) = file_said (Err bad)

-- a check that goes on goes forward, and not past the end
abbrev pub forward : ℕ → ℕ → Result Reach BadFile → Type 0
forward place end (Ok to) = (place < to.place) × (to.place ≤ end)
forward place end (Err bad) = Unit {0}

-- a turn at a place leaves to be said what is to be said from there on
pub record Turned (o : Order) (s : List ℕ) (place : ℕ) (ended : Bool) (r : Result Reach BadFile) : Type 0 where
  pub said : (n : ℕ) → turn_said o s n r ≡ file_ahead o s n place ended
  pub on : forward place (length s) r
