-- One step of the reader, and a run of steps.
use Rattle.std.specs.Prelude.{ℕ, zero, suc, ◌+◌, ◌≡◌, Bool, true, false, not, List, ltb, length, take, drop}
use Rattle.num.specs.Answer.{Answer, gives, refuses}
use Rattle.num.specs.Choice.{pick, both}
use Rattle.num.specs.declared.Order.{Order}
use Rattle.frame.specs.Place.{header_size, gap}
use Rattle.frame.specs.Ahead.{ahead_of}
use Rattle.frame.specs.declared.Stray.{Stray}
use Rattle.frame.specs.declared.Ahead.{Ahead}
use Rattle.frame.specs.declared.Ahead.TheVariants.{End, Stretch, Cut, Chunk}
use Rattle.body.specs.Kind.{kind_of}
use Rattle.state.specs.State.{emptied}
use Rattle.state.specs.Good.{good_state}
use Rattle.state.specs.declared.State.{State}
use Rattle.effect.specs.Ready.{no_state}
use Rattle.effect.specs.Effect.{Effect, effect}
use Rattle.reader.specs.Cause.{cause_of}
use Rattle.reader.specs.Item.{Item, end, skipped, unfinished, chunk}
use Rattle.reader.specs.declared.Cursor.{Cursor}

-- the answer, the state that is shown, and the cursor moved on
pub record Step : Type 0 where
  pub item : Answer Item
  pub shown : State
  pub cursor : Cursor

abbrev pub cursor_at : ℕ → Bool → State → Cursor
cursor_at place step s = record { place = place; in_step = step; state = s }

-- a reader starts searching, at place 0, with no value
abbrev pub new_cursor : Cursor
new_cursor = cursor_at 0 false no_state

-- the state before a chunk takes effect: emptied, with the start mark, where the reader was searching
abbrev pub before : Bool → State → State
before step s = pick step s (emptied true)

-- the cursor moved past a chunk, which puts it in step
abbrev pub accepted : Cursor → ℕ → Cursor
accepted c to = cursor_at to true (before c.in_step c.state)

-- the cursor searching, where it stands
abbrev pub lost : Cursor → Cursor
lost c = cursor_at c.place false c.state

-- a refusal leaves the cursor as it came
abbrev pub refused : ℕ → Cursor → Step
refused n c = record { item = refuses n; shown = no_state; cursor = c }

-- at no sync or a bad header, the stretch up to where a search stops is skipped, and the reader is searching
abbrev pub skips : Cursor → Stray → ℕ → Step
skips c stray g = record {
  item = gives (skipped c.place g (cause_of c.in_step stray));
  shown = no_state;
  cursor = cursor_at (c.place + g) false c.state;
}

-- an unfinished end is one item; the cursor is then at the end, in step or searching as before and with the same state
abbrev pub cuts : Cursor → ℕ → Step
cuts c n = record {
  item = gives (unfinished c.place n);
  shown = no_state;
  cursor = cursor_at (c.place + n) c.in_step c.state;
}

-- a complete chunk is accepted
abbrev pub accepts : Cursor → ℕ → ℕ → Effect → Step
accepts c code size e = record {
  item = gives (chunk c.place code size e.says);
  shown = e.shown;
  cursor = cursor_at (c.place + header_size + size) true e.after;
}

-- by what is ahead, l being the bytes from the place on; where there are none it answers End and leaves the cursor
abbrev pub step_by : Order → List ℕ → Cursor → Ahead → Step
step_by o l c End = record { item = gives end; shown = no_state; cursor = c }
step_by o l c (Chunk code size) =
    accepts c code size (effect o (kind_of code) (take size (drop header_size l)) (before c.in_step c.state))
step_by o l c Cut = cuts c (length l)
step_by o l c (Stretch stray) = skips c stray (gap o l)

-- number 3 is due: the cursor is in step with a state that is not good
abbrev pub unfit : Cursor → Bool
unfit c = both c.in_step (not (good_state c.state))

-- number 3 is not due
abbrev pub Fit : Cursor → Type 0
Fit c = unfit c ≡ false

-- number 2 past the end; then number 3 where it is due; then what is ahead
unfoldable pub step_of : Order → List ℕ → Cursor → Step
step_of o s c =
    pick (ltb (length s) c.place) (refused 2 c)
    (pick (unfit c) (refused 3 c)
    (step_by o (drop c.place s) c (ahead_of o (drop c.place s))))

-- the cursor after so many steps
unfoldable pub after : ℕ → Order → List ℕ → Cursor → Cursor
after zero o s c = c
after (suc k) o s c = after k o s (step_of o s c).cursor
