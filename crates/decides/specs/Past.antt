-- The cursor, moved past a frame.
use Rattle.std.specs.Prelude.{◌+◌, true, false}
use Rattle.num.specs.Choice.{pick}
use Rattle.num.specs.declared.Order.{Order}
use Rattle.frame.specs.Frames.{Frame, of_chunk, width}
use Rattle.body.specs.Kind.{kind_of}
use Rattle.effect.specs.Effect.{effect}
use Rattle.reader.specs.Step.{cursor_at, before}
use Rattle.reader.specs.declared.Cursor.{Cursor}
use Rattle.state.specs.declared.State.{State}
use Rattle.decides.specs.Last.{is_skipped}

-- the state that a chunk at the cursor takes effect on
abbrev pub found : Cursor → State
found c = before c.in_step c.state

-- a chunk puts the cursor in step and takes effect; a skipped stretch puts it out of step; an unfinished end moves it
abbrev pub past : Order → Cursor → Frame → Cursor
past o c f =
    cursor_at (c.place + width f)
    (of_chunk (pick (is_skipped f) false c.in_step) (λ code body. true) f)
    (of_chunk c.state (λ code body. (effect o (kind_of code) body (found c)).after) f)
