-- Following a recording: where a reader stops to wait for more bytes, from which cursor it then goes on, and which chunks it gives.
use Rattle.std.specs.Prelude.{ℕ, zero, suc, Bool, true, false, List, [], ◌∷◌, ◌++◌, length}
use Rattle.num.specs.Answer.{Answer, gives, refuses}
use Rattle.num.specs.Choice.{pick}
use Rattle.num.specs.declared.Order.{Order}
use Rattle.reader.specs.Item.{Item, end, skipped, unfinished, chunk}
use Rattle.reader.specs.Items.{Given}
use Rattle.reader.specs.Reading.{ahead}
use Rattle.reader.specs.Step.{Step, step_of}
use Rattle.reader.specs.declared.Cursor.{Cursor}
use Rattle.growing.specs.Settled.{chunks_of}

-- a reader that follows stops at this answer: no byte is left, or an unfinished end stands there, or it is refused
abbrev pub waits : Answer Item → Bool
waits (refuses n) = true
waits (gives end) = true
waits (gives (unfinished place n)) = true
waits (gives (skipped place n cause)) = false
waits (gives (chunk place code size says)) = false

-- the cursor before the step at whose answer the reader stops, which makes at most so many steps before
unfoldable pub held_by : ℕ → Order → List ℕ → Cursor → Cursor
held_by zero o s c = c
held_by (suc f) o s c =
    let t : Step = step_of o s c in
    pick (waits t.item) c (held_by f o s t.cursor)

-- each of those steps takes a byte at least, so as many steps as there are bytes are enough
abbrev pub held : Order → List ℕ → Cursor → Cursor
held o s c = held_by (length s) o s c

-- the chunks that are given as the stream grows: those of s from c on; then, part by part, those from the cursor that was held
unfoldable pub by_parts : Order → List ℕ → Cursor → List (List ℕ) → List Given
by_parts o s c [] = chunks_of (ahead o s c)
by_parts o s c (t ∷ ts) = chunks_of (ahead o s c) ++ by_parts o (s ++ t) (held o s c) ts
