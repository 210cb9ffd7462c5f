-- What was counted and what is sound ahead of the cursor make up what is sound in the stream, and the steps that are left
-- lead from the cursor to where all of them lead; each step keeps both.
use Rattle.std.proofs.Common.{◌≡◌, ◌+◌, ◌-◌, ◌≤◌, length}
use Rattle.reader.specs.Items.{items}
use Rattle.reader.specs.Reading.{ahead}
use Rattle.reader.specs.Step.{new_cursor, after, Fit}
use Rattle.bench.specs.Plain.{sound_count}
use Rattle.bench.proofs.walk.Given as goal

abbrev pub invariant-loop : goal.invariant-loop
invariant-loop l = record {
  fit : Fit l.cursor;
  within : l.cursor.place ≤ length l.s;
  fewer : l.counter ≤ l.cursor.place;
  most : l.sound ≤ l.counter;
  sum : l.sound + sound_count (ahead l.order l.s l.cursor) ≡ sound_count (items l.order l.s);
  left : after (l.steps - l.counter) l.order l.s l.cursor ≡ after l.steps l.order l.s new_cursor;
}
