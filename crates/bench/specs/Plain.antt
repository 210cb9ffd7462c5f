-- Answers as plain numbers, for a caller that takes no others.
use Rattle.std.specs.Prelude.{ℕ, ◌+◌, List, [], ◌∷◌, eqb, Option, Some, None}
use Rattle.num.specs.Answer.{Answer, reply_with}
use Rattle.num.specs.Choice.{pick}
use Rattle.num.specs.declared.Order.{Order}
use Rattle.num.specs.declared.Order.TheVariants.{Big, Little}
use Rattle.effect.specs.Says.{Says, ok, unknown, bad, waits, ready}
use Rattle.reader.specs.Item.{Item, of_chunk}
use Rattle.reader.specs.Items.{Given}

-- the order by its number: 0 is big, any other little
abbrev pub order_by : ℕ → Order
order_by n = pick (eqb n 0) Big Little

-- the number that is given, 0 on a refusal
abbrev pub or_zero : Answer ℕ → ℕ
or_zero a = (reply_with 0 a).value

-- where a search stopped, or the end
abbrev pub place_or : ℕ → Option ℕ → ℕ
place_or stop (Some p) = p
place_or stop None = stop

-- 1 for a chunk that is good, unknown or ready, 0 for any other
abbrev pub sound : Says → ℕ
sound ok = 1
sound unknown = 1
sound (bad n) = 0
sound (waits n t) = 0
sound (ready d) = 1

-- the same of an item, 0 where it is no chunk
abbrev pub sound_item : Item → ℕ
sound_item i = of_chunk 0 (λ place code size says. sound says) i

-- how many items of a list are sound
unfoldable pub sound_count : List Given → ℕ
sound_count [] = 0
sound_count (g ∷ rest) = sound_item g.item + sound_count rest
