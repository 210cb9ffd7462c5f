-- Whether what a step answers is sound, as a number.
use Rattle.std.specs.Prelude.{ℕ}
use Rattle.num.specs.Answer.{Answer, gives, refuses}
use Rattle.reader.specs.Item.{Item}
use Rattle.bench.specs.Plain.{sound_item}

-- 1 for a sound item, 0 for any other and on a refusal
abbrev pub sound_in : Answer Item → ℕ
sound_in (gives i) = sound_item i
sound_in (refuses k) = 0
