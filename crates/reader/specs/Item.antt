-- What a step gives.
use Rattle.std.specs.Prelude.{ℕ, Bool, true, false}
use Rattle.num.specs.Answer.{Answer, gives, refuses}
use Rattle.effect.specs.Says.{Says, says_number, verdict_said}
use Rattle.reader.specs.declared.Cause.{Cause}
use Rattle.reader.specs.declared.Item.TheVariants.{PastEnd, BadState, End, Skipped, Unfinished, Chunk}
use Rattle.reader.specs.declared.Item as declared

pub data Item : Type 0 where
  -- no byte is left
  end : Item
  -- a stretch that was passed over: its place and length, and why
  skipped : ℕ → ℕ → Cause → Item
  -- an end that breaks off: its place and length
  unfinished : ℕ → ℕ → Item
  -- a chunk: its place, type and size, and what is said of it
  chunk : ℕ → ℕ → ℕ → Says → Item

-- what is made of a chunk, by its place, type, size and what is said of it; of every other item the same is made
abbrev pub of_chunk {ℓ} : {A : Type ℓ} → A → (ℕ → ℕ → ℕ → Says → A) → Item → A
of_chunk other f end = other
of_chunk other f (skipped place n cause) = other
of_chunk other f (unfinished place n) = other
of_chunk other f (chunk place code size says) = f place code size says

abbrev pub is_chunk : Item → Bool
is_chunk i = of_chunk false (λ place code size says. true) i

-- no item is left
abbrev pub is_end : Item → Bool
is_end end = true
is_end (skipped place n cause) = false
is_end (unfinished place n) = false
is_end (chunk place code size says) = false

-- an item at another place
abbrev pub placed_by : (ℕ → ℕ) → Item → Item
placed_by f end = end
placed_by f (skipped place n cause) = skipped (f place) n cause
placed_by f (unfinished place n) = unfinished (f place) n
placed_by f (chunk place code size says) = chunk (f place) code size says

-- what each case of the answer says, the refusals by their numbers
abbrev pub item_said : declared.Item → Answer Item
item_said PastEnd = refuses 2
item_said BadState = refuses 3
item_said End = gives end
item_said (Skipped place length cause) = gives (skipped place length cause)
item_said (Unfinished place length) = gives (unfinished place length)
item_said (Chunk place code size v) = gives (chunk place code size (verdict_said v))

-- the number of a refusal, or of what is said of a chunk; 0 for every other item
abbrev pub item_number : Answer Item → ℕ
item_number (refuses n) = n
item_number (gives i) = of_chunk 0 (λ place code size says. says_number says) i
