-- What is ahead of a place: no byte, a stretch that belongs to no chunk, a chunk that breaks off, or a chunk.
use Rattle.std.specs.Prelude.{ℕ, Bool, true, false, List, [], ◌∷◌}
use Rattle.num.specs.declared.Order.{Order}
use Rattle.frame.specs.Place.{shows}
use Rattle.frame.specs.declared.At.{At}
use Rattle.frame.specs.declared.At.TheVariants.{NoSync, Bad, Unfinished, Complete}
use Rattle.frame.specs.declared.Stray.TheVariants as Stray
use Rattle.frame.specs.declared.Ahead.{Ahead}
use Rattle.frame.specs.declared.Ahead.TheVariants.{End, Stretch, Cut, Chunk}

-- by what stands at the place
abbrev pub ahead_by : At → Ahead
ahead_by NoSync = Stretch Stray.NoSync
ahead_by (Bad size) = Stretch (Stray.Bad size)
ahead_by Unfinished = Cut
ahead_by (Complete code size) = Chunk code size

abbrev pub ahead_of : Order → List ℕ → Ahead
ahead_of o [] = End
ahead_of o (x ∷ l) = ahead_by (shows o (x ∷ l))

-- what is made of a chunk that is ahead, by its type and its size; of every other case the same is made
abbrev pub of_chunk {ℓ} : {A : Type ℓ} → A → (ℕ → ℕ → A) → Ahead → A
of_chunk other f End = other
of_chunk other f (Stretch stray) = other
of_chunk other f Cut = other
of_chunk other f (Chunk code size) = f code size

abbrev pub is_chunk : Ahead → Bool
is_chunk a = of_chunk false (λ code size. true) a
