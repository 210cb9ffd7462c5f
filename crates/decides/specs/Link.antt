-- A link that drops for a moment, as two streams in big order: one in which bytes were lost, and one with the same
-- chunks and nothing lost.
use Rattle.std.specs.Prelude.{ℕ, List, [], ◌∷◌, ◌++◌, pos}
use Rattle.num.specs.Number.{bytes_of}
use Rattle.num.specs.declared.Order.TheVariants.{Big}
use Rattle.frame.specs.Frames.{chunk_bytes}
use Rattle.body.specs.Kind.{code_of}
use Rattle.body.specs.Values.{number}
use Rattle.body.specs.declared.kinds.Kind.TheVariants.{SSNR, SR, CF}
use Rattle.body.specs.declared.values.Held.{Held}
use Rattle.effect.specs.Says.{ready}
use Rattle.reader.specs.Item.{Item, chunk}
use Rattle.reader.specs.Step.{Step, new_cursor, step_of, after}

-- a sample rate of 48 kHz, and a centre frequency of 100 MHz
abbrev pub rate_chunk : List ℕ
rate_chunk = chunk_bytes Big (code_of SR) (bytes_of Big 8 48000000000)

abbrev pub centre_chunk : List ℕ
centre_chunk = chunk_bytes Big (code_of CF) (bytes_of Big 8 100000000000000)

-- two real samples with the time 5
abbrev pub data_chunk : List ℕ
data_chunk = chunk_bytes Big (code_of SSNR) (bytes_of Big 8 5 ++ (0 ∷ 1 ∷ 0 ∷ 2 ∷ []))

-- what is left of a chunk whose beginning was lost
abbrev pub remains : List ℕ
remains = 0 ∷ 5 ∷ 0 ∷ 1 ∷ 0 ∷ 2 ∷ []

-- the rate, the frequency and data; then the link drops, and after it come the rate and data, but no frequency
abbrev pub dropped : List ℕ
dropped = rate_chunk ++ (centre_chunk ++ (data_chunk ++ (remains ++ (rate_chunk ++ data_chunk))))

-- the same chunks, with nothing lost between them
abbrev pub unbroken : List ℕ
unbroken = rate_chunk ++ (centre_chunk ++ (data_chunk ++ (rate_chunk ++ data_chunk)))

-- step k of reading a stream from a new cursor
abbrev pub step_number : List ℕ → ℕ → Step
step_number s k = step_of Big s (after k Big s new_cursor)

-- the data chunk at a place, which is ready
abbrev pub ready_at : ℕ → Item
ready_at place = chunk place (code_of SSNR) 12 (ready (record { time = pos 5; samples = 2 }))

-- the frequency of the chunk above
abbrev pub tuned : Held
tuned = number (pos 100000000000000)
