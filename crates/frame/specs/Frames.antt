-- The frames of a stream: the chunks, the skipped stretches and the unfinished end that its bytes are cut into.
use Rattle.std.specs.Prelude.{ℕ, zero, suc, ◌+◌, Bool, true, false, List, [], ◌∷◌, ◌++◌, length, drop, take}
use Rattle.num.specs.Number.{bytes_of}
use Rattle.num.specs.declared.Order.{Order}
use Rattle.frame.specs.declared.At.{At}
use Rattle.frame.specs.declared.At.TheVariants.{NoSync, Bad, Unfinished, Complete}
use Rattle.frame.specs.declared.Stray.{Stray}
use Rattle.frame.specs.Place.{header_size, sync_bytes, shows, gap}

pub data Frame : Type 0 where
  -- a chunk, by its type and its body
  chunk : ℕ → List ℕ → Frame
  -- a stretch that was passed over, by what stands where it begins and its bytes
  skipped : Stray → List ℕ → Frame
  -- an end that breaks off, by its bytes
  unfinished : List ℕ → Frame

-- what is made of a chunk, by its type and its body; of every other frame the same is made
abbrev pub of_chunk {ℓ} : {A : Type ℓ} → A → (ℕ → List ℕ → A) → Frame → A
of_chunk other f (chunk type body) = f type body
of_chunk other f (skipped stray bytes) = other
of_chunk other f (unfinished bytes) = other

abbrev pub is_chunk : Frame → Bool
is_chunk f = of_chunk false (λ type body. true) f

-- a chunk as it stands in a stream: sync word, type, size, body
abbrev pub chunk_bytes : Order → ℕ → List ℕ → List ℕ
chunk_bytes o type body = sync_bytes o ++ (bytes_of o 4 type ++ (bytes_of o 4 (length body) ++ body))

-- the bytes that belong to a frame
abbrev pub frame_bytes : Order → Frame → List ℕ
frame_bytes o (chunk type body) = chunk_bytes o type body
frame_bytes o (skipped stray bytes) = bytes
frame_bytes o (unfinished bytes) = bytes

-- and how many they are
abbrev pub width : Frame → ℕ
width (chunk type body) = header_size + length body
width (skipped stray bytes) = length bytes
width (unfinished bytes) = length bytes

-- the frame at the front, by what stands there: a complete chunk, an unfinished end, or the stretch up to where a
-- search stops
abbrev pub frame_at : At → ℕ → List ℕ → Frame
frame_at (Complete code size) g l = chunk code (take size (drop header_size l))
frame_at Unfinished g l = unfinished l
frame_at NoSync g l = skipped Stray.NoSync (take g l)
frame_at (Bad size) g l = skipped (Stray.Bad size) (take g l)

abbrev pub first : Order → List ℕ → Frame
first o l = frame_at (shows o l) (gap o l) l

-- the frames of l, one after the other until no byte is left, at most as many as there is fuel
unfoldable pub frames_by : ℕ → Order → List ℕ → List Frame
frames_by zero o l = []
frames_by (suc f) o [] = []
frames_by (suc f) o (x ∷ l) =
    let a : Frame = first o (x ∷ l) in
    a ∷ frames_by f o (drop (width a) (x ∷ l))

-- a frame has a byte at least, so as much fuel as bytes is enough
abbrev pub frames : Order → List ℕ → List Frame
frames o l = frames_by (length l) o l

-- how many bytes some frames take
abbrev pub covered : List Frame → ℕ
covered [] = 0
covered (a ∷ rest) = width a + covered rest
