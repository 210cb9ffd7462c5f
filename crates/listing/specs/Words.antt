-- The words that lines are made of, as bytes of ASCII. A word inside a line has its space before it.
use Rattle.std.specs.Prelude.{ℕ, ℤ, List, [], ◌∷◌, ◌++◌}
use Rattle.reader.specs.declared.Cause as causes
use Rattle.reader.specs.declared.Cause.TheVariants.{Searching, NoSync, Large, Uneven}
use Rattle.listing.specs.Digits.{decimal, integer, hex}
use Rattle.listing.specs.declared.Label.{Label}
use Rattle.listing.specs.declared.Label.TheVariants.{Time, Mark, Packing, Rate, Bandwidth, GroupBandwidth, Frequency, FullScale, TotalGain, FloatScale, GroupPacking, GroupFrequencies, GroupGains, Sum, Samples, Text, Value, Cause}

-- the end of a line
abbrev pub newline : List ℕ
newline = 0x0A ∷ []

-- a word after its space
abbrev pub spaced : List ℕ → List ℕ
spaced l = 0x20 ∷ l

-- a number, an integer and a 32-bit pattern as words
abbrev pub number_word : ℕ → List ℕ
number_word n = spaced (decimal n)

abbrev pub integer_word : ℤ → List ℕ
integer_word n = spaced (integer n)

abbrev pub hex_word : ℕ → List ℕ
hex_word n = spaced (hex n)

-- why a stretch was skipped, as a word
abbrev pub cause_word : causes.Cause → List ℕ
-- searching
cause_word Searching = 0x20 ∷ 0x73 ∷ 0x65 ∷ 0x61 ∷ 0x72 ∷ 0x63 ∷ 0x68 ∷ 0x69 ∷ 0x6E ∷ 0x67 ∷ []
-- sync
cause_word NoSync = 0x20 ∷ 0x73 ∷ 0x79 ∷ 0x6E ∷ 0x63 ∷ []
-- large
cause_word Large = 0x20 ∷ 0x6C ∷ 0x61 ∷ 0x72 ∷ 0x67 ∷ 0x65 ∷ []
-- uneven
cause_word Uneven = 0x20 ∷ 0x75 ∷ 0x6E ∷ 0x65 ∷ 0x76 ∷ 0x65 ∷ 0x6E ∷ []

-- the head of a line of the dump, after two spaces
abbrev pub head_of : Label → List ℕ
-- time
head_of Time = 0x20 ∷ 0x20 ∷ 0x74 ∷ 0x69 ∷ 0x6D ∷ 0x65 ∷ []
-- mark
head_of Mark = 0x20 ∷ 0x20 ∷ 0x6D ∷ 0x61 ∷ 0x72 ∷ 0x6B ∷ []
-- SIQP
head_of Packing = 0x20 ∷ 0x20 ∷ 0x53 ∷ 0x49 ∷ 0x51 ∷ 0x50 ∷ []
-- SR__
head_of Rate = 0x20 ∷ 0x20 ∷ 0x53 ∷ 0x52 ∷ 0x5F ∷ 0x5F ∷ []
-- BW__
head_of Bandwidth = 0x20 ∷ 0x20 ∷ 0x42 ∷ 0x57 ∷ 0x5F ∷ 0x5F ∷ []
-- GCBW
head_of GroupBandwidth = 0x20 ∷ 0x20 ∷ 0x47 ∷ 0x43 ∷ 0x42 ∷ 0x57 ∷ []
-- CF__
head_of Frequency = 0x20 ∷ 0x20 ∷ 0x43 ∷ 0x46 ∷ 0x5F ∷ 0x5F ∷ []
-- dBFS
head_of FullScale = 0x20 ∷ 0x20 ∷ 0x64 ∷ 0x42 ∷ 0x46 ∷ 0x53 ∷ []
-- dBTG
head_of TotalGain = 0x20 ∷ 0x20 ∷ 0x64 ∷ 0x42 ∷ 0x54 ∷ 0x47 ∷ []
-- FFS_
head_of FloatScale = 0x20 ∷ 0x20 ∷ 0x46 ∷ 0x46 ∷ 0x53 ∷ 0x5F ∷ []
-- GIQP
head_of GroupPacking = 0x20 ∷ 0x20 ∷ 0x47 ∷ 0x49 ∷ 0x51 ∷ 0x50 ∷ []
-- GCF_
head_of GroupFrequencies = 0x20 ∷ 0x20 ∷ 0x47 ∷ 0x43 ∷ 0x46 ∷ 0x5F ∷ []
-- GRG_
head_of GroupGains = 0x20 ∷ 0x20 ∷ 0x47 ∷ 0x52 ∷ 0x47 ∷ 0x5F ∷ []
head_of Sum = 0x20 ∷ 0x20 ∷ 0x73 ∷ 0x75 ∷ 0x6D ∷ []
-- samples
head_of Samples = 0x20 ∷ 0x20 ∷ 0x73 ∷ 0x61 ∷ 0x6D ∷ 0x70 ∷ 0x6C ∷ 0x65 ∷ 0x73 ∷ []
-- text
head_of Text = 0x20 ∷ 0x20 ∷ 0x74 ∷ 0x65 ∷ 0x78 ∷ 0x74 ∷ []
-- value
head_of Value = 0x20 ∷ 0x20 ∷ 0x76 ∷ 0x61 ∷ 0x6C ∷ 0x75 ∷ 0x65 ∷ []
-- cause
head_of Cause = 0x20 ∷ 0x20 ∷ 0x63 ∷ 0x61 ∷ 0x75 ∷ 0x73 ∷ 0x65 ∷ []

-- a line of the dump: its head, the words of its values, and its end
abbrev pub dump_line : Label → List ℕ → List ℕ
dump_line which words = head_of which ++ words ++ newline
