-- The twelve marked cases: streams in big order, and what is said of them through their items. And the example of a
-- listing.
use Rattle.std.specs.Prelude.{ℕ, List, [], ◌∷◌, ◌++◌, pos, length}
use Rattle.effect.specs.Says.{Says, unknown, ok, bad, ready}
use Rattle.reader.specs.declared.Cause.TheVariants.{Searching, NoSync, Large, Uneven}
use Rattle.reader.specs.Item.{Item, skipped, unfinished, chunk}

-- a stream, and its items
pub record Stream : Type 0 where
  pub bytes : List ℕ
  pub holds : List Item

-- a header of type IQDC, up to its size
abbrev pub header : List ℕ
header = 0xA1 ∷ 0xB2 ∷ 0xC3 ∷ 0xD4 ∷ 0x49 ∷ 0x51 ∷ 0x44 ∷ 0x43 ∷ []

-- a chunk, by the letters of its type and its body
abbrev pub whole : ℕ → ℕ → ℕ → ℕ → List ℕ → List ℕ
whole a b c d body = 0xA1 ∷ 0xB2 ∷ 0xC3 ∷ 0xD4 ∷ a ∷ b ∷ c ∷ d ∷ 0 ∷ 0 ∷ 0 ∷ length body ∷ body

abbrev pub iqdc : List ℕ
iqdc = whole 0x49 0x51 0x44 0x43 []

-- a text of one letter, with its last byte of padding
abbrev pub letter : ℕ → List ℕ
letter last = whole 0x54 0x45 0x58 0x54 (0 ∷ 0 ∷ 0 ∷ 1 ∷ 0x41 ∷ 0 ∷ 0 ∷ last ∷ [])

-- four pairs of two channels with increment 1, by the second offset, the first being 0: GIQP, SR__, GSNC
abbrev pub four : ℕ → List ℕ
four second =
    whole 0x47 0x49 0x51 0x50 (0 ∷ 0 ∷ 0 ∷ 2 ∷ 0 ∷ 0 ∷ 0 ∷ 1 ∷ 0 ∷ 0 ∷ 0 ∷ 1 ∷ 0 ∷ 0 ∷ 0 ∷ 0 ∷ 0 ∷ 0 ∷ 0 ∷ second ∷ [])
    ++ (whole 0x53 0x52 0x5F 0x5F (0 ∷ 0 ∷ 0 ∷ 0 ∷ 0 ∷ 0 ∷ 0 ∷ 1 ∷ [])
    ++ whole 0x47 0x53 0x4E 0x43 (0 ∷ 0 ∷ 0 ∷ 0 ∷ 0 ∷ 0 ∷ 0 ∷ 5 ∷ 0 ∷ 0 ∷ 0 ∷ 1 ∷ 0 ∷ 2 ∷ 0 ∷ 3 ∷ 0 ∷ 4 ∷ 0 ∷ 5 ∷ 0 ∷
    6 ∷ 0 ∷ 7 ∷ []))

-- and their items, by what is said of the last
abbrev pub grouped : Says → List Item
grouped says = chunk 0 0x47495150 20 ok ∷ chunk 32 0x53525F5F 8 ok ∷ chunk 52 0x47534E43 24 says ∷ []

-- a row for each case, with one stream or two
unfoldable pub table : List (List Stream)
table =
    -- 1: empty
    (record { bytes = []; holds = [] } ∷ [])
    -- 2: three bytes of a sync word
    ∷ (record { bytes = 0xA1 ∷ 0xB2 ∷ 0xC3 ∷ []; holds = unfinished 0 3 ∷ [] } ∷ [])
    -- 3: an IQDC chunk
    ∷ (record { bytes = iqdc; holds = chunk 0 0x49514443 0 ok ∷ [] } ∷ [])
    -- 4: its first 8 bytes
    ∷ (record { bytes = header; holds = unfinished 0 8 ∷ [] } ∷ [])
    -- 5: a size of 69,632 and no body
    ∷ (record { bytes = header ++ 0 ∷ 1 ∷ 0x10 ∷ 0 ∷ []; holds = unfinished 0 12 ∷ [] } ∷ [])
    -- 6: a size of 69,636
    ∷ (record { bytes = header ++ 0 ∷ 1 ∷ 0x10 ∷ 4 ∷ []; holds = skipped 0 12 Searching ∷ [] } ∷ [])
    -- 7: a size of 6
    ∷ (record { bytes = header ++ 0 ∷ 0 ∷ 0 ∷ 6 ∷ []; holds = skipped 0 12 Searching ∷ [] } ∷ [])
    -- 8: half a sync word, then an IQDC chunk
    ∷ (record { bytes = 0xA1 ∷ 0xB2 ∷ iqdc; holds = skipped 0 2 Searching ∷ chunk 2 0x49514443 0 ok ∷ [] } ∷ [])
    -- 9: a sync word, then an IQDC chunk
    ∷ (record {
      bytes = 0xA1 ∷ 0xB2 ∷ 0xC3 ∷ 0xD4 ∷ iqdc;
      holds = skipped 0 4 Searching ∷ chunk 4 0x49514443 0 ok ∷ [];
    } ∷ [])
    -- 10: SIQP with 2
    ∷ (record { bytes = whole 0x53 0x49 0x51 0x50 (0 ∷ 0 ∷ 0 ∷ 2 ∷ []); holds = chunk 0 0x53495150 4 (bad 12) ∷ [] } ∷
    [])
    -- 11: a text of one letter, well padded, and with a padding of 1
    ∷ (record { bytes = letter 0; holds = chunk 0 0x54455854 8 ok ∷ [] }
    ∷ record { bytes = letter 1; holds = chunk 0 0x54455854 8 (bad 14) ∷ [] } ∷ [])
    -- 12: offsets 0 and 2, and offsets 0 and 1
    ∷ (record { bytes = four 2; holds = grouped (ready (record { time = pos 5; samples = 4 })) }
    ∷ record { bytes = four 1; holds = grouped (bad 16) } ∷ [])
    ∷ []

-- bytes behind an IQDC chunk, to which a reader comes in step
abbrev pub behind : List ℕ → List Item → Stream
behind bytes items = record { bytes = iqdc ++ bytes; holds = chunk 0 0x49514443 0 ok ∷ items }

-- The cases that skip, as a reader in step meets their bytes. In 9 the four bytes of the chunk's type stand where the
-- header that begins before it has its size.
unfoldable pub in_step : List Stream
in_step =
    -- 6
    behind (header ++ 0 ∷ 1 ∷ 0x10 ∷ 4 ∷ []) (skipped 12 12 Large ∷ [])
    -- 7
    ∷ behind (header ++ 0 ∷ 0 ∷ 0 ∷ 6 ∷ []) (skipped 12 12 Uneven ∷ [])
    -- 8
    ∷ behind (0xA1 ∷ 0xB2 ∷ iqdc) (skipped 12 2 NoSync ∷ chunk 14 0x49514443 0 ok ∷ [])
    -- 9
    ∷ behind (0xA1 ∷ 0xB2 ∷ 0xC3 ∷ 0xD4 ∷ iqdc) (skipped 12 4 Large ∷ chunk 16 0x49514443 0 ok ∷ [])
    ∷ []

-- ends about which a program may go wrong: bytes that begin the sync word, and bytes that do not or that a chunk covers
unfoldable pub short_ends : List Stream
short_ends =
    -- one byte, two and three, behind a chunk
    behind (0xA1 ∷ []) (unfinished 12 1 ∷ [])
    ∷ behind (0xA1 ∷ 0xB2 ∷ []) (unfinished 12 2 ∷ [])
    ∷ behind (0xA1 ∷ 0xB2 ∷ 0xC3 ∷ []) (unfinished 12 3 ∷ [])
    -- behind skipped bytes
    ∷ behind (0 ∷ 0xA1 ∷ 0xB2 ∷ []) (skipped 12 1 NoSync ∷ unfinished 13 2 ∷ [])
    -- the second byte of the word, and the first ones of the other order's
    ∷ behind (0xB2 ∷ []) (skipped 12 1 NoSync ∷ [])
    ∷ behind (0xD4 ∷ 0xC3 ∷ 0xB2 ∷ []) (skipped 12 3 NoSync ∷ [])
    -- the last bytes of a chunk, and of a chunk that breaks off
    ∷ record { bytes = whole 0x41 0x42 0x43 0x44 (0 ∷ 0 ∷ 0xA1 ∷ 0xB2 ∷ []); holds = chunk 0 0x41424344 4 unknown ∷ [] }
    ∷ record { bytes = header ++ 0 ∷ 0 ∷ 0 ∷ 8 ∷ 0xA1 ∷ []; holds = unfinished 0 13 ∷ [] }
    ∷ []

-- the example of the listing: 00 A1 B2; a CF__ of 1000; an IQDC; a type that no kind has; an SSNC, time 5, pair 1, -1;
-- 00 00
unfoldable pub example : List ℕ
example =
    (0 ∷ 0xA1 ∷ 0xB2 ∷ [])
    ++ (whole 0x43 0x46 0x5F 0x5F (0 ∷ 0 ∷ 0 ∷ 0 ∷ 0 ∷ 0 ∷ 3 ∷ 0xE8 ∷ [])
    ++ (iqdc
    ++ (whole 0x41 0x42 0x43 0x44 []
    ++ (whole 0x53 0x53 0x4E 0x43 (0 ∷ 0 ∷ 0 ∷ 0 ∷ 0 ∷ 0 ∷ 0 ∷ 5 ∷ 0 ∷ 1 ∷ 0xFF ∷ 0xFF ∷ [])
    ++ (0 ∷ 0 ∷ [])))))

-- the text of its listing
abbrev pub example_text : List ℕ
example_text =
    -- pxgf big 73
    0x70 ∷ 0x78 ∷ 0x67 ∷ 0x66 ∷ 0x20 ∷ 0x62 ∷ 0x69 ∷ 0x67 ∷ 0x20 ∷ 0x37 ∷ 0x33 ∷ 0x0A ∷
    -- skip 0 3
    0x73 ∷ 0x6B ∷ 0x69 ∷ 0x70 ∷ 0x20 ∷ 0x30 ∷ 0x20 ∷ 0x33 ∷ 0x0A ∷
    -- chunk 3 CF__ 8 ok
    0x63 ∷ 0x68 ∷ 0x75 ∷ 0x6E ∷ 0x6B ∷ 0x20 ∷ 0x33 ∷ 0x20 ∷ 0x43 ∷ 0x46 ∷ 0x5F ∷ 0x5F ∷ 0x20 ∷ 0x38 ∷ 0x20 ∷ 0x6F ∷
    0x6B ∷ 0x0A ∷
    -- chunk 23 IQDC 0 ok
    0x63 ∷ 0x68 ∷ 0x75 ∷ 0x6E ∷ 0x6B ∷ 0x20 ∷ 0x32 ∷ 0x33 ∷ 0x20 ∷ 0x49 ∷ 0x51 ∷ 0x44 ∷ 0x43 ∷ 0x20 ∷ 0x30 ∷ 0x20 ∷
    0x6F ∷ 0x6B ∷ 0x0A ∷
    -- chunk 35 41424344 0 unknown
    0x63 ∷ 0x68 ∷ 0x75 ∷ 0x6E ∷ 0x6B ∷ 0x20 ∷ 0x33 ∷ 0x35 ∷ 0x20 ∷ 0x34 ∷ 0x31 ∷ 0x34 ∷ 0x32 ∷ 0x34 ∷ 0x33 ∷ 0x34 ∷
    0x34 ∷ 0x20 ∷ 0x30 ∷ 0x20 ∷ 0x75 ∷ 0x6E ∷ 0x6B ∷ 0x6E ∷ 0x6F ∷ 0x77 ∷ 0x6E ∷ 0x0A ∷
    -- chunk 47 SSNC 12 wait 21
    0x63 ∷ 0x68 ∷ 0x75 ∷ 0x6E ∷ 0x6B ∷ 0x20 ∷ 0x34 ∷ 0x37 ∷ 0x20 ∷ 0x53 ∷ 0x53 ∷ 0x4E ∷ 0x43 ∷ 0x20 ∷ 0x31 ∷ 0x32 ∷
    0x20 ∷ 0x77 ∷ 0x61 ∷ 0x69 ∷ 0x74 ∷ 0x20 ∷ 0x32 ∷ 0x31 ∷ 0x0A ∷
    -- skip 71 2
    0x73 ∷ 0x6B ∷ 0x69 ∷ 0x70 ∷ 0x20 ∷ 0x37 ∷ 0x31 ∷ 0x20 ∷ 0x32 ∷ 0x0A ∷
    -- end 6
    0x65 ∷ 0x6E ∷ 0x64 ∷ 0x20 ∷ 0x36 ∷ 0x0A ∷
    []
