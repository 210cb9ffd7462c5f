-- The lines of a listing, as bytes of ASCII, each with its newline.
use Rattle.std.specs.Prelude.{ℕ, Bool, List, [], ◌∷◌, ◌++◌, ltb, length}
use Rattle.num.specs.Answer.{Answer, gives, refuses}
use Rattle.num.specs.Choice.{pick}
use Rattle.num.specs.Number.{bytes_of}
use Rattle.num.specs.declared.Order.{Order}
use Rattle.num.specs.declared.Order.TheVariants.{Big, Little}
use Rattle.body.specs.Kind.{code_of, kind_of}
use Rattle.body.specs.declared.kinds.Kind.{Kind}
use Rattle.effect.specs.Says.{Says, ok, unknown, bad, waits, ready}
use Rattle.reader.specs.Item.{Item, end, skipped, unfinished, chunk}
use Rattle.listing.specs.Words.{newline, spaced, number_word, hex_word}

-- what stands before the number of bytes, by the order
abbrev pub order_head : Order → List ℕ
-- pxgf big
order_head Big = 0x70 ∷ 0x78 ∷ 0x67 ∷ 0x66 ∷ 0x20 ∷ 0x62 ∷ 0x69 ∷ 0x67 ∷ []
-- pxgf little
order_head Little = 0x70 ∷ 0x78 ∷ 0x67 ∷ 0x66 ∷ 0x20 ∷ 0x6C ∷ 0x69 ∷ 0x74 ∷ 0x74 ∷ 0x6C ∷ 0x65 ∷ []

-- a head and a number
unfoldable pub count_line : List ℕ → ℕ → List ℕ
count_line head n = head ++ number_word n ++ newline

-- the order and the number of bytes
abbrev pub first_line : Order → ℕ → List ℕ
first_line o n = count_line (order_head o) n

-- a kind that is known has a type
abbrev pub is_known : Kind → Bool
is_known k = ltb 0 (code_of k)

-- the type of a chunk: the four letters of a known kind, the most significant byte first, else eight hexadecimal digits
abbrev pub name_by : Kind → ℕ → List ℕ
name_by k code = pick (is_known k) (spaced (bytes_of Big 4 code)) (hex_word code)

-- the verdict on a chunk
abbrev pub verdict_word : Says → List ℕ
-- ok
verdict_word ok = 0x20 ∷ 0x6F ∷ 0x6B ∷ []
verdict_word (ready d) = 0x20 ∷ 0x6F ∷ 0x6B ∷ []
-- unknown
verdict_word unknown = 0x20 ∷ 0x75 ∷ 0x6E ∷ 0x6B ∷ 0x6E ∷ 0x6F ∷ 0x77 ∷ 0x6E ∷ []
-- bad
verdict_word (bad n) = 0x20 ∷ 0x62 ∷ 0x61 ∷ 0x64 ∷ number_word n
-- wait
verdict_word (waits n t) = 0x20 ∷ 0x77 ∷ 0x61 ∷ 0x69 ∷ 0x74 ∷ number_word n

-- a head, and the place and length of a stretch of bytes
unfoldable pub stretch_line : List ℕ → ℕ → ℕ → List ℕ
stretch_line head place n = head ++ number_word place ++ number_word n ++ newline

-- a chunk: its place, name, size and verdict, after chunk
unfoldable pub chunk_line : ℕ → ℕ → ℕ → Says → List ℕ
chunk_line place code size says =
    (0x63 ∷ 0x68 ∷ 0x75 ∷ 0x6E ∷ 0x6B ∷ []) ++ number_word place ++ name_by (kind_of code) code ++ number_word size
    ++ verdict_word says ++ newline

-- the line of an item, and no byte where nothing is left
abbrev pub item_line : Item → List ℕ
item_line end = []
-- skip
item_line (skipped place n cause) = stretch_line (0x73 ∷ 0x6B ∷ 0x69 ∷ 0x70 ∷ []) place n
-- cut
item_line (unfinished place n) = stretch_line (0x63 ∷ 0x75 ∷ 0x74 ∷ []) place n
item_line (chunk place code size says) = chunk_line place code size says

-- the line of an answer: a refusal has none
abbrev pub answer_line : Answer Item → List ℕ
answer_line (gives i) = item_line i
answer_line (refuses n) = []

-- end, and the number of items
abbrev pub last_line : ℕ → List ℕ
last_line n = count_line (0x65 ∷ 0x6E ∷ 0x64 ∷ []) n

-- long: there are more bytes than are read
abbrev pub long_line : List ℕ
long_line = 0x6C ∷ 0x6F ∷ 0x6E ∷ 0x67 ∷ 0x0A ∷ []

-- none: there is no sync word
abbrev pub none_line : List ℕ
none_line = 0x6E ∷ 0x6F ∷ 0x6E ∷ 0x65 ∷ 0x0A ∷ []

-- the lines of items, in order
abbrev pub item_lines : List Item → List ℕ
item_lines [] = []
item_lines (i ∷ is) = item_line i ++ item_lines is

-- the whole listing of n bytes in which an order was found
abbrev pub listing : Order → ℕ → List Item → List ℕ
listing o n is = first_line o n ++ item_lines is ++ last_line (length is)
