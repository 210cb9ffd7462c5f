-- What a stream shows at a place, where a search stops, and which order a stream has.
-- All is said of the bytes ahead of the place, so what lies behind it has no say.
use Rattle.std.specs.Prelude.{ℕ, ◌+◌, ◌-◌, ◌%◌, List, [], ◌∷◌, Bool, true, false, length, drop, take, ltb, leb, eqb, Option, Some, None, Result}
use Rattle.num.specs.Answer.{Answer, gives, refuses, answered}
use Rattle.num.specs.Choice.{pick, both}
use Rattle.num.specs.Number.{unsigned, bytes_of}
use Rattle.num.specs.declared.Order.{Order}
use Rattle.num.specs.declared.Order.TheVariants.{Big, Little}
use Rattle.frame.specs.declared.BadSize.{BadSize}
use Rattle.frame.specs.declared.BadSize.TheVariants.{Large, Uneven}
use Rattle.frame.specs.declared.At.{At}
use Rattle.frame.specs.declared.At.TheVariants.{NoSync, Bad, Unfinished, Complete}
use Rattle.frame.specs.declared.NoSyncWord.{NoSyncWord}

-- the bytes of a header: sync word, type and size
abbrev pub header_size : ℕ
header_size = 12

-- the bytes of a data chunk before its samples: the header, and the time
abbrev pub front_size : ℕ
front_size = 20

-- the most bytes of a body
abbrev pub size_limit : ℕ
size_limit = 69632

-- the sync word as it stands in a stream
abbrev pub sync_bytes : Order → List ℕ
sync_bytes o = bytes_of o 4 0xA1B2C3D4

-- the bytes w stand at the front of the list
unfoldable pub starts : List ℕ → List ℕ → Bool
starts [] l = true
starts (x ∷ w) [] = false
starts (x ∷ w) (y ∷ l) = both (eqb y x) (starts w l)

-- the number of 32 bits at the front: a header has the sync word, the type and the size, one after the other
abbrev pub word : Order → List ℕ → ℕ
word o l = unsigned o (take 4 l)

abbrev pub type_in : Order → List ℕ → ℕ
type_in o l = word o (drop 4 l)

abbrev pub size_in : Order → List ℕ → ℕ
size_in o l = word o (drop 8 l)

-- a size is good up to 69,632, where 4 divides it
abbrev pub good_size : ℕ → Bool
good_size n = both (leb n size_limit) (eqb (n % 4) 0)

-- what is wrong with one that is not good: over the limit, a multiple of 4 or not; else it is no multiple of 4
abbrev pub bad_size : ℕ → BadSize
bad_size n = pick (leb n size_limit) Uneven Large

-- the bytes, one at least, are the first ones of the sync word; one to three of them, where the whole word does not
-- stand there
abbrev pub begun : Order → List ℕ → Bool
begun o [] = false
begun o (x ∷ l) = starts (x ∷ l) (sync_bytes o)

-- Where the sync word stands: unfinished, fewer than 12 bytes being left; or bad, the size not good; or unfinished, the
-- body not whole; or complete. Where it does not: unfinished, the bytes that are left having begun it; or no sync.
unfoldable pub shows : Order → List ℕ → At
shows o l =
    pick (starts (sync_bytes o) l)
    (pick (ltb (length l) header_size) Unfinished
    (pick (good_size (size_in o l))
    (pick (leb (size_in o l) (length l - header_size)) (Complete (type_in o l) (size_in o l)) Unfinished)
    (Bad (bad_size (size_in o l)))))
    (pick (begun o l) Unfinished NoSync)

-- a search stops at what is complete or unfinished
abbrev pub stops : At → Bool
stops NoSync = false
stops (Bad size) = false
stops Unfinished = true
stops (Complete code size) = true

-- how many bytes lie before the first place at which a search stops, or before the end where there is none
unfoldable pub gap : Order → List ℕ → ℕ
gap o [] = 0
gap o (x ∷ l) = pick (stops (shows o (x ∷ l))) 0 (1 + gap o l)

-- the first place from `from` on at which a search stops, or that there is none
abbrev pub search_from : Order → List ℕ → ℕ → Option ℕ
search_from o s from =
    let to : ℕ = from + gap o (drop from s) in
    pick (ltb to (length s)) (Some to) None

-- the lowest place where either sync word stands decides the order; number 1 where there is none
unfoldable pub order_of : List ℕ → Answer Order
order_of [] = refuses 1
order_of (x ∷ l) =
    pick (starts (sync_bytes Big) (x ∷ l)) (gives Big)
    (pick (starts (sync_bytes Little) (x ∷ l)) (gives Little)
    (order_of l))

-- the number of the refusal where there is none
abbrev pub no_word_number : NoSyncWord → ℕ
no_word_number e = 1

-- what each case of the answer says
abbrev pub order_said : Result Order NoSyncWord → Answer Order
order_said r = answered no_word_number r
