-- The samples of one channel, out of the sample bytes of a data chunk into a slice.
use Rattle.std.specs.Prelude.{ℕ, zero, suc, ◌+◌, ◌*◌, Bool, List, [], ◌∷◌, ◌++◌, leb, ℤ, length, take, drop}
use Rattle.std.specs.Int.{w16}
use Rattle.num.specs.Choice.{pick, both, each}
use Rattle.num.specs.Number.{unsigned, signed}
use Rattle.num.specs.declared.Order.{Order}

-- the bytes of number k, where each number has w bytes
abbrev pub bytes_at : ℕ → List ℕ → ℕ → List ℕ
bytes_at w src k = take w (drop (k * w) src)

-- number k of the signed 16-bit numbers
abbrev pub short_at : Order → List ℕ → ℕ → ℤ
short_at o src k = signed w16 o (bytes_at 2 src k)

-- number k of the 32-bit patterns
abbrev pub pattern_at : Order → List ℕ → ℕ → ℕ
pattern_at o src k = unsigned o (bytes_at 4 src k)

-- which pair is number j of a channel
abbrev pub place_of : ℕ → ℕ → ℕ → ℕ
place_of first step j = first + j * step

-- which number is the I of a pair: the pair's first where I stands before Q, else its second
abbrev pub i_of : Bool → ℕ → ℕ
i_of iq place = pick iq (2 * place) (2 * place + 1)

-- which number is its Q: the other one
abbrev pub q_of : Bool → ℕ → ℕ
q_of iq place = pick iq (2 * place + 1) (2 * place)

-- the first n pairs of a channel, where a number is known by its place: I, Q, I, Q, ..
unfoldable pub pairs_of : {A : Type 0} → (ℕ → A) → Bool → ℕ → ℕ → ℕ → List A
pairs_of value iq first step zero = []
pairs_of value iq first step (suc n) =
    pairs_of value iq first step n
    ++ (value (i_of iq (place_of first step n)) ∷ value (q_of iq (place_of first step n)) ∷ [])

-- the first n numbers
unfoldable pub reals_of : {A : Type 0} → (ℕ → A) → ℕ → List A
reals_of value zero = []
reals_of value (suc n) = reals_of value n ++ (value n ∷ [])

-- what a slice holds once values are copied to its front: the rest is as it was
abbrev pub front_filled : {A : Type 0} → List A → List A → List A
front_filled values out = values ++ drop (length values) out

-- the pair at a place ends within so many bytes
abbrev pub inside : ℕ → ℕ → ℕ → Bool
inside w size place = leb ((place + 1) * (2 * w)) size

-- each of the pairs lies inside the bytes, and the slice has room for two numbers of each
abbrev pub pairs_fit : ℕ → ℕ → ℕ → ℕ → ℕ → ℕ → Bool
pairs_fit w size first step pairs room =
    both (each (λ j. inside w size (place_of first step j)) pairs) (leb (2 * pairs) room)

-- the numbers lie inside the bytes, and the slice has room for them
abbrev pub reals_fit : ℕ → ℕ → ℕ → ℕ → Bool
reals_fit w size count room = both (leb (count * w) size) (leb count room)
