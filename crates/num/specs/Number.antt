-- A number of some bytes, in either byte order.
use Rattle.std.specs.Prelude.{ℕ, zero, suc, ◌+◌, ◌*◌, ◌/◌, ◌%◌, List, [], ◌∷◌, reverse, leb, ℤ, length, take, drop}
use Rattle.std.specs.Int.{Width}
use Rattle.std.proofs.Common.{to_z}
use Rattle.num.specs.Choice.{pick}
use Rattle.num.specs.declared.Order.{Order}
use Rattle.num.specs.declared.Order.TheVariants.{Big, Little}

-- A number's bytes with the least significant first, from the bytes as they stand in the stream, and back.
-- This is the one place where the order matters.
abbrev pub least_first : Order → List ℕ → List ℕ
least_first Little bytes = bytes
least_first Big bytes = reverse bytes

-- the number whose bytes these are, the least significant first
abbrev pub number : List ℕ → ℕ
number [] = 0
number (b ∷ bs) = b + 256 * number bs

-- the k lowest bytes of n, the least significant first
abbrev pub digits : ℕ → ℕ → List ℕ
digits zero n = []
digits (suc k) n = n % 256 ∷ digits k (n / 256)

-- the unsigned number that stands as these bytes
abbrev pub unsigned : Order → List ℕ → ℕ
unsigned o bytes = number (least_first o bytes)

-- the unsigned number of k bytes that stands at a place of s, 0 where fewer bytes are left there
abbrev pub unsigned_at : ℕ → Order → List ℕ → ℕ → ℕ
unsigned_at k o s place = pick (leb (place + k) (length s)) (unsigned o (take k (drop place s))) 0

-- the signed number of width w that stands as these bytes, in two's complement
abbrev pub signed : Width → Order → List ℕ → ℤ
signed w o bytes = to_z w (unsigned o bytes)

-- the k bytes as which n stands
abbrev pub bytes_of : Order → ℕ → ℕ → List ℕ
bytes_of o k n = least_first o (digits k n)
