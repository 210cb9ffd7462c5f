-- Numbers in digits, as bytes of ASCII, the most significant digit first.
use Rattle.std.specs.Prelude.{ℕ, zero, suc, ◌+◌, ◌/◌, ◌%◌, List, [], ◌∷◌, ◌++◌, ltb, ℤ, pos, negsuc}
use Rattle.num.specs.Choice.{pick}

-- the byte of a decimal digit
abbrev pub digit : ℕ → ℕ
digit d = 0x30 + d

-- the byte of a hexadecimal digit: 0 to 9, then A to F
abbrev pub hex_digit : ℕ → ℕ
hex_digit d = pick (ltb d 10) (0x30 + d) (0x37 + d)

-- the decimal digits of n, at most as many as there is fuel
unfoldable pub decimal_by : ℕ → ℕ → List ℕ
decimal_by zero n = []
decimal_by (suc f) n = pick (ltb n 10) (digit n ∷ []) (decimal_by f (n / 10) ++ (digit (n % 10) ∷ []))

-- the decimal digits of n: no leading zeros, and one digit for zero
unfoldable pub decimal : ℕ → List ℕ
decimal n = decimal_by (suc n) n

-- the decimal digits of an integer, with a minus sign before a negative one
abbrev pub integer : ℤ → List ℕ
integer (pos n) = decimal n
integer (negsuc n) = 0x2D ∷ decimal (suc n)

-- the k lowest hexadecimal digits of n
unfoldable pub hex_digits : ℕ → ℕ → List ℕ
hex_digits zero n = []
hex_digits (suc k) n = hex_digits k (n / 16) ++ (hex_digit (n % 16) ∷ [])

-- the eight hexadecimal digits of a number of 32 bits
abbrev pub hex : ℕ → List ℕ
hex n = hex_digits 8 n
