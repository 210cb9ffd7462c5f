-- When the samples of a group chunk cover its pairs.
use Rattle.std.specs.Prelude.{ℕ, zero, suc, ◌+◌, ◌*◌, ◌/◌, ◌%◌, Bool, true, List, eqb, ltb, leb, get_or}
use Rattle.num.specs.Choice.{pick, both, each}

-- 1 where the test holds, 0 where it does not
abbrev pub bit : Bool → ℕ
bit b = pick b 1 0

-- g 0 + .. + g (n - 1)
unfoldable pub total : (ℕ → ℕ) → ℕ → ℕ
total g zero = 0
total g (suc n) = total g n + g n

-- the pair at which sample j stands, of a channel with this offset
abbrev pub stands_at : ℕ → ℕ → ℕ → ℕ
stands_at offset increment j = offset + j * increment

-- of how many (c, j), with c below n and j below m, pair p is the place
abbrev pub hits : ℕ → ℕ → ℕ → (ℕ → ℕ) → ℕ → ℕ
hits n increment m offset p = total (λ c. total (λ j. bit (eqb (stands_at (offset c) increment j) p)) m) n

-- m samples of each of n channels stand below P
abbrev pub inside : ℕ → ℕ → ℕ → (ℕ → ℕ) → ℕ → Bool
inside n increment m offset P = each (λ c. each (λ j. ltb (stands_at (offset c) increment j) P) m) n

-- each pair below P is that of exactly one (c, j)
abbrev pub once : ℕ → ℕ → ℕ → (ℕ → ℕ) → ℕ → Bool
once n increment m offset P = each (λ p. eqb (hits n increment m offset p) 1) P

-- the channels share the P pairs evenly, no sample stands past them, and no pair is left out or taken twice
unfoldable pub covers : ℕ → ℕ → (ℕ → ℕ) → ℕ → Bool
covers n increment offset P =
    both (eqb (P % n) 0)
    (both (inside n increment (P / n) offset P)
    (once n increment (P / n) offset P))

-- a packing that the body table allows: 1 to 16 channels, in blocks (increment 1) or in turn (increment n)
abbrev pub packs : ℕ → ℕ → Bool
packs n increment = both (both (leb 1 n) (leb n 16)) (pick (eqb increment 1) true (eqb increment n))

-- the packing of a group, with its offsets in a list, is allowed and covers the pairs
unfoldable pub group_covers : ℕ → ℕ → ℕ → List ℕ → Bool
group_covers pairs n increment offsets = both (packs n increment) (covers n increment (λ c. get_or offsets c 0) pairs)
