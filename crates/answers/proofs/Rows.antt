-- Laws of the table of refusals.
use Prim.Native.Nat.{ℕ, ◌≤◌}
use mathlib.Core.Path.{◌≡◌, refl}
use mathlib.Core.Bool.{Bool, true, false}
use mathlib.Core.List.{List, [], ◌∷◌}
use native.Mathlib.Omega.{arith}
use lib.Dec.{leb, eqb}
use lib.ListN.{length}
use borrow.Author.Tests.{ne_eqb, leb-true}
use Rattle.num.specs.Choice.{pick, both}
use Rattle.num.proofs.Tests.{both-left, both-right}
use Rattle.answers.specs.Refusals.{Row, rows, text_in, refusal_text}

-- A holds, and n is the number of none of these rows: as a `match` says it in its last arm
abbrev pub Other : Type 0 → List Row → ℕ → Type 0
Other A [] n = A
Other A (r ∷ rest) n = Other (A × (n ≡ r.number → ⊥)) rest n

-- a number that no row has, has no text
pub no-text : (A : Type 0) (rs : List Row) (n : ℕ) → Other A rs n → A × (text_in rs n ≡ [])
unfolding text_in
no-text A [] n h = (h, refl)
no-text A (r ∷ rest) n h =
    let t = no-text (A × (n ≡ r.number → ⊥)) rest n h in
    (t.0.0, rw (ne_eqb n r.number t.0.1) t.1)

-- every text of these rows has at most 96 bytes
abbrev pub short : List Row → Bool
short [] = true
short (r ∷ rest) = both (leb (length r.text) 96) (short rest)

text-by : (r : Row) (rest : List Row) (n : ℕ) (b : Bool) → length r.text ≤ 96 → length (text_in rest n) ≤ 96 → length (pick b r.text (text_in rest n)) ≤ 96
text-by r rest n true h k = h
text-by r rest n false h k = k

text-short : (rs : List Row) (n : ℕ) → short rs ≡ true → length (text_in rs n) ≤ 96
unfolding text_in
text-short [] n e = omega arith
text-short (r ∷ rest) n e =
    text-by r rest n (eqb n r.number) (leb-true (length r.text) 96 (both-left (leb (length r.text) 96) (short rest) e))
    (text-short rest n (both-right (leb (length r.text) 96) (short rest) e))

pub refusal-short : (n : ℕ) → length (refusal_text n) ≤ 96
unfolding refusal_text rows
refusal-short n = text-short rows n refl
