-- The kinds with no value for the state: EOFH and IQDC, which are empty, and TEXT.
use Rattle.std.specs.Prelude.{ℕ, ◌+◌, ◌*◌, ◌/◌, Bool, true, List, [], ◌∷◌, eqb, ltb, pos, nat_abs, length, take, drop}
use Rattle.std.specs.Int.Signed.{le_z}
use Rattle.num.specs.Answer.{Answer, gives, refuses}
use Rattle.num.specs.Choice.{pick, both}
use Rattle.num.specs.declared.Order.{Order}
use Rattle.text.specs.Utf8.{is_utf8}
use Rattle.body.specs.Check.{int32, sized}

-- EOFH and IQDC: no byte
abbrev pub empty : List ℕ → Answer (Unit {0})
empty body = sized 0 body (gives tt)

-- each byte is 0
unfoldable pub zeros : List ℕ → Bool
zeros [] = true
zeros (b ∷ l) = both (eqb b 0) (zeros l)

-- the next multiple of 4
abbrev pub padded : ℕ → ℕ
padded n = (n + 3) / 4 * 4

-- n bytes of text in a body: its size is that of the padded text, number 11; its padding is zero, 14; its text is
-- UTF-8, 15
unfoldable pub texts : List ℕ → ℕ → Answer ℕ
texts body n =
    sized (4 + padded n) body
    (pick (zeros (drop (4 + n) body))
    (pick (is_utf8 (take n (drop 4 body))) (gives n) (refuses 15))
    (refuses 14))

-- TEXT: a length, which is not negative, and so many bytes of text
unfoldable pub text : Order → List ℕ → Answer ℕ
text o body =
    pick (ltb (length body) 4) (refuses 11)
    (pick (le_z (pos 0) (int32 o body 0)) (texts body (nat_abs (int32 o body 0))) (refuses 11))
