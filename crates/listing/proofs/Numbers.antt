-- Laws of digits: decimal digits one by one, those that std prints, and hexadecimal digits that a loop writes from the last place down.
use Prim.Native.Nat.{ℕ, zero, suc, ◌+◌, ◌-◌, ◌/◌, ◌%◌, ◌^◌, ◌≤◌, ◌<◌}
use mathlib.Core.Path.{◌≡◌, refl, ap, sym, ◌∙◌}
use mathlib.Core.Bool.{Bool, true, false}
use mathlib.Core.List.{List, [], ◌∷◌, ◌++◌, append_assoc}
use native.Mathlib.Numerals.{add-one}
use native.Mathlib.Omega.{arith}
use lib.Dec.{ltb}
use lib.ListN.{length, drop, set}
use lib.Seq.{drop-cons, get_or-set_same, drop-set-lt, lt-length-set}
use lib.IntN.{ℤ, pos, negsuc}
use mir.Syntax.{w64}
use mir.Val.{to_z, of_z, SFits}
use mir.ValLaws.{to_z-of_z}
use borrow.Author.Tests.{lt-ltb, le-ltb, ltb-false}
use Rattle.std.specs.Fmt.{signed_decimal}
use Rattle.std.specs.Fmt as printed
use Rattle.std.proofs.lemmas.Fmt.{decimal_by_steps}
use Rattle.num.specs.Choice.{pick}
use Rattle.listing.specs.Digits.{digit, hex_digit, decimal_by, decimal, integer, hex_digits}

-- ---- decimal digits

fuel-by : (f g n : ℕ) (b : Bool) → ltb n 10 ≡ b → (9 < n → decimal_by f (n / 10) ≡ decimal_by g (n / 10)) →
    pick b (digit n ∷ []) (decimal_by f (n / 10) ++ (digit (n % 10) ∷ [])) ≡ pick b (digit n ∷ []) (decimal_by g (n / 10) ++ (digit (n % 10) ∷ []))
fuel-by f g n true e r = refl
fuel-by f g n false e r = rw (r (omega (arith, ltb-false n 10 e)))

-- more fuel than the number changes nothing
fuel : (f g n : ℕ) → n < f → n < g → decimal_by f n ≡ decimal_by g n
unfolding decimal_by
fuel zero g n h k = absurd (omega arith)
fuel (suc f) zero n h k = absurd (omega arith)
fuel (suc f) (suc g) n h k = fuel-by f g n (ltb n 10) refl (λ (m : 9 < n). fuel f g (n / 10) (omega arith) (omega arith))

-- one digit
pub decimal-one : (n : ℕ) → n < 10 → decimal n ≡ digit n ∷ []
unfolding decimal decimal_by
decimal-one n h = rw (lt-ltb n 10 h)

-- the last digit, after those of the tenth part
pub decimal-more : (n : ℕ) → 9 < n → decimal n ≡ decimal (n / 10) ++ (digit (n % 10) ∷ [])
unfolding decimal decimal_by
decimal-more n h =
    rw (le-ltb n 10 (omega arith)) (ap (λ (l : List ℕ). l ++ (digit (n % 10) ∷ [])) (fuel n (suc (n / 10)) (n / 10) (omega arith) (omega arith)))

-- ---- the digits that std has

-- of a number of 64 bits they are those of the definition
pub decimal-printed : (n : ℕ) → n < 2 ^ 64 → printed.decimal n ≡ decimal n
decimal-printed n h = sym (decimal_by_steps (λ k l. decimal k ≡ l) decimal-one (λ k l m e. decimal-more k m ∙ ap (λ d. d ++ ((48 + k % 10) ∷ [])) e) n h)

-- and so are those of an integer, which is read by its pattern
pub integer-printed : (z : ℤ) → SFits w64 z → signed_decimal (to_z w64 (of_z w64 z)) ≡ integer z
integer-printed (pos n) f = rw (to_z-of_z w64 (pos n) f) (decimal-printed n (omega (arith, f.sfits)))
integer-printed (negsuc n) f = rw (to_z-of_z w64 (negsuc n) f) (ap (◌∷◌ 0x2D) (decimal-printed (suc n) (omega (arith, f.sfits))))

pub ruleset std_digits = (decimal-printed, integer-printed)

-- ---- hexadecimal digits

-- the byte at a place and what stands behind it
drop-set : (a : List ℕ) (i v : ℕ) → i < length a → drop i (set a i v) ≡ v ∷ drop (i + 1) a
drop-set a i v h =
    rw (drop-cons (set a i v) i 0 (lt-length-set a i v h), get_or-set_same a i v 0 h, add-one i, drop-set-lt (suc i) a i v (omega arith))

-- a digit goes from the number to the bytes behind
pub hex-moves : (k n m i v : ℕ) (a : List ℕ) → 0 < i → i ≤ length a → v ≡ hex_digit (m % 16) →
    hex_digits i m ++ drop i a ≡ hex_digits k n → hex_digits (i - 1) (m / 16) ++ drop (i - 1) (set a (i - 1) v) ≡ hex_digits k n
unfolding hex_digits
hex-moves k n m zero v a h l e p = absurd (omega arith)
hex-moves k n m (suc i) v a h l e p =
    let d : suc i - 1 ≡ i = omega arith in
    let s : suc i ≡ i + 1 = omega arith in
    rw (d, drop-set a i v (omega arith), e, ← append_assoc (hex_digits i (m / 16)) (hex_digit (m % 16) ∷ []) (drop (i + 1) a), ← s) p

pub ruleset hex_places = (hex-moves)
