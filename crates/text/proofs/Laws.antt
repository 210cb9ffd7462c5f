-- What the table says by the first byte, and how a run of characters goes on from a place.
use Prim.Native.Nat.{ℕ, zero, suc, ◌+◌, ◌-◌, ◌≤◌, ◌<◌}
use mathlib.Core.Path.{◌≡◌, refl, ap, sym, subst, ◌∙◌}
use mathlib.Core.Bool.{Bool, true, false, ◌||◌}
use mathlib.Core.Logic.{⊎_elim}
use mathlib.Core.List.{List, [], ◌∷◌}
use native.Mathlib.Omega.{arith}
use native.Mathlib.Nat.{eq-zero-or-pos}
use borrow.Author.Tests.{ltb-true, leb-true, lt-ltb, le-leb}
use lib.Dec.{ltb, leb}
use Rattle.std.specs.List.{list_all, position_or_len}
use Rattle.std.proofs.lemmas.List.{take_all, get_or-take, get_or-drop, length-take, length-take-le}
use Rattle.std.proofs.lemmas.List.Sums.{prefix_len-le-length, fails_before_first}
use Rattle.std.proofs.lemmas.Bool.{ltb-false, leb-false}
use lib.ListN.{replicate, take, length, drop, get_or, length-drop, drop_of_length-le}
use lib.Seq.{drop-drop}
use Rattle.std.specs.Prelude.{MatchOption, cond, is_some}
use Rattle.std.specs.Option.{unwrap_or}
use Rattle.std.proofs.Common.{Option, Some, None}
use Rattle.std.specs.Bool.{then_some}
use Rattle.num.specs.Choice.{pick, both}
use Rattle.num.proofs.Tests.{both-true}
use Rattle.text.specs.Utf8.{Range, between, utf8_tail, table, within, fits, first_fit, character, run_by, is_utf8, PlainFront, Leads}

-- ---- tests

never-true : (b : Bool) → (b ≡ true → ⊥) → b ≡ false
never-true true h = absurd (h refl)
never-true false h = refl

lies-in : (r : Range) (x : ℕ) → r.low ≤ x → x ≤ r.high → within r x ≡ true
lies-in r x l h = rw (le-leb r.low x l, le-leb x r.high h)

in-range : (r : Range) (x : ℕ) → within r x ≡ true → (r.low ≤ x) × (x ≤ r.high)
in-range r x h =
    let t = both-true (leb r.low x) (leb x r.high) h in
    (leb-true _ _ t.0, leb-true _ _ t.1)

-- ---- a row and the bytes at the front

fits-le : (row : List Range) (l : List ℕ) → fits row l ≡ true → length row ≤ length l
unfolding fits
fits-le [] l h = omega arith
fits-le (r ∷ row) [] h = let z : ◌≡◌ {A = ℕ} 0 1 = cc in absurd (omega arith)
fits-le (r ∷ row) (b ∷ l) h = omega (arith, fits-le row l (both-true (within r b) (fits row l) h).1)

-- too few bytes do not fit
pub fits-short : (row : List Range) (s : List ℕ) → length s < length row → fits row s ≡ false
fits-short row s h = never-true (fits row s) (λ e. omega (arith, fits-le row s e))

taken-le : (row : List Range) (l : List ℕ) (n : ℕ) (b : Bool) → fits row l ≡ b → n ≤ length l → pick b (length row) n ≤ length l
taken-le row l n true e h = fits-le row l e
taken-le row l n false e h = h

pub fit-le : (rows : List (List Range)) (l : List ℕ) → first_fit rows l ≤ length l
unfolding first_fit
fit-le [] l = omega arith
fit-le (row ∷ rows) l = taken-le row l (first_fit rows l) (fits row l) refl (fit-le rows l)

-- ---- the first byte picks the row

-- no byte lies in both ranges
abbrev apart : Range → Range → Bool
apart r q = ltb r.high q.low || ltb q.high r.low

-- no row begins with a byte of the range
abbrev pub all_apart : Range → List (List Range) → Bool
all_apart r [] = true
all_apart r ([] ∷ rows) = false
all_apart r ((q ∷ row) ∷ rows) = both (apart r q) (all_apart r rows)

-- no two rows begin with one byte
abbrev pub distinct : List (List Range) → Bool
distinct [] = true
distinct ([] ∷ rows) = false
distinct ((r ∷ row) ∷ rows) = both (all_apart r rows) (distinct rows)

-- the first range of the k-th row; one that no byte lies in where there is none
abbrev first : ℕ → List (List Range) → Range
first k rows = get_or (get_or rows k []) 0 (between 1 0)

apart-by : (r q : Range) (x : ℕ) (b : Bool) → ltb r.high q.low ≡ b → (b || ltb q.high r.low) ≡ true → within r x ≡ true → within q x ≡ true → ⊥
apart-by r q x true e a h g = omega (arith, ltb-true r.high q.low e, in-range r x h, in-range q x g)
apart-by r q x false e a h g = omega (arith, ltb-true q.high r.low a, in-range r x h, in-range q x g)

outside : (r q : Range) (x : ℕ) → apart r q ≡ true → within r x ≡ true → within q x ≡ false
outside r q x a h = never-true (within q x) (apart-by r q x (ltb r.high q.low) refl a h)

-- a byte of a range that no row begins with begins no character
pub none-fits : (r : Range) (rows : List (List Range)) (x : ℕ) (l : List ℕ) → all_apart r rows ≡ true → within r x ≡ true → first_fit rows (x ∷ l) ≡ 0
unfolding first_fit fits
none-fits r [] x l a h = refl
none-fits r ([] ∷ rows) x l a h = let z : ◌≡◌ {A = ℕ} 0 1 = cc in absurd (omega arith)
none-fits r ((q ∷ row) ∷ rows) x l a h =
    let t = both-true (apart r q) (all_apart r rows) a in
    rw (outside r q x t.0 h) (none-fits r rows x l t.1 h)

passed-by : (r : Range) (rows : List (List Range)) (k x : ℕ) → all_apart r rows ≡ true → within (first k rows) x ≡ true → within r x ≡ true → ⊥
passed-by r [] k x a g h = omega (arith, in-range (between 1 0) x g)
passed-by r ([] ∷ rows) k x a g h = let z : ◌≡◌ {A = ℕ} 0 1 = cc in omega arith
passed-by r ((q ∷ row) ∷ rows) zero x a g h = apart-by r q x (ltb r.high q.low) refl (both-true (apart r q) (all_apart r rows) a).0 h g
passed-by r ((q ∷ row) ∷ rows) (suc k) x a g h = passed-by r rows k x (both-true (apart r q) (all_apart r rows) a).1 g h

-- a byte of the first range of a row leaves that row alone to fit
row-fits : (rows : List (List Range)) (k x : ℕ) (l : List ℕ) → distinct rows ≡ true → within (first k rows) x ≡ true →
    first_fit rows (x ∷ l) ≡ pick (fits (drop 1 (get_or rows k [])) l) (length (get_or rows k [])) 0
unfolding first_fit fits
row-fits [] k x l d h = absurd (omega (arith, in-range (between 1 0) x h))
row-fits ([] ∷ rows) k x l d h = let z : ◌≡◌ {A = ℕ} 0 1 = cc in absurd (omega arith)
row-fits ((r ∷ row) ∷ rows) zero x l d h = rw (h, none-fits r rows x l (both-true (all_apart r rows) (distinct rows) d).0 h)
row-fits ((r ∷ row) ∷ rows) (suc k) x l d h =
    let t = both-true (all_apart r rows) (distinct rows) d in
    rw (never-true (within r x) (passed-by r rows k x t.0 h)) (row-fits rows k x l t.1 h)

-- ---- runs

guarded : (n : ℕ) (p q : ℕ → Bool) → ((m : ℕ) → p (suc m) ≡ q (suc m)) → both (ltb 0 n) (p n) ≡ both (ltb 0 n) (q n)
guarded zero p q e = refl
guarded (suc m) p q e = ap (both (ltb 0 (suc m))) (e m)

-- more fuel than bytes changes nothing
pub fuel : (f g : ℕ) (l : List ℕ) → length l ≤ f → length l ≤ g → run_by f l ≡ run_by g l
unfolding run_by
fuel zero zero [] hf hg = refl
fuel zero (suc g) [] hf hg = refl
fuel (suc f) zero [] hf hg = refl
fuel (suc f) (suc g) [] hf hg = refl
fuel zero g (x ∷ l) hf hg = absurd (omega arith)
fuel (suc f) zero (x ∷ l) hf hg = absurd (omega arith)
fuel (suc f) (suc g) (x ∷ l) hf hg =
    guarded (character (x ∷ l)) (λ n. run_by f (drop n (x ∷ l))) (λ n. run_by g (drop n (x ∷ l)))
    (λ m. let e = length-drop m l in fuel f g (drop m l) (omega arith) (omega arith))

-- one character, then the rest
pub utf8-cons : (x : ℕ) (l : List ℕ) →
    let n = character (x ∷ l) in
    is_utf8 (x ∷ l) ≡ both (ltb 0 n) (is_utf8 (drop n (x ∷ l)))
unfolding run_by
utf8-cons x l =
    guarded (character (x ∷ l)) (λ n. run_by (length l) (drop n (x ∷ l))) (λ n. is_utf8 (drop n (x ∷ l)))
    (λ m. let e = length-drop m l in fuel (length l) (length (drop m l)) (drop m l) (omega arith) (omega arith))

pub utf8-nil : is_utf8 [] ≡ true
unfolding run_by
utf8-nil = refl

-- ---- at the front

-- what the row that the first byte picks says of the bytes after it is what there is of a character
told : (b : Bool) (n m : ℕ) → 0 < n → m ≡ pick b n 0 → MatchOption (then_some b n) (m ≡ 0) (λ r. (0 < r) × (r ≡ m))
told true n m h e = (h, sym e)
told false n m h e = e

pub at-row : (k x : ℕ) (l : List ℕ) {good : Bool} → (first k table).low ≤ x → x ≤ (first k table).high → 0 < length (get_or table k []) →
    good ≡ fits (drop 1 (get_or table k [])) l →
    MatchOption (then_some good (length (get_or table k []))) (character (x ∷ l) ≡ 0) (λ n. (0 < n) × (n ≡ character (x ∷ l)))
at-row k x l low high some g =
    told _ _ _ some (row-fits table k x l refl (lies-in (first k table) x low high) ∙ rw (← g))

pub at-none : (r : Range) (x : ℕ) (l : List ℕ) → all_apart r table ≡ true → r.low ≤ x → x ≤ r.high → character (x ∷ l) ≡ 0
at-none r x l a low high = none-fits r table x l a (lies-in r x low high)

-- a character is passed over, and without one the bytes are not UTF-8
pub pass : (s : List ℕ) (n : ℕ) → n ≡ character s → 0 < n → Leads s n
pass [] n e h = absurd (omega (arith, fit-le table []))
pass (x ∷ l) n e h = record { within = omega (arith, fit-le table (x ∷ l)); same = utf8-cons x l ∙ rw (← e, lt-ltb 0 n h) }

pub stop : (s : List ℕ) → 0 < length s → character s ≡ 0 → is_utf8 s ≡ false
stop [] h e = absurd (omega arith)
stop (x ∷ l) h e = utf8-cons x l ∙ rw e

-- what leads to a place, and on from there; the code's slice from n on is written with the length that is left
rest : (s : List ℕ) (n : ℕ) → take (length s - n) (drop n s) ≡ drop n s
rest s n = take_all _ (drop n s) (omega (arith, length-drop n s))

-- the code's first byte and its slice from there on make up the bytes
pub first-rest : (s : List ℕ) → 0 < length s → get_or s 0 0 ∷ take (length s - 1) (drop 1 s) ≡ s
first-rest [] h = absurd (omega arith)
first-rest (x ∷ l) h = ap (λ t. x ∷ t) (rest (x ∷ l) 1)

pub leads-none : (s : List ℕ) → Leads s 0
leads-none s = record { within = omega arith; same = refl }

leads-by : (s : List ℕ) (n m : ℕ) → Leads s n → Leads (drop n s) m → Leads s (n + m)
leads-by s n m a b = record {
  within = omega (arith, a.within, b.within, length-drop n s);
  same = a.same ∙ b.same ∙ ap is_utf8 (drop-drop m n s);
}

pub leads-on : (s : List ℕ) (n m : ℕ) → Leads s n → Leads (take (length s - n) (drop n s)) m → Leads s (n + m)
leads-on s n m a b = leads-by s n m a (subst (λ l. Leads l m) (rest s n) b)

pub stop-at : (s : List ℕ) (n : ℕ) → Leads s n → n < length s → character (take (length s - n) (drop n s)) ≡ 0 → is_utf8 s ≡ false
stop-at s n a h e = a.same ∙ stop (drop n s) (omega (arith, length-drop n s)) (rw (rest s n) at e)

-- characters that lead to the end, or a place where none stands, tell whether the bytes are UTF-8
pub told-end : (s : List ℕ) (r : Option ℕ) → MatchOption r (is_utf8 s ≡ false) (λ n. (length s ≤ n) × Leads s n) → is_some r ≡ is_utf8 s
told-end s None h = sym h
told-end s (Some n) h = sym (h.1.same ∙ ap is_utf8 (drop_of_length-le s {i = n} h.0) ∙ utf8-nil)

-- ---- plain bytes at the front

pub plain-none : (s : List ℕ) → PlainFront s 0
plain-none s = record { within = omega arith; plain = λ k h. absurd (omega arith) }

plain-by : (s : List ℕ) (n m : ℕ) → PlainFront s n → PlainFront (drop n s) m → PlainFront s (n + m)
plain-by s n m a b = record {
  within = omega (arith, a.within, b.within, length-drop n s);
  plain = λ k h. ⊎_elim
      (λ e. (let q : n + (k - n) ≡ k = omega arith in rw (get_or-drop n s (k - n) 0, q) at (b.plain (k - n) (omega arith))))
      (λ l. a.plain k (omega arith))
      (eq-zero-or-pos (n - k));
}

pub plain-on : (s : List ℕ) (n m : ℕ) → PlainFront s n → PlainFront (take (length s - n) (drop n s)) m → PlainFront s (n + m)
plain-on s n m a b = plain-by s n m a (subst (λ l. PlainFront l m) (rest s n) b)

-- the front of a front
pub plain-take : (s : List ℕ) (m n : ℕ) → PlainFront (take m s) n → n ≤ m → PlainFront s n
plain-take s m n a h = record {
  within = omega (arith, a.within, length-take m s);
  plain = λ k q. rw (get_or-take m s k 0 (omega arith)) at (a.plain k q);
}

-- a plain byte, and those after it
pub plain-after : (s : List ℕ) (m k : ℕ) → 0 < length s → get_or s 0 0 < 128 → PlainFront (take m (drop 1 s)) k → k ≤ m → PlainFront s (1 + k)
plain-after s m k h low a q =
    plain-by s 1 k
    (record { within = omega arith; plain = λ j l. (let e : j ≡ 0 = omega arith in rw e low) })
    (plain-take (drop 1 s) m k a q)

-- a front that is plain, whole
pub plain-front : (s front : List ℕ) (n : ℕ) → n ≤ length s → front ≡ take n s → PlainFront front (length front) → PlainFront s n
plain-front s front n h e a =
    let l : length front ≡ n = ap length e ∙ length-take-le n s h in
    plain-take s n n (subst (λ t. PlainFront t n) e (subst (PlainFront front) l a)) (omega arith)

-- the bytes before the first that is not plain
found-or : (k n : ℕ) (b : Bool) (r : Option ℕ) → ltb k n ≡ b → k ≤ n → r ≡ cond b (Some k) None → unwrap_or r n ≡ k
found-or k n true r e h q = ap (λ r. unwrap_or r n) q
found-or k n false r e h q = ap (λ r. unwrap_or r n) q ∙ omega (arith, ltb-false k n e)

pub plain-first : (r : Option ℕ) (s : List ℕ) →
    r ≡ cond (ltb (position_or_len (leb 128) s) (length s)) (Some (position_or_len (leb 128) s)) None → PlainFront s (unwrap_or r (length s))
plain-first r s e =
    let k = position_or_len (leb 128) s in
    let h : k ≤ length s = prefix_len-le-length _ s in
    subst (PlainFront s) (sym (found-or k (length s) (ltb k (length s)) r refl h e))
    (record { within = h; plain = λ j q. omega (arith, leb-false 128 (get_or s j 0) (fails_before_first (leb 128) s j 0 q)) })

-- plain bytes are characters
pub plain-leads : (n : ℕ) (s : List ℕ) → PlainFront s n → Leads s n
unfolding fits
plain-leads zero s p = leads-none s
plain-leads (suc n) [] p = absurd (omega (arith, p.within))
plain-leads (suc n) (x ∷ l) p =
    let low : x < 128 = p.plain 0 (omega arith) in
    let one : Leads (x ∷ l) 1 = pass (x ∷ l) 1 (sym (row-fits table 0 x l refl (lies-in (first 0 table) x (omega arith) (omega arith)))) (omega arith) in
    let more : Leads l n = plain-leads n l (record { within = omega (arith, p.within); plain = λ k q. p.plain (suc k) (omega arith) }) in
    let e : 1 + n ≡ suc n = omega arith in
    subst (Leads (x ∷ l)) e (leads-by (x ∷ l) 1 n one more)

-- so many bytes that continue characters
pub fits-tails : (n : ℕ) (s : List ℕ) → n ≤ length s → list_all (within utf8_tail) (take n s) ≡ fits (replicate n utf8_tail) s
unfolding fits
fits-tails zero s h = refl
fits-tails (suc n) [] h = absurd (omega arith)
fits-tails (suc n) (b ∷ l) h = ap (both (within utf8_tail b)) (fits-tails n l (omega arith))
