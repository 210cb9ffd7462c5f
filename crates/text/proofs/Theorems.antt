-- What the table accepts and refuses, and that texts may be joined.
use Prim.Native.Nat.{ℕ, zero, suc, ◌≤◌, ◌<◌}
use mathlib.Core.Path.{◌≡◌, refl, sym, ◌∙◌}
use mathlib.Core.Bool.{Bool, true, false}
use mathlib.Core.List.{List, [], ◌∷◌, ◌++◌}
use native.Mathlib.Omega.{arith}
use borrow.Author.Tests.{ltb-true}
use lib.Dec.{ltb}
use lib.ListN.{length, drop, get_or, length-drop}
use lib.Seq.{drop-append-le, drop-length}
use Rattle.num.specs.Choice.{pick}
use Rattle.num.proofs.Tests.{both-true}
use Rattle.text.specs.Utf8.{Range, table, within, fits, first_fit, character, run_by, is_utf8}
use Rattle.text.proofs.Laws.{fit-le, distinct, all_apart, none-fits, utf8-cons, utf8-nil, plain-leads}

-- ---- examples

-- an overlong form of two bytes, and one of three
pub overlong-two : is_utf8 (0xC0 ∷ 0x80 ∷ []) ≡ false
unfolding fits first_fit run_by
overlong-two = refl

pub overlong-three : is_utf8 (0xE0 ∷ 0x80 ∷ 0x80 ∷ []) ≡ false
unfolding fits first_fit run_by
overlong-three = refl

-- the first surrogate, U+D800
pub surrogate : is_utf8 (0xED ∷ 0xA0 ∷ 0x80 ∷ []) ≡ false
unfolding fits first_fit run_by
surrogate = refl

-- U+10FFFF is the last character, and U+110000 is none
pub last : is_utf8 (0xF4 ∷ 0x8F ∷ 0xBF ∷ 0xBF ∷ []) ≡ true
unfolding fits first_fit run_by
last = refl

pub past-last : is_utf8 (0xF4 ∷ 0x90 ∷ 0x80 ∷ 0x80 ∷ []) ≡ false
unfolding fits first_fit run_by
past-last = refl

-- a character that breaks off
pub cut : is_utf8 (0xE2 ∷ 0x82 ∷ []) ≡ false
unfolding fits first_fit run_by
cut = refl

-- ---- plain text

pub plain-text : (s : List ℕ) → ((k : ℕ) → k < length s → get_or s k 0 < 128) → is_utf8 s ≡ true
plain-text s all = (plain-leads (length s) s (record { within = omega arith; plain = all })).same ∙ rw (drop-length s) utf8-nil

-- ---- joined texts

fits-more : (row : List Range) (l t : List ℕ) → fits row l ≡ true → fits row (l ++ t) ≡ true
unfolding fits
fits-more [] l t h = refl
fits-more (r ∷ row) [] t h = let z : ◌≡◌ {A = ℕ} 0 1 = cc in absurd (omega arith)
fits-more (r ∷ row) (b ∷ l) t h =
    let w = both-true (within r b) (fits row l) h in
    rw w.0 (fits-more row l t w.1)

more-by : (row : List Range) (l t : List ℕ) (n : ℕ) (good : Bool) → fits row l ≡ good → 0 < pick good n 0 → pick (fits row (l ++ t)) n 0 ≡ pick good n 0
more-by row l t n true e h = rw (fits-more row l t e)
more-by row l t n false e h = absurd (omega arith)

row-more : (r : Range) (row : List Range) (rows : List (List Range)) (x : ℕ) (l t : List ℕ) (here : Bool) → within r x ≡ here → all_apart r rows ≡ true →
    (0 < first_fit rows (x ∷ l) → first_fit rows (x ∷ (l ++ t)) ≡ first_fit rows (x ∷ l)) →
    0 < first_fit ((r ∷ row) ∷ rows) (x ∷ l) → first_fit ((r ∷ row) ∷ rows) (x ∷ (l ++ t)) ≡ first_fit ((r ∷ row) ∷ rows) (x ∷ l)
unfolding first_fit fits
row-more r row rows x l t true e a next h =
    rw (e, none-fits r rows x l a e, none-fits r rows x (l ++ t) a e)
    (more-by row l t (suc (length row)) (fits row l) refl (rw (e, none-fits r rows x l a e) at h))
row-more r row rows x l t false e a next h = rw e (next (rw e at h))

-- bytes after a character do not change it
character-more : (rows : List (List Range)) (x : ℕ) (l t : List ℕ) → distinct rows ≡ true → 0 < first_fit rows (x ∷ l) → first_fit rows (x ∷ (l ++ t)) ≡ first_fit rows (x ∷ l)
unfolding first_fit
character-more [] x l t d h = absurd (omega arith)
character-more ([] ∷ rows) x l t d h = let z : ◌≡◌ {A = ℕ} 0 1 = cc in absurd (omega arith)
character-more ((r ∷ row) ∷ rows) x l t d h =
    let w = both-true (all_apart r rows) (distinct rows) d in
    row-more r row rows x l t (within r x) refl w.0 (character-more rows x l t w.1) h

joined-by : (f : ℕ) (a b : List ℕ) → length a ≤ f → is_utf8 a ≡ true → is_utf8 (a ++ b) ≡ is_utf8 b
joined-by zero [] b h e = refl
joined-by zero (x ∷ a) b h e = absurd (omega arith)
joined-by (suc f) [] b h e = refl
joined-by (suc f) (x ∷ a) b h e =
    let n = character (x ∷ a) in
    let w = both-true (ltb 0 n) (is_utf8 (drop n (x ∷ a))) (sym (utf8-cons x a) ∙ e) in
    let some : 0 < n = ltb-true 0 n w.0 in
    let most : n ≤ length (x ∷ a) = fit-le table (x ∷ a) in
    let left = length-drop n (x ∷ a) in
    utf8-cons x (a ++ b)
    ∙ rw (character-more table x a b refl some, w.0, drop-append-le n (x ∷ a) b most)
    (joined-by f (drop n (x ∷ a)) b (omega arith) w.1)

-- after a text, whether the whole is one hangs on what follows alone; so two texts joined are a text
pub joined : (a b : List ℕ) → is_utf8 a ≡ true → is_utf8 (a ++ b) ≡ is_utf8 b
joined a b e = joined-by (length a) a b (omega arith) e
