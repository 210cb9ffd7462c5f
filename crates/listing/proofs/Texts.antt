-- Laws of texts: a text that grows is the text of the bytes put one after the other.
use Prim.Native.Nat.{ℕ, zero, suc, ◌+◌, ◌-◌, ◌≤◌, min}
use mathlib.Core.Path.{◌≡◌, refl, ap}
use mathlib.Core.List.{List, [], ◌∷◌, ◌++◌}
use native.Mathlib.Omega.{arith}
use lib.ListN.{length, take, drop, length-append, length-take}
use lib.Seq.{take-take}
use Rattle.listing.specs.Text.{padded, text_of, shown}
use Rattle.listing.specs.declared.string.Text.{Text}

-- a list put at the first places behind another
padded-more : (k n : ℕ) (m : List ℕ) → n ≡ min (length m) k → take n m ++ drop n (padded k []) ≡ padded k m
unfolding padded
padded-more zero n m h = let e : n ≡ 0 = omega arith in rw e refl
padded-more (suc k) n [] h = let e : n ≡ 0 = omega arith in rw e refl
padded-more (suc k) zero (b ∷ m) h = absurd (omega arith)
padded-more (suc k) (suc n) (b ∷ m) h = ap (◌∷◌ b) (padded-more k n m (omega arith))

padded-behind : (k i n : ℕ) (l m : List ℕ) → i ≡ min (length l) k → n ≡ min (length m) (k - i) →
    take i (padded k l) ++ (take n m ++ drop n (drop i (padded k l))) ≡ padded k (l ++ m)
unfolding padded
padded-behind zero i n l m h j = let e : i ≡ 0 = omega arith in let d : n ≡ 0 = omega arith in rw (e, d) refl
padded-behind (suc k) i n [] m h j = let e : i ≡ 0 = omega arith in rw e (padded-more (suc k) n m (omega arith))
padded-behind (suc k) zero n (a ∷ l) m h j = absurd (omega arith)
padded-behind (suc k) (suc i) n (a ∷ l) m h j = ap (◌∷◌ a) (padded-behind k i n l m (omega arith) (omega arith))

-- what is past the last place does not matter
padded-first : (k j : ℕ) (m : List ℕ) → k ≤ j → padded k (take j m) ≡ padded k m
unfolding padded
padded-first zero j m h = refl
padded-first (suc k) zero m h = absurd (omega arith)
padded-first (suc k) (suc j) [] h = refl
padded-first (suc k) (suc j) (b ∷ m) h = ap (◌∷◌ b) (padded-first k j m (omega arith))

padded-cut : (k j : ℕ) (l m : List ℕ) → k ≤ j → padded k (l ++ take j m) ≡ padded k (l ++ m)
unfolding padded
padded-cut zero j l m h = refl
padded-cut (suc k) j [] m h = padded-first (suc k) j m h
padded-cut (suc k) j (a ∷ l) m h = ap (◌∷◌ a) (padded-cut k j l m (omega arith))

take-cut : (k j : ℕ) (l m : List ℕ) → k ≤ j → take k (l ++ take j m) ≡ take k (l ++ m)
take-cut zero j l m h = refl
take-cut (suc k) j [] m h = take-take (suc k) j m h
take-cut (suc k) j (a ∷ l) m h = ap (◌∷◌ a) (take-cut k j l m (omega arith))

take-padded : (k : ℕ) (l : List ℕ) → take (length (take k l)) (padded k l) ≡ take k l
unfolding padded
take-padded zero l = refl
take-padded (suc k) [] = refl
take-padded (suc k) (a ∷ l) = ap (◌∷◌ a) (take-padded k l)

-- a text by its places and its length
text_at : List ℕ → ℕ → Text
text_at bytes n = record { bytes = bytes; len = n }

text-same : (b c : List ℕ) (m n : ℕ) → b ≡ c → m ≡ n → text_at b m ≡ text_at c n
text-same b c m n p q = rw (p, q)

-- the text of l grows by the bytes of m for which there is room
pub text-more : (t : Text) (i n : ℕ) (l m more : List ℕ) → t ≡ text_of l → i ≡ min t.len 96 → n ≡ min (length m) (96 - i) → more ≡ take n m →
    ◌≡◌ {A = Text} (record { bytes = take i t.bytes ++ (more ++ drop n (drop i t.bytes)); len = i + n }) (text_of (l ++ m))
unfolding text_at
text-more t i n l m more p h j e =
    let f : t.len ≡ length (take 96 l) = ap (λ (u : Text). u.len) p in
    let k : i ≡ min (length l) 96 = omega (arith, f, length-take {A = ℕ}) in
    let o : i + n ≡ length (take 96 (l ++ m)) = rw (length-take 96 (l ++ m), length-append l m) (omega arith) in
    rw (p, e) (text-same _ _ _ _ (padded-behind 96 i n l m k j) o)

-- the text of l shows the first 96 bytes of l
pub shown-text : (l : List ℕ) → shown (text_of l) ≡ take 96 l
shown-text l = take-padded 96 l

cut-text : (l m : List ℕ) → text_of (l ++ take 96 m) ≡ text_of (l ++ m)
unfolding text_at
cut-text l m = text-same _ _ _ _ (padded-cut 96 96 l m (omega arith)) (ap length (take-cut 96 96 l m (omega arith)))

-- what a text shows stands for what it is the text of
pub shown-more : (t : Text) (n : ℕ) (l m : List ℕ) → t ≡ text_of m → n ≡ min t.len 96 → text_of (l ++ take n t.bytes) ≡ text_of (l ++ m)
shown-more t n l m p h =
    let f : t.len ≡ length (take 96 m) = ap (λ (u : Text). u.len) p in
    let e : n ≡ length (take 96 m) = omega (arith, f, length-take {A = ℕ}) in
    rw (p, e, shown-text m) (cut-text l m)

pub ruleset growing = (text-more, shown-more)
