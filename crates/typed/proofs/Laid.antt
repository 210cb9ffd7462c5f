-- Laws of a body that is laid over zeros: a head, and then the values of a group.
use Prim.Native.Nat.{ℕ, ◌+◌, ◌≤◌, min}
use mathlib.Core.Path.{◌≡◌, refl, sym, ap, ◌∙◌}
use mathlib.Core.Bool.{Bool, true, false}
use mathlib.Core.List.{List, [], ◌∷◌, ◌++◌, append_assoc, append-nil, map}
use native.Mathlib.Omega.{arith}
use lib.Dec.{ltb}
use lib.Ieee.{Float, binary32, to_bits}
use lib.ListN.{length, take, drop, length-append}
use lib.Seq.{take_all, take_at}
use borrow.Author.Tests.{ltb-true, ltb-false}
use Rattle.std.specs.Int.{from_bool}
use Rattle.std.proofs.lemmas.List.{take-map}
use Rattle.num.specs.Choice.{pick}
use Rattle.num.specs.Number.{bytes_of}
use Rattle.num.specs.declared.Order.{Order}
use Rattle.lay.specs.Numbers.{int64}
use Rattle.lay.specs.Runs.{run_of}
use Rattle.lay.specs.Splice.{overlaid}
use Rattle.lay.proofs.Splice.{laid-first, laid-on}
use Rattle.lay.proofs.Values.{run-one}
use Rattle.body.specs.declared.groups.GroupPacking.{GroupPacking}
use Rattle.body.specs.declared.groups.GroupHertz.{GroupHertz}
use Rattle.body.specs.declared.groups.GroupGains.{GroupGains}
use Rattle.typed.specs.Bodies.{float32}
use Rattle.typed.specs.Groups.{at_most, packing_body, hertz_body, gains_body}

-- the lesser of two is at most the limit
least-by : (limit n : ℕ) (b : Bool) → ltb limit n ≡ b → min n limit ≡ pick b limit n
least-by limit n true e = let h = ltb-true limit n e in omega arith
least-by limit n false e = let h = ltb-false limit n e in omega arith

least : (limit n : ℕ) → min n limit ≡ at_most limit n
least limit n = least-by limit n (ltb limit n) refl

-- a list of sixteen has no more than sixteen to take
sixteen-by : {A : Type 0} (xs : List A) (n : ℕ) → length xs ≡ 16 → (b : Bool) → ltb 16 n ≡ b → take (pick b 16 n) xs ≡ take n xs
sixteen-by xs n m true e = let h = ltb-true 16 n e in take_all 16 xs (omega arith) ∙ sym (take_all n xs (omega arith))
sixteen-by xs n m false e = refl

of-sixteen : {A : Type 0} (xs : List A) (n : ℕ) → length xs ≡ 16 → take (min n 16) xs ≡ take n xs
of-sixteen xs n m = ap (λ (j : ℕ). take j xs) (least 16 n) ∙ sixteen-by xs n m (ltb 16 n) refl

-- 1 for I before Q
packing-word : (b : Bool) → from_bool b ≡ pick b 1 0
packing-word true = refl
packing-word false = refl

-- three words, and what follows them
three-words : (o : Order) (x y z : ℕ) (rest : List ℕ) → run_of (bytes_of o 4) (x ∷ y ∷ z ∷ []) ++ rest ≡ bytes_of o 4 x ++ (bytes_of o 4 y ++ (bytes_of o 4 z ++ rest))
unfolding run_of
three-words o x y z rest = rw (append-nil (bytes_of o 4 z)) (simp append_assoc)

-- the patterns of some floats stand as the floats do
patterns-run : (o : Order) (xs : List Float) → run_of (bytes_of o 4) (map (to_bits binary32) xs) ≡ run_of (float32 o) xs
unfolding run_of
patterns-run o [] = refl
patterns-run o (x ∷ xs) = ap (λ (l : List ℕ). float32 o x ++ l) (patterns-run o xs)

floats-run : (o : Order) (xs : List Float) (ps : List ℕ) (n : ℕ) → ps ≡ map (to_bits binary32) xs → run_of (bytes_of o 4) (take n ps) ≡ run_of (float32 o) (take n xs)
floats-run o xs ps n e = rw (e, take-map (to_bits binary32) n xs) (patterns-run o (take n xs))

-- a head and then values, laid over a longer slice
pub group-laid : (d l k head run : List ℕ) (h r : ℕ) → length head ≡ h → length run ≡ r → h + r ≤ length d →
    l ≡ overlaid d 0 head → k ≡ overlaid l h run → take (h + r) k ≡ head ++ run
group-laid d l k head run h r m n s f g =
    let p : length (head ++ run) ≡ h + r = omega (arith, length-append head run) in
    ap (take (h + r)) (laid-on 0 d l k head run h (omega arith) (omega arith) (laid-first d l 0 head (omega arith) f) g)
    ∙ take_at (head ++ run) (drop (0 + length (head ++ run)) d) (h + r) p

-- ---- what the code lays is the body

pub packing-is-body : (o : Order) (g : GroupPacking) → length g.offsets ≡ 16 → (count used iq : ℕ) → count ≡ min g.n 17 → used ≡ min g.n 16 → iq ≡ from_bool g.iq →
    run_of (bytes_of o 4) (count ∷ iq ∷ g.increment ∷ []) ++ run_of (bytes_of o 4) (take used g.offsets) ≡ packing_body o g
unfolding packing_body
packing-is-body o g m count used iq e f h =
    rw (e, f, h, least 17 g.n, of-sixteen g.offsets g.n m, packing-word g.iq)
    (three-words o (at_most 17 g.n) (pick g.iq 1 0) g.increment (run_of (bytes_of o 4) (take g.n g.offsets)))

pub hertz-is-body : (o : Order) (g : GroupHertz) → length g.values ≡ 16 → (count used : ℕ) → count ≡ min g.n 17 → used ≡ min g.n 16 →
    run_of (bytes_of o 4) (count ∷ []) ++ run_of (int64 o) (take used g.values) ≡ hertz_body o g
unfolding hertz_body
hertz-is-body o g m count used e f = rw (e, f, least 17 g.n, of-sixteen g.values g.n m, run-one (bytes_of o 4) (at_most 17 g.n)) refl

pub gains-is-body : (o : Order) (g : GroupGains) → length g.values ≡ 16 → (ps : List ℕ) → ps ≡ map (to_bits binary32) g.values → (count used : ℕ) → count ≡ min g.n 17 → used ≡ min g.n 16 →
    run_of (bytes_of o 4) (count ∷ []) ++ run_of (bytes_of o 4) (take used ps) ≡ gains_body o g
unfolding gains_body
gains-is-body o g m ps p count used e f =
    rw (e, least 17 g.n, run-one (bytes_of o 4) (at_most 17 g.n), floats-run o g.values ps used p, f, of-sixteen g.values g.n m) refl
