-- A reader that begins further on in a longer stream: it gives the same, each place that much further on.
use Prim.Native.Nat.{ℕ, zero, suc, ◌+◌, ◌-◌, ◌≤◌}
use mathlib.Core.Path.{◌≡◌, refl, ap}
use mathlib.Core.Bool.{Bool, true, false, not}
use mathlib.Core.List.{List, [], ◌∷◌, map}
use native.Mathlib.Omega.{arith}
use lib.Dec.{ltb}
use lib.ListN.{length, drop, length-drop}
use lib.Seq.{drop-drop}
use borrow.Author.Tests.{lt-ltb, le-ltb, ltb-true, ltb-false}
use Rattle.num.specs.Answer.{Answer, gives, refuses}
use Rattle.num.specs.Choice.{pick, both}
use Rattle.num.specs.declared.Order.{Order}
use Rattle.frame.specs.Place.{gap}
use Rattle.frame.specs.Ahead.{ahead_of}
use Rattle.frame.specs.declared.Ahead.{Ahead}
use Rattle.frame.specs.declared.Ahead.TheVariants.{End, Stretch, Cut, Chunk}
use Rattle.state.specs.Good.{good_state}
use Rattle.state.specs.declared.State.{State}
use Rattle.reader.specs.Item.{Item, is_end, placed_by}
use Rattle.reader.specs.Items.{Given}
use Rattle.reader.specs.Reading.{told, reading}
use Rattle.reader.specs.Step.{Step, refused, step_by, step_of, after}
use Rattle.reader.specs.declared.Cursor.{Cursor}
use Rattle.reader.proofs.Laws.{placed-end, placed-back}
use Rattle.ending.specs.Ending.{since, onto, answer_by, given_by, cursor_by, step_counted}

-- ---- one step

past-by : (p m n k : ℕ) (b : Bool) → m ≡ n - p → p ≤ n → ltb m k ≡ b → ltb n (p + k) ≡ b
past-by p m n k true e h t = lt-ltb n (p + k) (omega (arith, ltb-true m k t))
past-by p m n k false e h t = le-ltb n (p + k) (omega (arith, ltb-false m k t))

module _ (o : Order) (p : ℕ) (c : Cursor) where
  at-moved : (l : List ℕ) (a : Ahead) → step_by o l (cursor_by (onto p) c) a ≡ step_counted (onto p) (step_by o l c a)
  at-moved l End = refl
  at-moved l (Chunk code size) =
      let q : p + c.place + 12 + size ≡ p + (c.place + 12 + size) = omega arith in
      rw q
  at-moved l Cut = let q : p + c.place + length l ≡ p + (c.place + length l) = omega arith in rw q
  at-moved l (Stretch stray) = let q : p + c.place + gap o l ≡ p + (c.place + gap o l) = omega arith in rw q

  tests-moved : (l : List ℕ) (a b : Bool) →
      pick a (refused 2 (cursor_by (onto p) c)) (pick b (refused 3 (cursor_by (onto p) c)) (step_by o l (cursor_by (onto p) c) (ahead_of o l)))
      ≡ step_counted (onto p) (pick a (refused 2 c) (pick b (refused 3 c) (step_by o l c (ahead_of o l))))
  tests-moved l true b = refl
  tests-moved l false true = refl
  tests-moved l false false = at-moved l (ahead_of o l)

  pub step-moved : (s : List ℕ) → p ≤ length s → step_of o s (cursor_by (onto p) c) ≡ step_counted (onto p) (step_of o (drop p s) c)
  unfolding step_of
  step-moved s h =
      let t : ltb (length s) (p + c.place) ≡ ltb (length (drop p s)) c.place = past-by p (length (drop p s)) (length s) c.place (ltb (length (drop p s)) c.place) (length-drop p s) h refl in
      rw (t, ← drop-drop c.place p s)
      (tests-moved (drop c.place (drop p s)) (ltb (length (drop p s)) c.place) (both c.in_step (not (good_state c.state))))

-- ---- and all steps after it

pick-moved : (f : ℕ → ℕ) (b : Bool) (g : Given) (rest : List Given) → pick b [] (given_by f g ∷ map (given_by f) rest) ≡ map (given_by f) (pick b [] (g ∷ rest))
pick-moved f true g rest = refl
pick-moved f false g rest = refl

pub told-moved : (f : ℕ → ℕ) (a : Answer Item) (shown : State) (rest : List Given) → told (answer_by f a) shown (map (given_by f) rest) ≡ map (given_by f) (told a shown rest)
told-moved f (refuses n) shown rest = refl
told-moved f (gives i) shown rest = rw (placed-end f i) (pick-moved f (is_end i) (record { item = i; shown = shown }) rest)

module _ (o : Order) (p : ℕ) (s : List ℕ) (h : p ≤ length s) where
  pub reading-moved : (f : ℕ) (c : Cursor) → reading f o s (cursor_by (onto p) c) ≡ map (given_by (onto p)) (reading f o (drop p s) c)
  unfolding reading
  reading-moved zero c = refl
  reading-moved (suc f) c =
      let t : Step = step_of o (drop p s) c in
      rw (step-moved o p c s h, reading-moved f t.cursor) (told-moved (onto p) t.item t.shown (reading f o (drop p s) t.cursor))

  pub after-moved : (k : ℕ) (c : Cursor) → after k o s (cursor_by (onto p) c) ≡ cursor_by (onto p) (after k o (drop p s) c)
  unfolding after
  after-moved zero c = refl
  after-moved (suc k) c = rw (step-moved o p c s h) (after-moved k (step_of o (drop p s) c).cursor)

-- ---- counted from there, each place is what it was

module _ (p : ℕ) where
  back : (k : ℕ) → since p (onto p k) ≡ k
  back k = omega arith

  item-back : (i : Item) → placed_by (since p) (placed_by (onto p) i) ≡ i
  item-back i = placed-back (since p) (onto p) back i

  answer-back : (a : Answer Item) → answer_by (since p) (answer_by (onto p) a) ≡ a
  answer-back (gives i) = ap gives (item-back i)
  answer-back (refuses n) = refl

  pub step-back : (t : Step) → step_counted (since p) (step_counted (onto p) t) ≡ t
  step-back t = rw (answer-back t.item, back t.cursor.place)

  pub given-back : (gs : List Given) → map (given_by (since p)) (map (given_by (onto p)) gs) ≡ gs
  given-back [] = refl
  given-back (g ∷ gs) = rw (item-back g.item, given-back gs)
