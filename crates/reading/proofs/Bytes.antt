-- Each byte of a stream is one of an item's own, and of no other item's.
use Prim.Native.Nat.{ℕ, zero, suc, ◌+◌, ◌-◌, ◌≤◌, ◌<◌}
use mathlib.Core.Path.{◌≡◌, refl}
use mathlib.Core.Bool.{Bool, true, false}
use mathlib.Core.List.{List}
use native.Mathlib.Omega.{arith}
use native.Mathlib.Nat.{add-zero, lt_of_not-le}
use lib.Dec.{ltb}
use lib.ListN.{length}
use borrow.Author.Tests.{ltb-true, ltb-false}
use Rattle.num.specs.declared.Order.{Order}
use Rattle.reader.specs.Item.{Item}
use Rattle.reader.specs.Items.{items}
use Rattle.reader.specs.Reading.{ahead}
use Rattle.reader.specs.Step.{new_cursor, after}
use Rattle.reader.specs.declared.Cursor.{Cursor}
use Rattle.reader.proofs.Theorems.{after-suc}
use Rattle.reading.specs.Bytes.{Between, Covers, Spans, ExactlyOne}
use Rattle.reading.specs.Ends.{Sound, given_at}
use Rattle.reading.proofs.Ends.{each, ends}
use Rattle.reading.proofs.Next.{new-sound}

-- ---- places that never go back: every number from the first up to the last lies between exactly two that follow each other

module _ (place : ℕ → ℕ) (k : ℕ) where
  found-by : (n : ℕ) (b : Bool) → ltb k (place n) ≡ b → k < place (suc n) →
      (k < place n → (j : ℕ) × (j < n) × Between (place j) (place (suc j)) k) → (j : ℕ) × (j < suc n) × Between (place j) (place (suc j)) k
  found-by n true e h r = let w = r (ltb-true k (place n) e) in (w.0, omega (arith, w.1), w.2)
  found-by n false e h r = (n, omega arith, record { low = ltb-false k (place n) e; high = h })

  found : (n : ℕ) → place 0 ≤ k → k < place n → (j : ℕ) × (j < n) × Between (place j) (place (suc j)) k
  found zero l h = absurd (omega arith)
  found (suc n) l h = found-by n (ltb k (place n)) refl h (found n l)

  module _ (n : ℕ) (on : (j : ℕ) → j < n → place j ≤ place (suc j)) where
    rises : (i d : ℕ) → i + d ≤ n → place i ≤ place (i + d)
    rises i zero h = rw (add-zero i) (omega arith)
    rises i (suc d) h =
        let q : i + suc d ≡ suc (i + d) = omega arith in
        rw q (omega (arith, rises i d (omega arith), on (i + d) (omega arith)))

    apart : (i j : ℕ) → i < j → j < n → Between (place i) (place (suc i)) k → Between (place j) (place (suc j)) k → ⊥
    apart i j h l a b =
        let q : suc i + (j - suc i) ≡ j = omega arith in
        let m : place (suc i) ≤ place j = rw q at (rises (suc i) (j - suc i) (omega arith)) in
        absurd (omega (arith, a.high, b.low))

    pub between-once : place 0 ≤ k → k < place n → ExactlyOne n (λ j. Between (place j) (place (suc j)) k)
    between-once l h =
        let w = found n l h in
        record {
          index = w.0;
          below = w.1;
          has = w.2;
          only = λ j i b. omega (arith, lt_of_not-le (λ p. apart j w.0 p w.1 b w.2), lt_of_not-le (λ p. apart w.0 j p i w.2 b));
        }

-- ---- the places of the cursor

-- the bytes of an item that spans a stretch are those of the stretch
module _ {i : Item} {p q : ℕ} (w : Spans i p q) {k : ℕ} where
  covered : Between p q k → Covers i k
  covered b = record { low = omega (arith, w.from, b.low); high = omega (arith, w.to, b.high) }

  uncovered : Covers i k → Between p q k
  uncovered b = record { low = omega (arith, w.from, b.low); high = omega (arith, w.to, b.high) }

module _ (o : Order) (s : List ℕ) where
  module _ (c : Cursor) (h : Sound s c) where
    -- The bytes of item k are those from the cursor's place before step k to its place after it, and they are one at least.
    pub spans-from : (k : ℕ) → k < length (ahead o s c) → Spans (given_at (ahead o s c) k).item (after k o s c).place (after (suc k) o s c).place
    spans-from k l = rw (after-suc k o s c) (each o s k c h l).1

    on-by : (k : ℕ) (b : Bool) → ltb k (length (ahead o s c)) ≡ b → (after k o s c).place ≤ (after (suc k) o s c).place
    on-by k true e = let w = spans-from k (ltb-true k _ e) in omega (arith, w.from, w.to)
    on-by k false e = rw (after-suc k o s c, (ends o s k c h (ltb-false k _ e)).step) (omega arith)

    -- the cursor never goes back
    pub on : (k : ℕ) → (after k o s c).place ≤ (after (suc k) o s c).place
    on k = on-by k (ltb k (length (ahead o s c))) refl

    -- From a cursor that no step refuses, every byte from its place on belongs to exactly one of the items that are ahead.
    pub covered-from : (k : ℕ) → c.place ≤ k → k < length s → ExactlyOne (length (ahead o s c)) (λ j. Covers (given_at (ahead o s c) j).item k)
    unfolding after
    covered-from k l u =
        let n = length (ahead o s c) in
        let e : (after n o s c).place ≡ length s = (ends o s n c h (omega arith)).place in
        let w = between-once (λ j. (after j o s c).place) k n (λ j i. on j) l (omega arith) in
        record {
          index = w.index;
          below = w.below;
          has = covered (spans-from w.index w.below) w.has;
          only = λ j i b. w.only j i (uncovered (spans-from j i) b);
        }

  -- The bytes of item k of a stream are those from the place before step k to the place after it, and they are one at least.
  pub spans : (k : ℕ) → k < length (items o s) → Spans (given_at (items o s) k).item (after k o s new_cursor).place (after (suc k) o s new_cursor).place
  spans = spans-from new_cursor (new-sound s)

  -- Each byte of a stream is in one of its items and in no other.
  pub covered-once : (k : ℕ) → k < length s → ExactlyOne (length (items o s)) (λ j. Covers (given_at (items o s) j).item k)
  covered-once k u = covered-from new_cursor (new-sound s) k (omega arith) u
