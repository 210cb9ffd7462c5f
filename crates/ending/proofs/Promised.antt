-- One ending, said of the promises: whatever the code answers, as long as each call meets its promise.
use Prim.Native.Nat.{ℕ, suc, ◌+◌, ◌≤◌, ◌<◌}
use mathlib.Core.Path.{◌≡◌, refl, ap, sym, ◌∙◌}
use mathlib.Core.Bool.{true, false}
use mathlib.Core.List.{List, [], ◌++◌, map}
use native.Mathlib.Omega.{arith}
use native.Mathlib.Nat.{zero-add}
use lib.IntN.{ℤ}
use lib.ListN.{length}
use Rattle.num.specs.declared.Order.{Order}
use Rattle.frame.specs.Place.{shows}
use Rattle.frame.specs.declared.At.TheVariants.{Complete}
use Rattle.frame.proofs.Theorems.{Clean, search-stopped}
use Rattle.copy.specs.Samples.{short_at, pattern_at}
use Rattle.reader.specs.Items.{Given, items}
use Rattle.reader.specs.Step.{new_cursor, step_of, after}
use Rattle.reader.specs.IsStep.{IsStep}
use Rattle.reader.specs.declared.Cursor.{Cursor}
use Rattle.reader.proofs.Theorems.{reads}
use Rattle.ending.specs.Ending.{since, onto, given_by, step_counted, AcceptsFirstAt, lead, from_chunk}
use Rattle.ending.proofs.Accepted.{searching-fit}
use Rattle.ending.proofs.Calls.{NewCall, new-met, StepCall, ShortsCall, shorts_of, shorts-met, PatternsCall, patterns_of, patterns-met}
use Rattle.ending.proofs.Copied.{SameCopies}
use Rattle.ending.proofs.Theorems.{given_from, as-alone, ending-alone, alone-first, same-samples, clean-beginning-first}
use Rattle.ending.proofs.Runs.{came, Run, run-after, run-is-step, run_items, run-reads, SameAnswers, CopyOn, same-copy}

-- each answer from the first accepted chunk on is the step of the ending alone, its place as far on as the beginning is long
pub run-ending : (o : Order) (x l : List ℕ) (c : Cursor) → AcceptsFirstAt o (x ++ l) c (length x) → (m : ℕ) (calls : ℕ → StepCall) → Run m o (x ++ l) c calls →
    (k : ℕ) → lead (length x) c + k < m → IsStep (calls (lead (length x) c + k)).result (step_counted (onto (length x)) (step_of o l (after k o l new_cursor)))
run-ending o x l c f m calls r k i = rw (← (as-alone o x l c f k).step) (run-is-step m o (x ++ l) c calls r (lead (length x) c + k) i)

-- ---- two runs, in streams with one ending, in which the first chunk that each reader accepts begins the ending

module _ (o : Order) (x y l : List ℕ) (c d : Cursor)
    (f : AcceptsFirstAt o (x ++ l) c (length x)) (g : AcceptsFirstAt o (y ++ l) d (length y))
    (m n : ℕ) (calls others : ℕ → StepCall) (r : Run m o (x ++ l) c calls) (q : Run n o (y ++ l) d others) where
  -- from there on they answer the same, with places counted from where the ending starts
  pub runs-agree : (k : ℕ) → lead (length x) c + k < m → lead (length y) d + k < n →
      SameAnswers (length x) (calls (lead (length x) c + k)).result (length y) (others (lead (length y) d + k)).result
  runs-agree k i j = record { step = step_of o l (after k o l new_cursor); one = run-ending o x l c f m calls r k i; other = run-ending o y l d g n others q k j }

  -- and so is what copying calls answer and leave, made at the runs' cursors, for one channel and with equal slices
  came-samples : (k : ℕ) → lead (length x) c + k ≤ m → lead (length y) d + k ≤ n →
      SameCopies o (x ++ l) (came c calls (lead (length x) c + k)) (y ++ l) (came d others (lead (length y) d + k))
  came-samples k i j =
      rw (run-after m o (x ++ l) c calls r (lead (length x) c + k) i, run-after n o (y ++ l) d others q (lead (length y) d + k) j)
      (same-samples o x y l c d f g k)

  module _ (k channel : ℕ) (i : lead (length x) c + k ≤ m) (j : lead (length y) d + k ≤ n) where
    pub shorts-agree : (xs : List ℤ) (a b : ShortsCall) →
        CopyOn o (x ++ l) (came c calls (lead (length x) c + k)) channel xs (shorts_of a) →
        CopyOn o (y ++ l) (came d others (lead (length y) d + k)) channel xs (shorts_of b) →
        (a.result ≡ b.result) × ((shorts_of a).left ≡ (shorts_of b).left)
    shorts-agree xs a b u v = same-copy false short_at o channel xs _ _ _ _ (shorts_of a) (shorts_of b) (came-samples k i j) u v (shorts-met a) (shorts-met b)

    pub patterns-agree : (xs : List ℕ) (a b : PatternsCall) →
        CopyOn o (x ++ l) (came c calls (lead (length x) c + k)) channel xs (patterns_of a) →
        CopyOn o (y ++ l) (came d others (lead (length y) d + k)) channel xs (patterns_of b) →
        (a.result ≡ b.result) × ((patterns_of a).left ≡ (patterns_of b).left)
    patterns-agree xs a b u v = same-copy true pattern_at o channel xs _ _ _ _ (patterns_of a) (patterns_of b) (came-samples k i j) u v (patterns-met a) (patterns-met b)

-- ---- a run that starts at a new cursor

-- no sync word starts in the beginning, and a complete chunk stands at the start of the ending: it is accepted first
pub new-first : (o : Order) (x l : List ℕ) (code size : ℕ) → Clean o x l → shows o l ≡ Complete code size → (start : NewCall) → AcceptsFirstAt o (x ++ l) start.result (length x)
new-first o x l code size h e start = rw (new-met start) (clean-beginning-first o x l code size h e new_cursor refl (omega arith))

module _ (o : Order) (x l : List ℕ) (c : Cursor) (f : AcceptsFirstAt o (x ++ l) c (length x)) (m : ℕ) (calls : ℕ → StepCall) where
  -- the ending alone, read from a new cursor, is the case of an empty beginning
  pub alone-start : (start : NewCall) → AcceptsFirstAt o ([] ++ l) start.result 0
  alone-start start = rw (new-met start) (alone-first o x l c f)

  pub run-alone : (start : NewCall) (n : ℕ) (others : ℕ → StepCall) → Run m o (x ++ l) c calls → Run n o l start.result others →
      (k : ℕ) → lead (length x) c + k < m → k < n → SameAnswers (length x) (calls (lead (length x) c + k)).result 0 (others k).result
  run-alone start n others r q k i j =
      let z : lead 0 start.result + k ≡ k = rw (new-met start) (zero-add k) in
      rw z at (runs-agree o x [] l c start.result f (alone-start start) m n calls others r q k i (omega arith))

  -- enough calls give, from the first chunk on, the items of the ending
  pub run-items : length (x ++ l) < m → Run m o (x ++ l) c calls → map (given_by (since (length x))) (from_chunk (run_items m calls)) ≡ items o l
  run-items h r =
      let s = x ++ l in
      let u = searching-fit o s c (length x) f in
      let w = search-stopped o s c.place (length x) f.stopped in
      let q : c.place ≤ length s = omega (arith, w.low, w.high) in
      let e : run_items m calls ≡ given_from o s c = run-reads m o s c calls r ∙ reads m o s c u q (omega arith) ∙ sym (reads (suc (length s)) o s c u q (omega arith)) in
      ap (λ (gs : List Given). map (given_by (since (length x))) (from_chunk gs)) e ∙ ending-alone o x l c f
