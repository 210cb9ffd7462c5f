-- The start mark that a ready chunk shows is decided by the answers before it.
use Prim.Native.Nat.{ℕ, zero, suc, ◌<◌}
use mathlib.Core.Path.{◌≡◌, refl, ap, sym, ◌∙◌}
use mathlib.Core.Bool.{Bool, true, false, not}
use mathlib.Core.List.{List}
use native.Mathlib.Omega.{arith}
use lib.Dec.{ltb}
use lib.ListN.{length, drop}
use borrow.Author.Tests.{ltb-true, ltb-false}
use Rattle.num.specs.Answer.{Answer, gives, refuses}
use Rattle.num.specs.Choice.{pick, both}
use Rattle.num.specs.declared.Order.{Order}
use Rattle.frame.specs.Ahead.{ahead_of}
use Rattle.frame.specs.declared.Ahead.{Ahead}
use Rattle.frame.specs.declared.Ahead.TheVariants.{End, Stretch, Cut, Chunk}
use Rattle.body.specs.Kind.{kind_of}
use Rattle.body.specs.Samples.{data_of}
use Rattle.body.specs.Table.{Row, sets, marks, leaves, samples, unknown, row}
use Rattle.body.specs.declared.kinds.Kind.{Kind}
use Rattle.body.specs.declared.sampled.Data.{Data}
use Rattle.state.specs.Good.{good_state}
use Rattle.state.specs.declared.State.{State}
use Rattle.effect.specs.Says.{ready, judged}
use Rattle.effect.specs.Ready.{says_of, is_ready}
use Rattle.effect.specs.Effect.{marked, effect_by, effect}
use Rattle.effect.specs.declared.Verdict.TheVariants.{Ready}
use Rattle.reader.specs.Item.{Item, chunk, item_said}
use Rattle.reader.specs.Step.{Step, new_cursor, refused, step_by, step_of, after}
use Rattle.reader.specs.declared.Cursor.{Cursor}
use Rattle.reader.specs.declared.Item.TheVariants as items
use Rattle.reader.proofs.Theorems.{after-suc}
use Rattle.ending.proofs.Calls.{NewCall, new-met, StepCall}
use Rattle.ending.proofs.Runs.{Run, run-is-step}
use Rattle.decides.specs.Mark.{sets_it, clears_it, leaves_it, is_ok, chunk_does, does, mark_after, mark_before}
use Rattle.decides.specs.Past.{found}
use Rattle.decides.proofs.Shown.{step-shown}

-- ---- one step

marked-by : {A : Type 0} (a : Answer A) (m : Bool) → marked a m ≡ mark_after (pick (is_ok (judged a)) sets_it leaves_it) m
marked-by (gives a) m = refl
marked-by (refuses n) m = refl

ready-by : (t m : Bool) → pick t false true ≡ mark_after (pick t clears_it sets_it) m
ready-by true m = refl
ready-by false m = refl

module _ (o : Order) where
  row-mark : (r : Row) (b : List ℕ) (s : State) → (effect_by r o b s).after.mark ≡ mark_after (chunk_does r (effect_by r o b s).says) s.mark
  row-mark (sets x hold read) b s = refl
  row-mark (marks read) b s = marked-by (read o b) s.mark
  row-mark (leaves read) b s = refl
  row-mark (samples shape) b s = ready-by (is_ready (says_of shape (data_of shape o b) s.values)) s.mark
  row-mark unknown b s = refl

  effect-mark : (k : Kind) (b : List ℕ) (s : State) → (effect o k b s).after.mark ≡ mark_after (chunk_does (row k) (effect o k b s).says) s.mark
  unfolding effect
  effect-mark k b s = row-mark (row k) b s

  ahead-mark : (l : List ℕ) (c : Cursor) (a : Ahead) → (found (step_by o l c a).cursor).mark ≡ mark_after (does (step_by o l c a).item) (found c).mark
  ahead-mark l c (Chunk code size) = effect-mark (kind_of code) _ (found c)
  ahead-mark l c End = refl
  ahead-mark l c Cut = refl
  ahead-mark l c (Stretch stray) = refl

  tests-mark : (l : List ℕ) (c : Cursor) (a b : Bool) →
      let t : Step = pick a (refused 2 c) (pick b (refused 3 c) (step_by o l c (ahead_of o l))) in
      (found t.cursor).mark ≡ mark_after (does t.item) (found c).mark
  tests-mark l c true b = refl
  tests-mark l c false true = refl
  tests-mark l c false false = ahead-mark l c (ahead_of o l)

  step-mark : (s : List ℕ) (c : Cursor) → (found (step_of o s c).cursor).mark ≡ mark_after (does (step_of o s c).item) (found c).mark
  unfolding step_of
  step-mark s c = tests-mark (drop c.place s) c (ltb (length s) c.place) (both c.in_step (not (good_state c.state)))

-- ---- a reading

module _ (o : Order) (s : List ℕ) where
  -- the answer of step k, from a new cursor
  abbrev pub answer : ℕ → Answer Item
  answer k = (step_of o s (after k o s new_cursor)).item

  found-mark : (k : ℕ) → (found (after k o s new_cursor)).mark ≡ mark_before answer k
  unfolding mark_before after
  found-mark zero = refl
  found-mark (suc k) = rw (after-suc k o s new_cursor) (step-mark o s (after k o s new_cursor) ∙ ap (mark_after (does (answer k))) (found-mark k))

  -- The mark that a ready chunk shows is the one that the answers before it leave.
  pub mark-shown : (k p code size : ℕ) (d : Data) → answer k ≡ gives (chunk p code size (ready d)) → (step_of o s (after k o s new_cursor)).shown.mark ≡ mark_before answer k
  mark-shown k p code size d e = ap (λ (t : State). t.mark) (step-shown o s (after k o s new_cursor) p code size d e) ∙ found-mark k

-- equal answers before k leave the same mark
mark-alike : (a b : ℕ → Answer Item) (k : ℕ) → ((j : ℕ) → j < k → a j ≡ b j) → mark_before a k ≡ mark_before b k
unfolding mark_before
mark-alike a b zero h = refl
mark-alike a b (suc k) h = rw (h k (omega arith), mark-alike a b k (λ j l. h j (omega arith)))

-- So of any calls that meet the promises.
pub run-mark-shown : (o : Order) (s : List ℕ) (start : NewCall) (m : ℕ) (calls : ℕ → StepCall) → Run m o s start.result calls →
    (k : ℕ) → k < m → (p code size : ℕ) (d : Data) → (calls k).result.item ≡ items.Chunk p code size (Ready d) →
    (calls k).result.shown.mark ≡ mark_before (λ j. item_said (calls j).result.item) k
run-mark-shown o s start m calls r k h p code size d e =
    let t = run-is-step m o s new_cursor calls (rw (new-met start) at r) in
    ap (λ (a : State). a.mark) (t k h).shown
    ∙ mark-shown o s k p code size d (sym (t k h).item ∙ ap item_said e)
    ∙ mark-alike (answer o s) (λ j. item_said (calls j).result.item) k (λ j l. sym (t j (omega arith)).item)

-- ---- which answer decides

-- The mark is set where no answer before k sets or clears it: the first chunk is yet to regain the step.
pub mark-start : (answer : ℕ → Answer Item) (k : ℕ) → ((i : ℕ) → i < k → does (answer i) ≡ leaves_it) → mark_before answer k ≡ true
unfolding mark_before
mark-start answer zero h = refl
mark-start answer (suc k) h = rw (h k (omega arith)) (mark-start answer k (λ i l. h i (omega arith)))

module _ (answer : ℕ → Answer Item) (j : ℕ) where
  last-by : (k : ℕ) (b : Bool) → ltb j k ≡ b → j < suc k → ((i : ℕ) → j < i → i < suc k → does (answer i) ≡ leaves_it) →
      (j < k → mark_before answer k ≡ mark_after (does (answer j)) (mark_before answer j)) → mark_before answer (suc k) ≡ mark_after (does (answer j)) (mark_before answer j)
  unfolding mark_before
  last-by k true e l h r = let q = ltb-true j k e in rw (h k q (omega arith)) (r q)
  last-by k false e l h r = let q : j ≡ k = omega (arith, ltb-false j k e) in rw q

  -- Else the last answer that sets or clears it decides.
  pub mark-last : (k : ℕ) → j < k → ((i : ℕ) → j < i → i < k → does (answer i) ≡ leaves_it) → mark_before answer k ≡ mark_after (does (answer j)) (mark_before answer j)
  mark-last zero l h = absurd (omega arith)
  mark-last (suc k) l h = last-by k (ltb j k) refl l h (λ q. mark-last k q (λ i u v. h i u (omega arith)))
