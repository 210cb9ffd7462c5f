-- Laws of runs and of copies, of the promises alone: a run's cursors and answers are those of the rules, and where the rules
-- say the same of two copies, their answers and slices are the same.
use Prim.Native.Nat.{ℕ, zero, suc, ◌≤◌, ◌<◌}
use mathlib.Core.Path.{◌≡◌, refl, ap, sym, ◌∙◌}
use mathlib.Core.Bool.{Bool}
use mathlib.Core.List.{List, []}
use native.Mathlib.Omega.{arith}
use lib.ListN.{length}
use Rattle.num.specs.declared.Order.{Order}
use Rattle.reader.specs.Item.{item_said}
use Rattle.reader.specs.Items.{Given}
use Rattle.reader.specs.Step.{Step, step_of, after}
use Rattle.reader.specs.IsStep.{IsStep}
use Rattle.reader.specs.Reading.{told, reading}
use Rattle.reader.specs.declared.Cursor.{Cursor}
use Rattle.reader.specs.declared.Stepped.{Stepped}
use Rattle.reader.proofs.Theorems.{after-suc}
use Rattle.samples.specs.Copy.{copied_said, layout_at, count_of, samples_at, filled}
use Rattle.samples.proofs.Theorems.{copied-told}
use Rattle.ending.specs.Ending.{since, onto, answer_by, cursor_by, step_counted}
use Rattle.ending.proofs.Moved.{step-back}
use Rattle.ending.proofs.Calls.{StepCall, StepOn, step-met, Copying, Copies}
use Rattle.ending.proofs.Copied.{SameCopies}

-- ---- a run of steps

-- the cursor with which call k of a run is made: c at first, then the one that the call before gave
abbrev pub came : Cursor → (ℕ → StepCall) → ℕ → Cursor
came c calls zero = c
came c calls (suc k) = (calls k).result.cursor

-- n calls of step, from c on
abbrev pub Run : ℕ → Order → List ℕ → Cursor → (ℕ → StepCall) → Type 0
Run n o s c calls = (k : ℕ) → k < n → StepOn o s (came c calls k) (calls k)

module _ (n : ℕ) (o : Order) (s : List ℕ) (c : Cursor) (calls : ℕ → StepCall) (r : Run n o s c calls) where
  pub took : (k : ℕ) → k < n → IsStep (calls k).result (step_of o s (came c calls k))
  took k h = step-met o s (came c calls k) (calls k) (r k h)

  -- the run's cursors are those of the rules
  pub run-after : (k : ℕ) → k ≤ n → came c calls k ≡ after k o s c
  unfolding after
  run-after zero h = refl
  run-after (suc k) h = (took k (omega arith)).cursor ∙ ap (λ (d : Cursor). (step_of o s d).cursor) (run-after k (omega arith)) ∙ sym (after-suc k o s c)

  pub run-is-step : (k : ℕ) → k < n → IsStep (calls k).result (step_of o s (after k o s c))
  run-is-step k h = rw (← run-after k (omega arith)) (took k h)

-- the items that a run's answers give, up to End or a refusal
unfoldable pub run_items : ℕ → (ℕ → StepCall) → List Given
run_items zero calls = []
run_items (suc n) calls =
    let a : Stepped = (calls 0).result in
    told (item_said a.item) a.shown (run_items n (λ k. calls (suc k)))

-- after its first call, a run goes on from the cursor that the call gave
run-on : (n : ℕ) (o : Order) (s : List ℕ) (c : Cursor) (calls : ℕ → StepCall) → Run (suc n) o s c calls → Run n o s (calls 0).result.cursor (λ k. calls (suc k))
run-on n o s c calls r zero h = r 1 (omega arith)
run-on n o s c calls r (suc k) h = r (suc (suc k)) (omega arith)

-- they are those of the rules
pub run-reads : (n : ℕ) (o : Order) (s : List ℕ) (c : Cursor) (calls : ℕ → StepCall) → Run n o s c calls → run_items n calls ≡ reading n o s c
unfolding run_items reading
run-reads zero o s c calls r = refl
run-reads (suc n) o s c calls r =
    let t = took (suc n) o s c calls r 0 (omega arith) in
    rw (t.item, t.shown, run-reads n o s (calls 0).result.cursor (λ k. calls (suc k)) (run-on n o s c calls r), t.cursor)

-- ---- two answers that are one step, its places p further on in one and q further on in the other

pub record SameAnswers (p : ℕ) (a : Stepped) (q : ℕ) (b : Stepped) : Type 0 where
  pub step : Step
  pub one : IsStep a (step_counted (onto p) step)
  pub other : IsStep b (step_counted (onto q) step)

-- so they say the same, places counted from p in one and from q in the other
pub record SameCounted (p : ℕ) (a : Stepped) (q : ℕ) (b : Stepped) : Type 0 where
  pub item : answer_by (since p) (item_said a.item) ≡ answer_by (since q) (item_said b.item)
  pub shown : a.shown ≡ b.shown
  pub cursor : cursor_by (since p) a.cursor ≡ cursor_by (since q) b.cursor

pub same-counted : {p q : ℕ} {a b : Stepped} → SameAnswers p a q b → SameCounted p a q b
same-counted {p} {q} e =
    let t = e.one in
    let u = e.other in
    let w : step_counted (since p) (step_counted (onto p) e.step) ≡ step_counted (since q) (step_counted (onto q) e.step) = step-back p e.step ∙ sym (step-back q e.step) in
    record {
      item = rw (t.item, u.item) (ap (λ (v : Step). v.item) w);
      shown = t.shown ∙ sym u.shown;
      cursor = rw (t.cursor, u.cursor) (ap (λ (v : Step). v.cursor) w);
    }

-- ---- a copying call at c, for channel n, into a slice that holds xs

pub record CopyOn {A : Type 0} (o : Order) (s : List ℕ) (c : Cursor) (n : ℕ) (xs : List A) (q : Copying A) : Type 0 where
  pub order : q.order ≡ o
  pub slice : q.slice ≡ s
  pub cursor : q.cursor ≡ c
  pub channel : q.channel ≡ n
  pub out : q.out ≡ xs

module _ {A : Type 0} (float : Bool) (value : Order → List ℕ → ℕ → A) (o : Order) (n : ℕ) (xs : List A) where
  copies-on : (s : List ℕ) (c : Cursor) (q : Copying A) → CopyOn o s c n xs q → Copies float value q →
      (copied_said q.result ≡ count_of float o s c n (length xs))
      × (q.left ≡ filled (count_of float o s c n (length xs)) (layout_at float o s c n) (value o (samples_at o s c)) xs)
  copies-on s c q h k = rw (← h.order, ← h.slice, ← h.cursor, ← h.channel, ← h.out) (k.said, k.left)

  -- where copies are the same, two calls give one answer and leave one slice
  pub same-copy : (s : List ℕ) (c : Cursor) (t : List ℕ) (d : Cursor) (q u : Copying A) → SameCopies o s c t d →
      CopyOn o s c n xs q → CopyOn o t d n xs u → Copies float value q → Copies float value u → (q.result ≡ u.result) × (q.left ≡ u.left)
  same-copy s c t d q u e hq hu kq ku =
      let a = copies-on s c q hq kq in
      let b = copies-on t d u hu ku in
      (copied-told q.result u.result (a.0 ∙ e.count float n (length xs) ∙ sym b.0), a.1 ∙ e.left (value o) float n (length xs) xs ∙ sym b.1)
