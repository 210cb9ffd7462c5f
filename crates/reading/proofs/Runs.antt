-- Reading ends, and every byte belongs to exactly one item: of any calls that meet the promises of Cursor::new and Cursor::step.
use Prim.Native.Nat.{ℕ, suc, ◌≤◌, ◌<◌}
use mathlib.Core.Path.{◌≡◌, ap, sym, ◌∙◌}
use mathlib.Core.List.{List}
use mathlib.Core.Logic.{◌↔◌}
use native.Mathlib.Omega.{arith}
use lib.ListN.{length}
use Rattle.num.specs.declared.Order.{Order}
use Rattle.reader.specs.Item.{item_said}
use Rattle.reader.specs.Items.{Given, items}
use Rattle.reader.specs.Reading.{ahead}
use Rattle.reader.specs.Step.{Step, new_cursor, after}
use Rattle.reader.specs.declared.Cursor.{Cursor}
use Rattle.reader.specs.declared.Item.TheVariants.{End}
use Rattle.reader.proofs.Told.{item-told}
use Rattle.ending.proofs.Calls.{NewCall, new-met, StepCall}
use Rattle.ending.proofs.Runs.{came, Run, run-after, run-is-step}
use Rattle.reading.specs.Bytes.{Between, Spans, ExactlyOne}
use Rattle.reading.specs.Ends.{Sound, given_at, AnswersItem, AnswersEnd}
use Rattle.reading.proofs.Next.{new-sound}
use Rattle.reading.proofs.Ends.{each, ends, gives-all, ends-exactly}
use Rattle.reading.proofs.Bytes.{between-once, on}

-- what m calls of step from c answer, where gs are the items
pub record AnswersAll (s : List ℕ) (c : Cursor) (m : ℕ) (calls : ℕ → StepCall) (gs : List Given) : Type 0 where
  -- call k answers item k
  pub each : (k : ℕ) → k < m → k < length gs → AnswersItem (calls k).result (given_at gs k)
  -- every call after the last item answers End, and none before it does
  pub ends : (k : ℕ) → k < m → length gs ≤ k → AnswersEnd s (came c calls k) (calls k).result
  pub exactly : (k : ℕ) → k < m → ((calls k).result.item ≡ End) ↔ (length gs ≤ k)
  -- the bytes of item k are those from the place that call k was given to the place that it gave, one at least
  pub spans : (k : ℕ) → k < m → k < length gs → Spans (given_at gs k).item (came c calls k).place (calls k).result.cursor.place
  -- where the calls are enough, every byte from the place of c on lies in the stretch of exactly one call
  pub once : length gs ≤ m → (k : ℕ) → c.place ≤ k → k < length s → ExactlyOne m (λ j. Between (came c calls j).place (calls j).result.cursor.place k)

module _ (o : Order) (s : List ℕ) (c : Cursor) (h : Sound s c) (m : ℕ) (calls : ℕ → StepCall) (r : Run m o s c calls) where
  -- Calls from a cursor that no step refuses answer the items that are ahead of it, one each and in order, and then End.
  pub run-all : AnswersAll s c m calls (ahead o s c)
  run-all =
      let gs = ahead o s c in
      let n : (k : ℕ) → k < m → (calls k).result.cursor ≡ after (suc k) o s c = λ k l. run-after m o s c calls r (suc k) (omega arith) in
      record {
        each = λ k l u.
            let t = run-is-step m o s c calls r k l in
            let w = (each o s k c h u).0 in
            record { item = t.item ∙ w.item; shown = t.shown ∙ w.shown; some = w.some };
        ends = λ k l u.
            let t = run-is-step m o s c calls r k l in
            let w = ends o s k c h u in
            rw (run-after m o s c calls r k (omega arith))
            (record {
              item = item-told (calls k).result.item End (t.item ∙ ap (λ (x : Step). x.item) w.step);
              shown = t.shown ∙ ap (λ (x : Step). x.shown) w.step;
              cursor = t.cursor ∙ ap (λ (x : Step). x.cursor) w.step;
              place = w.place;
            });
        exactly = λ k l.
            let t = run-is-step m o s c calls r k l in
            let w = ends-exactly o s c gs (gives-all o s c h) k in
            (λ e. w.0 (sym t.item ∙ ap item_said e), λ u. item-told (calls k).result.item End (t.item ∙ w.1 u));
        spans = λ k l u. rw (run-after m o s c calls r k (omega arith), (run-is-step m o s c calls r k l).cursor) (each o s k c h u).1;
        once = λ u k l v.
            let e : (came c calls m).place ≡ length s = rw (run-after m o s c calls r m (omega arith)) (ends o s m c h u).place in
            between-once (λ j. (came c calls j).place) k m
            (λ j i. rw (run-after m o s c calls r j (omega arith), n j i) (on o s c h j))
            l
            (omega arith);
      }

-- Calls of step from the cursor of a call of new answer the items of the stream, one each and in order, and then End; and
-- every byte of the stream lies in the stretch of exactly one of them.
pub new-run-all : (o : Order) (s : List ℕ) (start : NewCall) (m : ℕ) (calls : ℕ → StepCall) → Run m o s start.result calls → AnswersAll s start.result m calls (items o s)
new-run-all o s start m calls r = rw (new-met start) (run-all o s new_cursor (new-sound s) m calls (rw (← new-met start) r))
