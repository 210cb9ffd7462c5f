-- Every answer of Cursor::step is given exactly when it is due: of any call that meets the promise.
use Prim.Native.Nat.{ℕ}
use mathlib.Core.Path.{◌≡◌, ap, sym, ◌∙◌}
use mathlib.Core.List.{List}
use mathlib.Core.Logic.{◌↔◌}
use Rattle.num.specs.declared.Order.{Order}
use Rattle.effect.specs.Says.{verdict_said}
use Rattle.effect.specs.declared.Verdict.{Verdict}
use Rattle.reader.specs.Item.{item_said}
use Rattle.reader.specs.declared.Cause.{Cause}
use Rattle.reader.specs.declared.Cursor.{Cursor}
use Rattle.reader.specs.declared.Item as declared
use Rattle.reader.specs.declared.Item.TheVariants.{PastEnd, BadState, End, Skipped, Unfinished, Chunk}
use Rattle.reader.proofs.Told.{item-told}
use Rattle.ending.proofs.Calls.{StepCall, StepOn, step-met}
use Rattle.reading.specs.Due.{PastEndDue, BadStateDue, EndDue, SkippedDue, UnfinishedDue, ChunkDue, Due}
use Rattle.reading.proofs.Due.{due-exactly}

-- a call of step, from c, in the order o, on a slice that holds s
module _ (o : Order) (s : List ℕ) (c : Cursor) (a : StepCall) (on : StepOn o s c a) where
  -- The call answers a case of the enum exactly when what that case says is due.
  pub answer-exactly : (i : declared.Item) → (a.result.item ≡ i) ↔ Due o s c (item_said i)
  answer-exactly i =
      let t = (step-met o s c a on).item in
      let w = due-exactly o s c (item_said i) in
      (λ e. w.0 (sym t ∙ ap item_said e), λ d. item-told a.result.item i (t ∙ w.1 d))

  -- Case by case: number 2, number 3, End, a skipped stretch, an unfinished end and a chunk.
  pub past-end-exactly : (a.result.item ≡ PastEnd) ↔ PastEndDue s c
  past-end-exactly = answer-exactly PastEnd

  pub bad-state-exactly : (a.result.item ≡ BadState) ↔ BadStateDue s c
  bad-state-exactly = answer-exactly BadState

  pub end-exactly : (a.result.item ≡ End) ↔ EndDue s c
  end-exactly = answer-exactly End

  pub skipped-exactly : (p n : ℕ) (cause : Cause) → (a.result.item ≡ Skipped p n cause) ↔ SkippedDue o s c p n cause
  skipped-exactly p n cause = answer-exactly (Skipped p n cause)

  pub unfinished-exactly : (p n : ℕ) → (a.result.item ≡ Unfinished p n) ↔ UnfinishedDue o s c p n
  unfinished-exactly p n = answer-exactly (Unfinished p n)

  pub chunk-exactly : (p code size : ℕ) (v : Verdict) → (a.result.item ≡ Chunk p code size v) ↔ ChunkDue o s c p code size (verdict_said v)
  chunk-exactly p code size v = answer-exactly (Chunk p code size v)
