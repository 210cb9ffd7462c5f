-- One ending, whatever came before it: items, cursors and samples from the first chunk that a searching reader accepts.
use Prim.Native.Nat.{ℕ, suc, ◌+◌, ◌≤◌}
use mathlib.Core.Path.{◌≡◌, refl, ap, sym, ◌∙◌}
use mathlib.Core.Bool.{false}
use mathlib.Core.List.{List, [], ◌++◌, map}
use native.Mathlib.Omega.{arith}
use lib.ListN.{length}
use lib.Seq.{drop-append_seam}
use Rattle.num.specs.declared.Order.{Order}
use Rattle.frame.specs.Place.{shows}
use Rattle.frame.specs.declared.At.TheVariants.{Complete}
use Rattle.frame.proofs.Theorems.{Clean, clean-beginning}
use Rattle.reader.specs.Items.{Given, items}
use Rattle.reader.specs.Reading.{reading}
use Rattle.reader.specs.Step.{Step, new_cursor, step_of, after}
use Rattle.reader.specs.declared.Cursor.{Cursor}
use Rattle.reader.proofs.Theorems.{after-suc}
use Rattle.ending.specs.Ending.{since, onto, given_by, cursor_by, step_counted, AcceptsFirstAt, lead, from_chunk}
use Rattle.ending.proofs.Moved.{given-back, step-back}
use Rattle.ending.proofs.Accepted.{AsIn, as-in, first-items}
use Rattle.ending.proofs.Copied.{SameCopies, copies-as, copies-sym, copies-trans}

-- the items that the steps from a cursor give, to the end of the stream; and those from the first chunk on
abbrev pub given_from : Order → List ℕ → Cursor → List Given
given_from o s c = reading (suc (length s)) o s c

abbrev pub given_on : Order → List ℕ → Cursor → List Given
given_on o s c = from_chunk (given_from o s c)

-- the cursor at the first chunk that a searching reader accepts, which stands at p, and k steps on
abbrev pub later : ℕ → Order → List ℕ → ℕ → Cursor → Cursor
later k o s p c = after (lead p c + k) o s c

module _ (o : Order) (x l : List ℕ) (c : Cursor) (f : AcceptsFirstAt o (x ++ l) c (length x)) where
  -- read alone, the ending has that chunk first
  pub alone-first : AcceptsFirstAt o l new_cursor 0
  alone-first =
      let e : shows o l ≡ Complete f.code f.size = rw (drop-append_seam x l) at f.complete in
      record { searching = refl; stopped = clean-beginning o [] l f.code f.size 0 (λ k h. absurd (omega arith)) e (omega arith); code = f.code; size = f.size; complete = e }

  -- each cursor of the reader gives what the cursor after as many steps gives in the ending alone, and has the same bytes ahead
  pub as-alone : (k : ℕ) → AsIn o (length x) (x ++ l) (later k o (x ++ l) (length x) c) l (after k o l new_cursor)
  as-alone k = rw (drop-append_seam x l) at (as-in o (x ++ l) c (length x) f k)

  -- the items are those that the ending gives alone, each place as far on as the beginning is long
  pub ending-items : given_on o (x ++ l) c ≡ map (given_by (onto (length x))) (items o l)
  ending-items = rw (drop-append_seam x l) at (first-items o (x ++ l) c (length x) f)

  -- so, counted from the start of the ending, they are just those
  pub ending-alone : map (given_by (since (length x))) (given_on o (x ++ l) c) ≡ items o l
  ending-alone = ap (map (given_by (since (length x)))) ending-items ∙ given-back (length x) (items o l)

  -- so is each step: the answer, the state shown, the cursor that it leaves
  pub steps-alone : (k : ℕ) → step_counted (since (length x)) (step_of o (x ++ l) (later k o (x ++ l) (length x) c)) ≡ step_of o l (after k o l new_cursor)
  steps-alone k = ap (step_counted (since (length x))) (as-alone k).step ∙ step-back (length x) (step_of o l (after k o l new_cursor))

  -- the cursor after each item
  pub cursors-alone : (k : ℕ) → cursor_by (since (length x)) (later (suc k) o (x ++ l) (length x) c) ≡ after (suc k) o l new_cursor
  cursors-alone k =
      let n = lead (length x) c in
      let q : n + suc k ≡ suc (n + k) = omega arith in
      rw (q, after-suc (n + k) o (x ++ l) c) (ap (λ (t : Step). t.cursor) (steps-alone k) ∙ sym (after-suc k o l new_cursor))

  -- and what each copying call answers and leaves, before each item
  pub samples-alone : (k : ℕ) → SameCopies o (x ++ l) (later k o (x ++ l) (length x) c) l (after k o l new_cursor)
  samples-alone k = copies-as o (length x) (x ++ l) (later k o (x ++ l) (length x) c) l (after k o l new_cursor) (as-alone k)

-- Two streams with one ending, in which the first chunk that each reader accepts begins the ending.
module _ (o : Order) (x y l : List ℕ) (c d : Cursor)
    (f : AcceptsFirstAt o (x ++ l) c (length x)) (g : AcceptsFirstAt o (y ++ l) d (length y)) where
  -- from there on both give the same items, with places counted from where the ending starts
  pub common-ending : map (given_by (since (length x))) (given_on o (x ++ l) c) ≡ map (given_by (since (length y))) (given_on o (y ++ l) d)
  common-ending = ending-alone o x l c f ∙ sym (ending-alone o y l d g)

  pub same-steps : (k : ℕ) →
      step_counted (since (length x)) (step_of o (x ++ l) (later k o (x ++ l) (length x) c))
      ≡ step_counted (since (length y)) (step_of o (y ++ l) (later k o (y ++ l) (length y) d))
  same-steps k = steps-alone o x l c f k ∙ sym (steps-alone o y l d g k)

  pub same-cursors : (k : ℕ) →
      cursor_by (since (length x)) (later (suc k) o (x ++ l) (length x) c) ≡ cursor_by (since (length y)) (later (suc k) o (y ++ l) (length y) d)
  same-cursors k = cursors-alone o x l c f k ∙ sym (cursors-alone o y l d g k)

  pub same-samples : (k : ℕ) → SameCopies o (x ++ l) (later k o (x ++ l) (length x) c) (y ++ l) (later k o (y ++ l) (length y) d)
  same-samples k = copies-trans (samples-alone o x l c f k) (copies-sym (samples-alone o y l d g k))

-- No sync word starts in the beginning, and a complete chunk stands at the start of the ending: a searching reader anywhere in
-- the beginning accepts it first.
module _ (o : Order) (x l : List ℕ) (code size : ℕ) (h : Clean o x l) (e : shows o l ≡ Complete code size) (c : Cursor)
    (k : c.in_step ≡ false) (q : c.place ≤ length x) where
  pub clean-beginning-first : AcceptsFirstAt o (x ++ l) c (length x)
  clean-beginning-first = record {
    searching = k;
    stopped = clean-beginning o x l code size c.place h e q;
    code = code;
    size = size;
    complete = rw (drop-append_seam x l) e;
  }

  -- so from there on it gives what the ending gives alone
  pub clean-beginning-items : map (given_by (since (length x))) (given_on o (x ++ l) c) ≡ items o l
  clean-beginning-items = ending-alone o x l c clean-beginning-first
