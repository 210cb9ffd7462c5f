-- The values of a cursor, carried over frames, are those of the last chunks.
use Prim.Native.Nat.{ℕ, ◌≤◌}
use mathlib.Core.Path.{◌≡◌, refl, sym, ◌∙◌}
use mathlib.Core.Bool.{Bool, true, false}
use mathlib.Core.List.{List, [], ◌∷◌, foldl}
use native.Mathlib.Omega.{arith}
use lib.ListN.{length, take, drop}
use Rattle.num.specs.Choice.{pick}
use Rattle.num.specs.declared.Order.{Order}
use Rattle.frame.specs.Frames.{Frame, frames}
use Rattle.frame.proofs.Looks.{frame-by, other-made}
use Rattle.body.specs.Kind.{kind_of}
use Rattle.body.specs.Table.{Slot, none, Row, sets, marks, leaves, samples, unknown, row, set_by}
use Rattle.body.specs.declared.kinds.Kind.{Kind}
use Rattle.state.specs.State.{value_in}
use Rattle.state.specs.declared.State.{State}
use Rattle.state.proofs.Slots.{in-built, same-values}
use Rattle.effect.specs.Ready.{no_state}
use Rattle.effect.specs.Effect.{effect_by, effect}
use Rattle.effect.proofs.Slots.{keeps, owns}
use Rattle.reader.specs.Step.{new_cursor, before, after, Fit}
use Rattle.reader.specs.declared.Cursor.{Cursor}
use Rattle.reader.proofs.Theorems.{new-fit}
use Rattle.reader.proofs.Summed.{before-summed, after-summed}
use Rattle.decides.specs.Last.{is_skipped, Last, nothing, set, last_after, value_by, value_of, last_value, last_values}
use Rattle.decides.specs.Past.{found, past}
use Rattle.decides.proofs.Past.{after-past}

module _ (o : Order) (x : Slot) where
  -- a chunk that sets the slot leaves its own value there, from every state
  row-alone : (r : Row) (b : List ℕ) → value_in x (effect_by r o b no_state).after.values ≡ value_by r o b x
  row-alone (sets y hold read) b = refl
  row-alone (marks read) b = in-built none x
  row-alone (leaves read) b = in-built none x
  row-alone (samples shape) b = in-built none x
  row-alone unknown b = in-built none x

  alone : (k : Kind) (b : List ℕ) → value_in x (effect o k b no_state).after.values ≡ value_by (row k) o b x
  unfolding effect
  alone k b = row-alone (row k) b

  -- one frame more
  chunk-by : (code : ℕ) (b : List ℕ) (s : State) (l : Last) (t : Bool) → set_by (kind_of code) x ≡ t → value_in x s.values ≡ value_of o x l →
      value_in x (effect o (kind_of code) b s).after.values ≡ value_of o x (pick t (set code b) l)
  chunk-by code b s l true h e = owns o b (kind_of code) s no_state x h ∙ alone (kind_of code) b
  chunk-by code b s l false h e = keeps o b (kind_of code) s x h ∙ e

  other-by : (c : Cursor) (l : Last) (t : Bool) → value_in x (found c).values ≡ value_of o x l →
      value_in x (before (pick t false c.in_step) c.state).values ≡ value_of o x (pick t nothing l)
  other-by c l true e = in-built none x
  other-by c l false e = e

  past-last : (c : Cursor) (l : Last) (f : Frame) → value_in x (found c).values ≡ value_of o x l → value_in x (found (past o c f)).values ≡ value_of o x (last_after x l f)
  past-last c l f =
      frame-by (λ (g : Frame). value_in x (found c).values ≡ value_of o x l → value_in x (found (past o c g)).values ≡ value_of o x (last_after x l g))
      (λ code b e. chunk-by code b (found c) l (set_by (kind_of code) x) refl e)
      (λ g n e.
      rw (other-made (pick (is_skipped g) false c.in_step) (λ code body. true) g n, other-made c.state (λ code body. (effect o (kind_of code) body (found c)).after) g n, other-made l (λ code body. pick (set_by (kind_of code) x) (set code body) l) g n)
      (other-by c l (is_skipped g) e))
      f

  fold-last : (c : Cursor) (l : Last) (fs : List Frame) → value_in x (found c).values ≡ value_of o x l →
      value_in x (found (foldl (past o) c fs)).values ≡ value_of o x (foldl (last_after x) l fs)
  fold-last c l [] e = e
  fold-last c l (f ∷ fs) e = fold-last (past o c f) (last_after x l f) fs (past-last c l f e)

  -- Where the value that a chunk would find at a cursor is that of l, which is a chunk or none, the value that it would find k steps
  -- on is that of the last chunk that sets it, and of l if none of those passed does.
  pub carried-last : (k : ℕ) (s : List ℕ) (c : Cursor) (l : Last) → Fit c → c.place ≤ length s → value_in x (found c).values ≡ value_of o x l →
      value_in x (found (after k o s c)).values ≡ value_of o x (foldl (last_after x) l (take k (frames o (drop c.place s))))
  carried-last k s c l f h e = rw (after-past k o s c f h) (fold-last c l (take k (frames o (drop c.place s))) e)

module _ (o : Order) (s : List ℕ) (k : ℕ) where
  -- A chunk that is item k of a stream, read from a new cursor, finds in each slot the value of the last chunk that sets it since the
  -- step was regained.
  pub found-last : (x : Slot) → value_in x (found (after k o s new_cursor)).values ≡ last_value o (take k (frames o s)) x
  found-last x = carried-last o x k s new_cursor nothing new-fit (omega arith) (in-built none x)

  -- So a cursor that is in step after k steps holds just these values.
  pub cursor-last : (after k o s new_cursor).in_step ≡ true → (x : Slot) → value_in x (after k o s new_cursor).state.values ≡ last_value o (take k (frames o s)) x
  cursor-last e x = rw e at (found-last x)

  -- The same of all slots at once, and of the sums: they are those of the last dBTG and the last gains.
  pub found-values : (found (after k o s new_cursor)).values ≡ last_values o (take k (frames o s))
  found-values =
      same-values (found (after k o s new_cursor)).values (last_values o (take k (frames o s)))
      (before-summed (after k o s new_cursor).in_step (after k o s new_cursor).state (after-summed k o s new_cursor refl)) refl
      (λ x. found-last x ∙ sym (in-built (last_value o (take k (frames o s))) x))
