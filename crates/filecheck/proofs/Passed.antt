-- What the check makes of one frame, in the words of the rules: it passes, or this is wrong with it.
use Prim.Native.Nat.{ℕ, ◌+◌, ◌<◌}
use mathlib.Core.Path.{◌≡◌, refl, ap, subst, sym, ◌∙◌}
use mathlib.Core.Bool.{Bool, true, false, false≢true}
use mathlib.Core.List.{List, ◌∷◌}
use mathlib.Core.Logic.{◌↔◌, ◌⊎◌, inl, inr, ⊎_elim}
use native.Mathlib.Omega.{arith}
use denote.Enum.Declared.{tag_of}
use lib.ListN.{length}
use Rattle.num.specs.Answer.{Answer, gives, refuses}
use Rattle.num.specs.Choice.{pick, either}
use Rattle.num.specs.declared.Order.{Order}
use Rattle.frame.specs.Frames.{Frame, chunk, of_chunk, width}
use Rattle.frame.proofs.Looks.{frame-by, other-made}
use Rattle.body.specs.Kind.{kind_of}
use Rattle.body.specs.declared.kinds.Kind.TheVariants.{SOFH, EOFH}
use Rattle.filecheck.specs.File.{FileAnswer, refused, part_of, well_formed, begins, passes, then_rest, file_from, file_by}
use Rattle.filecheck.specs.Due.{OfKind, WellFormed, IsData, NoChunk}
use Rattle.filecheck.specs.declared.Part.{Part}
use Rattle.filecheck.specs.declared.Part.TheVariants.{Data, Header, HeaderEnd, Other}
use Rattle.filecheck.specs.contracts.Part as Part
use Rattle.filecheck.proofs.Parts.{Says, says, apart, is-sofh, is-eofh, is-data}

-- what the check makes of a frame after the first: whether the header is ended after it, or the number of a refusal
abbrev pub turn_of : Order → Bool → Frame → Answer Bool
turn_of o ended f = of_chunk (refuses 44) (λ code body. passes (part_of (kind_of code)) ended (well_formed o code body)) f

-- the check of some frames, by what it makes of the first of them
pub turn-first : (o : Order) (n place : ℕ) (ended : Bool) (f : Frame) (rest : List Frame) →
    file_from o n place ended (f ∷ rest) ≡ then_rest place (turn_of o ended f) (λ next. file_from o (n + 1) (place + width f) next rest)
unfolding file_from
turn-first o n place ended f rest =
    frame-by (λ (g : Frame). file_from o n place ended (g ∷ rest) ≡ then_rest place (turn_of o ended g) (λ next. file_from o (n + 1) (place + width g) next rest))
    (λ code body. let q : place + 12 + length body ≡ place + (12 + length body) = omega arith in rw q)
    (λ g e. other-made _ _ g e ∙ sym (ap (λ (a : Answer Bool). then_rest place a (λ next. file_from o (n + 1) (place + width g) next rest)) (other-made _ _ g e)))
    f

-- nothing is wrong with a frame that has the number k, the header being ended before it or not, and next after it
pub record Passed (o : Order) (k : ℕ) (ended : Bool) (f : Frame) (next : Bool) : Type 0 where
  pub chunk : NoChunk f → ⊥
  pub single : 0 < k → OfKind SOFH f → ⊥
  pub late : IsData f → ended ≡ true
  pub after : next ≡ true ↔ (ended ≡ true) ⊎ WellFormed o EOFH f

-- one of two tests holds, where it is known what the second one stands for
either-true : {A : Type 0} (a b : Bool) → A → either a b ≡ true ↔ (a ≡ true) ⊎ (A × (b ≡ true))
either-true true b x = (λ h. inl refl, λ h. refl)
either-true false b x = (λ h. inr (x, h), ⊎_elim (λ h. absurd (false≢true h)) (λ h. h.1))

-- the part of a chunk, by its number: 0 is data, 1 a header, 2 a header's end
module _ (o : Order) (code : ℕ) (body : List ℕ) where
  passed : (k : ℕ) (p : Part) (ended next : Bool) → part_of (kind_of code) ≡ p → (tag_of Part.the_type p ≡ 1 → 0 < k → ⊥) → (tag_of Part.the_type p ≡ 0 → ended ≡ true) →
      (next ≡ true ↔ (ended ≡ true) ⊎ WellFormed o EOFH (chunk code body)) → Passed o k ended (chunk code body) next
  passed k p ended next e h d a = record {
    chunk = λ i. false≢true (sym i);
    single = λ l i. h (apart (kind_of code) p Header e (is-sofh (kind_of code) i)) l;
    late = λ i. d (apart (kind_of code) p Data e (is-data (kind_of code) i));
    after = a;
  }

  -- a chunk that is no header's end leaves it as it was
  as-before : (p : Part) (ended : Bool) → part_of (kind_of code) ≡ p → (tag_of Part.the_type p ≡ 2 → ⊥) → ended ≡ true ↔ (ended ≡ true) ⊎ WellFormed o EOFH (chunk code body)
  as-before p ended e h = (λ i. inl i, ⊎_elim (λ i. i) (λ i. absurd (h (apart (kind_of code) p HeaderEnd e (is-eofh (kind_of code) i.0)))))

  -- a chunk after the first, by its part
  chunk-turned : (k : ℕ) (X : Answer Bool → Type 0) (p : Part) (ended : Bool) → part_of (kind_of code) ≡ p → Says p (kind_of code) →
      ((next : Bool) → Passed o k ended (chunk code body) next → X (gives next)) → (IsData (chunk code body) → ended ≡ false → X (refuses 42)) →
      (OfKind SOFH (chunk code body) → X (refuses 43)) → X (passes p ended (well_formed o code body))
  chunk-turned k X Data true e i pass early second =
      pass true (passed k Data true true e (λ h. absurd (omega arith)) (λ h. refl) (as-before Data true e (λ h. omega arith)))
  chunk-turned k X Data false e i pass early second = early i refl
  chunk-turned k X Header ended e i pass early second = second i
  chunk-turned k X HeaderEnd ended e i pass early second =
      let w = well_formed o code body in
      pass (either ended w) (passed k HeaderEnd ended (either ended w) e (λ h. absurd (omega arith)) (λ h. absurd (omega arith)) (either-true ended w i))
  chunk-turned k X Other ended e i pass early second =
      pass ended (passed k Other ended ended e (λ h. absurd (omega arith)) (λ h. absurd (omega arith)) (as-before Other ended e (λ h. omega arith)))

  no-header : (p : Part) → part_of (kind_of code) ≡ p → (tag_of Part.the_type p ≡ 1 → ⊥) → WellFormed o SOFH (chunk code body) → ⊥
  no-header p e h i = h (apart (kind_of code) p Header e (is-sofh (kind_of code) i.0))

  -- the first chunk, by its part and by whether it is well-formed
  chunk-headed : (X : FileAnswer → Type 0) (a b : FileAnswer) (p : Part) (w : Bool) → part_of (kind_of code) ≡ p → Says p (kind_of code) → well_formed o code body ≡ w →
      (WellFormed o SOFH (chunk code body) → Passed o 0 false (chunk code body) false → X a) → ((WellFormed o SOFH (chunk code body) → ⊥) → X b) → X (pick (begins p w) a b)
  chunk-headed X a b Header true e i j well other =
      well (i, j) (passed 0 Header false false e (λ h l. omega arith) (λ h. absurd (omega arith)) (as-before Header false e (λ h. omega arith)))
  chunk-headed X a b Header false e i j well other = other (λ h. false≢true (sym j ∙ h.1))
  chunk-headed X a b Data w e i j well other = other (no-header Data e (λ h. omega arith))
  chunk-headed X a b HeaderEnd w e i j well other = other (no-header HeaderEnd e (λ h. omega arith))
  chunk-headed X a b Other w e i j well other = other (no-header Other e (λ h. omega arith))

module _ (o : Order) (f : Frame) where
  -- A frame after the first passes, or it is data before the header's end, a header, or no chunk: what holds of what the check makes of it
  -- in each of these cases holds of what it makes of it.
  pub turned : (k : ℕ) (X : Answer Bool → Type 0) (ended : Bool) → ((next : Bool) → Passed o k ended f next → X (gives next)) →
      (IsData f → ended ≡ false → X (refuses 42)) → (OfKind SOFH f → X (refuses 43)) → (NoChunk f → X (refuses 44)) → X (turn_of o ended f)
  turned k X ended =
      frame-by (λ (g : Frame). ((next : Bool) → Passed o k ended g next → X (gives next)) →
      (IsData g → ended ≡ false → X (refuses 42)) → (OfKind SOFH g → X (refuses 43)) → (NoChunk g → X (refuses 44)) → X (turn_of o ended g))
      (λ code body pass early second other. chunk-turned o code body k X (part_of (kind_of code)) ended refl (says code) pass early second)
      (λ g e pass early second other. rw (other-made (refuses 44) (λ code body. passes (part_of (kind_of code)) ended (well_formed o code body)) g e) (other e))
      f

  -- The first frame is a well-formed SOFH, or it is not: what holds of the answer in both cases holds of the answer.
  pub headed : (X : FileAnswer → Type 0) (rest : List Frame) → (WellFormed o SOFH f → Passed o 0 false f false → X (file_from o 1 (width f) false rest)) →
      ((WellFormed o SOFH f → ⊥) → X (refused 41 0)) → X (file_by o (f ∷ rest))
  headed X rest =
      frame-by (λ (g : Frame). (WellFormed o SOFH g → Passed o 0 false g false → X (file_from o 1 (width g) false rest)) →
      ((WellFormed o SOFH g → ⊥) → X (refused 41 0)) → X (file_by o (g ∷ rest)))
      (λ code body well other. chunk-headed o code body X _ _ (part_of (kind_of code)) (well_formed o code body) refl (says code) refl well other)
      (λ g e well other. rw (other-made (refused 41 0) _ g e) (other (λ h. subst (λ (t : Type 0). t) (other-made ⊥ _ g e) h)))
      f
