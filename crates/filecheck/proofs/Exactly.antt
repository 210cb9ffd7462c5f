-- One answer is due, so the check of a file gives each answer exactly where it is due.
use Prim.Native.Nat.{ℕ, ◌≤◌}
use mathlib.Core.Path.{◌≡◌, refl, ap, subst, sym, ◌∙◌}
use mathlib.Core.Bool.{Bool, true, false}
use mathlib.Core.List.{List, [], ◌∷◌}
use mathlib.Core.Logic.{◌↔◌, ◌⊎◌, inl, inr, ⊎_elim}
use native.Mathlib.Omega.{arith}
use lib.Dec.{eqb, ltb}
use lib.ListN.{length, take, drop, drop_of_length-le}
use lib.Seq.{take-length}
use borrow.Author.Tests.{eqb-true, ltb-true, ltb-false}
use Rattle.num.specs.Answer.{refuses, refusal}
use Rattle.num.specs.Choice.{pick}
use Rattle.num.specs.declared.Order.{Order}
use Rattle.frame.specs.Frames.{Frame, chunk, of_chunk, frames, covered}
use Rattle.frame.proofs.Looks.{frame-by, other-made}
use Rattle.frame.proofs.Theorems.{covered-whole}
use Rattle.body.specs.Kind.{kind_of}
use Rattle.body.specs.declared.kinds.Kind.TheVariants.{SOFH}
use Rattle.filecheck.specs.File.{FileAnswer, good, refused, part_of, well_formed, passes, file_of}
use Rattle.filecheck.specs.Due.{OfKind, IsData, NoChunk, First, Stands, Begins, GoodFile, Wrong, FirstWrong, Due}
use Rattle.filecheck.specs.declared.Part.{Part}
use Rattle.filecheck.specs.declared.Part.TheVariants.{Data, Header}
use Rattle.filecheck.proofs.Parts.{is-sofh, is-data}
use Rattle.filecheck.proofs.Passed.{turn_of}
use Rattle.filecheck.proofs.Due.{by-number, right-not, due}

-- ---- one thing is wrong at a number

module _ (o : Order) where
  -- the number of the refusal of a frame while the header is not ended, and of the end; 0 is that of none
  abbrev refusal_of : Frame → ℕ
  refusal_of f = refusal (turn_of o false f)

  abbrev refusal_at : List Frame → ℕ
  refusal_at [] = 42
  refusal_at (f ∷ rest) = refusal_of f

  -- of a chunk, by its part
  by-part : (code : ℕ) (body : List ℕ) (p : Part) → part_of (kind_of code) ≡ p → refusal_of (chunk code body) ≡ refusal (passes p false (well_formed o code body))
  by-part code body p e = ap (λ (q : Part). refusal (passes q false (well_formed o code body))) e

  -- what is said of chunks alone is said of no other frame
  only-chunks : (said : ℕ → List ℕ → Type 0) (n : ℕ) → ((code : ℕ) (body : List ℕ) → said code body → refusal_of (chunk code body) ≡ n) →
      (f : Frame) → of_chunk ⊥ said f → refusal_of f ≡ n
  only-chunks said n h = frame-by (λ (f : Frame). of_chunk ⊥ said f → refusal_of f ≡ n) h (λ f e i. absurd (subst (λ (t : Type 0). t) (other-made ⊥ said f e) i))

  at-first : (P : Frame → Type 0) (n : ℕ) → ((f : Frame) → P f → refusal_of f ≡ n) → (l : List Frame) → First P l → refusal_at l ≡ n
  at-first P n h [] i = absurd i
  at-first P n h (f ∷ rest) i = h f i

  wrong-told : (fs : List Frame) (k n : ℕ) → Wrong o fs n k → refusal_at (drop k fs) ≡ n
  wrong-told fs k n =
      by-number (λ (m : ℕ). refusal_at (drop k fs) ≡ m) n
      (λ h. ⊎_elim (at-first IsData 42 (only-chunks _ 42 (λ code body i. by-part code body Data (is-data (kind_of code) i))) (drop k fs))
      (λ e. ap refusal_at (drop_of_length-le fs {i = k} (omega (arith, e)))) h.0)
      (λ h. at-first (OfKind SOFH) 43 (only-chunks _ 43 (λ code body i. by-part code body Header (is-sofh (kind_of code) i))) (drop k fs) h.1)
      (at-first NoChunk 44 (λ f e. ap refusal (other-made (refuses 44) _ f e)) (drop k fs))

-- ---- one answer is due

module _ (o : Order) (fs : List Frame) where
  no-later : (n p m q : ℕ) (x : FirstWrong o fs n p) (y : FirstWrong o fs m q) (b : Bool) → ltb y.at x.at ≡ b → x.at ≤ y.at
  no-later n p m q x y true e = absurd (x.first m y.at (ltb-true y.at x.at e) y.wrong)
  no-later n p m q x y false e = ltb-false y.at x.at e

  one-first : (n p m q : ℕ) → FirstWrong o fs n p → FirstWrong o fs m q → refused n p ≡ refused m q
  one-first n p m q x y =
      let i : x.at ≡ y.at = omega (arith, no-later n p m q x y (ltb y.at x.at) refl, no-later m q n p y x (ltb x.at y.at) refl) in
      let j : n ≡ m = sym (wrong-told o fs x.at n x.wrong) ∙ ap (λ (k : ℕ). refusal_at o (drop k fs)) i ∙ wrong-told o fs y.at m y.wrong in
      let k : p ≡ q = sym x.place ∙ ap (λ (k : ℕ). covered (take k fs)) i ∙ y.place in
      rw (j, k)

by-41 : {A B : Type 0} (n : ℕ) (b : Bool) → eqb n 41 ≡ b → pick b A B → ((n ≡ 41) × A) ⊎ B
by-41 n true e h = inl (eqb-true n 41 e, h)
by-41 n false e h = inr h

module _ (o : Order) (s : List ℕ) where
  -- a refusal is due: with 41, or with the first thing wrong
  abbrev Refused : ℕ → ℕ → Type 0
  Refused n p = ((n ≡ 41) × ((Begins o (frames o s) → ⊥) × (p ≡ 0))) ⊎ (Begins o (frames o s) × FirstWrong o (frames o s) n p)

  refused-due : (n p : ℕ) → Due o s (refused n p) → Refused n p
  refused-due n p = by-41 n (eqb n 41) refl

  one-refused : (n p m q : ℕ) → Refused n p → Refused m q → refused n p ≡ refused m q
  one-refused n p m q (inl x) (inl y) = rw (x.0, x.1.1, y.0, y.1.1)
  one-refused n p m q (inl x) (inr y) = absurd (x.1.0 y.0)
  one-refused n p m q (inr x) (inl y) = absurd (y.1.0 x.0)
  one-refused n p m q (inr x) (inr y) = one-first o (frames o s) n p m q x.1 y.1

  -- a good file is not refused
  not-both : (n p : ℕ) → GoodFile o (frames o s) → Refused n p → ⊥
  not-both n p g (inl x) = x.1.0 g.begins
  not-both n p g (inr x) =
      let k = x.1.at in
      right-not o (frames o s) k n (record { ended = g.ended k; single = g.single k; chunk = g.chunks k }) x.1.wrong

  one-due : (a b : FileAnswer) → Due o s a → Due o s b → a ≡ b
  one-due (good n) (good m) x y = ap good (x.1 ∙ sym y.1)
  one-due (good n) (refused m q) x y = absurd (not-both m q x.0 (refused-due m q y))
  one-due (refused n p) (good m) x y = absurd (not-both n p y.0 (refused-due n p x))
  one-due (refused n p) (refused m q) x y = one-refused n p m q (refused-due n p x) (refused-due m q y)

  -- The check of a file gives an answer exactly where it is due.
  pub file-exactly : (a : FileAnswer) → file_of o s ≡ a ↔ Due o s a
  file-exactly a = (λ e. subst (Due o s) e (due o s), λ h. one-due (file_of o s) a (due o s) h)

-- ---- the end of a file

-- The end of the file, which has the number after the last frame, stands at the length of the file.
pub end-place : (o : Order) (s : List ℕ) → covered (take (length (frames o s)) (frames o s)) ≡ length s
end-place o s = ap covered (take-length (frames o s)) ∙ covered-whole o s

-- So 42 is given at a data chunk or at the length of the file.
pub early-place : (o : Order) (s : List ℕ) (p : ℕ) (h : FirstWrong o (frames o s) 42 p) → Stands IsData (frames o s) h.at ⊎ (p ≡ length s)
early-place o s p h =
    ⊎_elim (λ d. inl d) (λ e. inr (sym h.place ∙ ap (λ (k : ℕ). covered (take k (frames o s))) e ∙ end-place o s)) h.wrong.0
