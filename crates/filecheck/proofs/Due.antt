-- The check of a file says what is due: one frame after the other passes, up to the first that is wrong or to the end.
use Prim.Native.Nat.{ℕ, zero, suc, ◌+◌, ◌<◌}
use mathlib.Core.Path.{◌≡◌, refl, ap, subst, sym, ◌∙◌}
use mathlib.Core.Bool.{Bool, true, false, false≢true}
use mathlib.Core.List.{List, [], ◌∷◌}
use mathlib.Core.Logic.{◌↔◌, ◌⊎◌, inl, inr, ⊎_elim}
use native.Mathlib.Nat.{zero-add}
use native.Mathlib.Numerals.{add-one}
use native.Mathlib.Omega.{arith}
use lib.Dec.{eqb}
use lib.ListN.{length, take, drop}
use lib.Seq.{drop-drop}
use borrow.Author.Tests.{eqb-true, eqb-false}
use Rattle.num.specs.Answer.{Answer}
use Rattle.num.specs.Choice.{pick}
use Rattle.num.specs.declared.Order.{Order}
use Rattle.frame.specs.Frames.{Frame, width, frames, covered}
use Rattle.body.specs.declared.kinds.Kind.TheVariants.{SOFH, EOFH}
use Rattle.reader.proofs.Theorems.{items-length}
use Rattle.filecheck.specs.File.{good, refused, then_rest, file_from, file_by, file_of}
use Rattle.filecheck.specs.Due.{OfKind, WellFormed, IsData, NoChunk, First, Stands, Begins, HeaderEnded, DataOrEnd, Wrong, FirstWrong, Due}
use Rattle.filecheck.proofs.Passed.{Passed, turn-first, turned, headed}

-- ---- what is wrong, by its number

module _ {A B C : Type 0} (P : ℕ → Type 0) (n : ℕ) (a : A → P 42) (b : B → P 43) (c : C → P 44) where
  number-by : (x y z : Bool) → eqb n 42 ≡ x → eqb n 43 ≡ y → eqb n 44 ≡ z → pick x A (pick y B (pick z C ⊥)) → P n
  number-by true y z i j k h = rw (eqb-true n 42 i) (a h)
  number-by false true z i j k h = rw (eqb-true n 43 j) (b h)
  number-by false false true i j k h = rw (eqb-true n 44 k) (c h)
  number-by false false false i j k h = absurd h

  pub by-number : pick (eqb n 42) A (pick (eqb n 43) B (pick (eqb n 44) C ⊥)) → P n
  by-number h = number-by (eqb n 42) (eqb n 43) (eqb n 44) refl refl refl h

-- nothing is wrong at the number k
pub record Right (o : Order) (fs : List Frame) (k : ℕ) : Type 0 where
  pub ended : DataOrEnd fs k → HeaderEnded o fs k
  pub single : 0 < k → Stands (OfKind SOFH) fs k → ⊥
  pub chunk : Stands NoChunk fs k → ⊥

-- so no number is that of something wrong there
pub right-not : (o : Order) (fs : List Frame) (k n : ℕ) → Right o fs k → Wrong o fs n k → ⊥
right-not o fs k n r = by-number (λ (m : ℕ). ⊥) n (λ h. h.1 (r.ended h.0)) (λ h. r.single h.0 h.1) r.chunk

-- ---- numbers and places

-- what holds below k, and of k, holds below the next
upto-by : (P : ℕ → Type 0) (k j : ℕ) (b : Bool) → eqb j k ≡ b → ((i : ℕ) → i < k → P i) → P k → j < k + 1 → P j
upto-by P k j true e below here l = rw (eqb-true j k e) here
upto-by P k j false e below here l = let n = eqb-false j k e in below j (omega arith)

upto : (P : ℕ → Type 0) (k j : ℕ) → ((i : ℕ) → i < k → P i) → P k → j < k + 1 → P j
upto P k j = upto-by P k j (eqb j k) refl

-- a frame that stands in the file has a number below that of the end
stands-below : (P : Frame → Type 0) (fs : List Frame) (k : ℕ) → Stands P fs k → k < length fs
stands-below P [] zero h = absurd h
stands-below P [] (suc k) h = absurd h
stands-below P (f ∷ fs) zero h = omega arith
stands-below P (f ∷ fs) (suc k) h = omega (arith, stands-below P fs k h)

-- the next frame begins where this one ends
next-place : (k : ℕ) (fs : List Frame) (f : Frame) (rest : List Frame) → drop k fs ≡ f ∷ rest → covered (take (suc k) fs) ≡ covered (take k fs) + width f
next-place zero fs f rest e = rw e (omega arith)
next-place (suc k) [] f rest e = let z : ◌≡◌ {A = ℕ} 0 1 = cc in absurd (omega arith)
next-place (suc k) (g ∷ fs) f rest e = omega (arith, next-place k fs f rest e)

-- ---- one frame after the other

-- the check came to the number k with the rest ahead, the header ended or not, and nothing was wrong
record Reached (o : Order) (fs : List Frame) (k : ℕ) (e : Bool) (rest : List Frame) : Type 0 where
  ahead : drop k fs ≡ rest
  count : k + length rest ≡ length fs
  ended : e ≡ true ↔ HeaderEnded o fs k
  right : (j : ℕ) → j < k → Right o fs j

-- at the first frame, and at the one after a frame that passed
start : (o : Order) (fs rest : List Frame) → fs ≡ rest → Reached o fs 0 false rest
start o fs rest e = record {
  ahead = e;
  count = zero-add (length rest) ∙ sym (ap length e);
  ended = (λ h. absurd (false≢true h), λ h. absurd (omega (arith, h.1)));
  right = λ j l. absurd (omega (arith, l));
}

on : (o : Order) (fs : List Frame) (k : ℕ) (e : Bool) (f : Frame) (rest : List Frame) (next : Bool) →
    Reached o fs k e (f ∷ rest) → Passed o k e f next → Reached o fs (k + 1) next rest
on o fs k e f rest next r p = record {
  ahead = sym (drop-drop 1 k fs) ∙ ap (drop 1) r.ahead;
  count = omega (arith, r.count);
  ended = (
    λ h. ⊎_elim (λ i. let w = r.ended.0 i in (w.0, omega (arith, w.1), w.2)) (λ i. (k, omega arith, subst (First (WellFormed o EOFH)) (sym r.ahead) i)) (p.after.0 h),
    λ h. p.after.1 (upto (λ (j : ℕ). Stands (WellFormed o EOFH) fs j → (e ≡ true) ⊎ WellFormed o EOFH f) k h.0
        (λ i l st. inl (r.ended.1 (i, l, st))) (λ st. inr (subst (First (WellFormed o EOFH)) r.ahead st)) h.1 h.2),
  );
  right = λ j. upto (Right o fs) k j r.right (record {
    ended = ⊎_elim (λ st. r.ended.0 (p.late (subst (First IsData) r.ahead st))) (λ i. absurd (omega (arith, i, r.count)));
    single = λ l st. p.single l (subst (First (OfKind SOFH)) r.ahead st);
    chunk = λ st. p.chunk (subst (First NoChunk) r.ahead st);
  });
}

end-first : (o : Order) (n place : ℕ) (ended : Bool) → file_from o n place ended [] ≡ pick ended (good n) (refused 42 place)
unfolding file_from
end-first o n place ended = refl

-- ---- so what is said is due

module _ (o : Order) (s : List ℕ) where
  -- what is wrong where the check has come to is the first thing wrong
  wrong-first : (k : ℕ) (e : Bool) (rest : List Frame) (n : ℕ) → Reached o (frames o s) k e rest → Wrong o (frames o s) n k → FirstWrong o (frames o s) n (covered (take k (frames o s)))
  wrong-first k e rest n r w = record { at = k; wrong = w; first = λ m j l h. right-not o (frames o s) j m (r.right j l) h; place = refl }

  -- at the end of the file
  end-due : (k : ℕ) (e : Bool) → Begins o (frames o s) → Reached o (frames o s) k e [] → Due o s (pick e (good k) (refused 42 (covered (take k (frames o s)))))
  end-due k true b r =
      let n : k ≡ length (frames o s) = omega (arith, r.count) in (
        record {
          begins = b;
          chunks = λ j st. (r.right j (omega (arith, n, stands-below NoChunk (frames o s) j st))).chunk st;
          single = λ j l st. (r.right j (omega (arith, n, stands-below (OfKind SOFH) (frames o s) j st))).single l st;
          ended = λ j. ⊎_elim (λ st. (r.right j (omega (arith, n, stands-below IsData (frames o s) j st))).ended (inl st)) (λ i. let m : j ≡ k = i ∙ sym n in rw m (r.ended.0 refl));
        },
        n ∙ sym (items-length o 0 false _ (frames o s)),
      )
  end-due k false b r = (b, wrong-first k false [] 42 r (inr (omega (arith, r.count)), λ h. false≢true (r.ended.1 h)))

  -- from the second frame on
  rest-due : (k : ℕ) (e : Bool) (rest : List Frame) → 0 < k → Begins o (frames o s) → Reached o (frames o s) k e rest →
      Due o s (file_from o k (covered (take k (frames o s))) e rest)
  rest-due k e [] z b r = subst (Due o s) (sym (end-first o k (covered (take k (frames o s))) e)) (end-due k e b r)
  rest-due k e (f ∷ rest) z b r =
      let place = covered (take k (frames o s)) in
      let q : covered (take (k + 1) (frames o s)) ≡ place + width f = rw (add-one k) (next-place k (frames o s) f rest r.ahead) in
      subst (Due o s) (sym (turn-first o k place e f rest))
      (turned o f k (λ (a : Answer Bool). Due o s (then_rest place a (λ next. file_from o (k + 1) (place + width f) next rest))) e
      (λ next p. rw (← q) (rest-due (k + 1) next rest (omega arith) b (on o (frames o s) k e f rest next r p)))
      (λ d i. (b, wrong-first k e (f ∷ rest) 42 r (inl (subst (First IsData) (sym r.ahead) d), λ h. false≢true (sym i ∙ r.ended.1 h))))
      (λ h. (b, wrong-first k e (f ∷ rest) 43 r (z, subst (First (OfKind SOFH)) (sym r.ahead) h)))
      (λ h. (b, wrong-first k e (f ∷ rest) 44 r (subst (First NoChunk) (sym r.ahead) h))))

  -- from the first
  start-due : (rest : List Frame) → frames o s ≡ rest → Due o s (file_by o rest)
  start-due [] e = (λ h. subst (First (WellFormed o SOFH)) e h, refl)
  start-due (f ∷ rest) e =
      let q : covered (take 1 (frames o s)) ≡ width f = next-place 0 (frames o s) f rest e ∙ zero-add (width f) in
      headed o f (Due o s) rest
      (λ h p. rw (← q) (rest-due 1 false rest (omega arith) (subst (First (WellFormed o SOFH)) (sym e) h) (on o (frames o s) 0 false f rest false (start o (frames o s) (f ∷ rest) e) p)))
      (λ n. (λ h. n (subst (First (WellFormed o SOFH)) e h), refl))

  -- what the check says is due
  pub due : Due o s (file_of o s)
  due = start-due (frames o s) refl
