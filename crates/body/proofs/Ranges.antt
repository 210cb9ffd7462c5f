-- A test of every number below n, asked by `all` over the range.
use Prim.Native.Nat.{ℕ, ◌<◌}
use mathlib.Core.Path.{◌≡◌, sym, ◌∙◌}
use mathlib.Core.Bool.{Bool, true, false}
use mathlib.Core.List.{List}
use native.Mathlib.Omega.{arith}
use lib.ListN.{length, get_or}
use denote.Param.Members.{Mut}
use Rattle.std.specs.declared.ops.Range.{Range}
use Rattle.std.specs.Bool.{MatchBool}
use Rattle.std.specs.Fn.{Called}
use Rattle.std.specs.Iterator.{YieldsThen}
use Rattle.std.specs.List.{range_with_len, FoldsTo, AllWithin, HoldsAt}
use Rattle.std.specs.Option.{MatchOption}
use Rattle.std.specs.Prelude.{Option}
use Rattle.std.proofs.iter.Yields.{nat_range_steps}
use Rattle.std.proofs.lemmas.Iterator.{cases_from_all, YieldsList-from_range}
use Rattle.std.proofs.lemmas.List.FromFn.{length-range_with_len, get_or-range_with_len}
use Rattle.num.specs.Choice.{each}
use Rattle.num.proofs.Tests.{each-all, each-stop}

module _ (test : ℕ → Bool) (n : ℕ) where
  place : (k : ℕ) → k < n → get_or (range_with_len 0 n) k 0 ≡ k
  place k l = get_or-range_with_len 0 n k 0 l ∙ omega arith

  is-each : (r : Bool) →
      MatchBool r (AllWithin (λ y. true ≡ test y) (range_with_len 0 n) 0 (length (range_with_len 0 n)))
      ((k : ℕ) × (k < length (range_with_len 0 n)) × HoldsAt (λ y. false ≡ test y) (range_with_len 0 n) k) → r ≡ each test n
  is-each true h = sym (each-all test n (λ k l. sym (rw (place k l) at (h k 0 (omega arith) (rw length-range_with_len l)))))
  is-each false h =
      let l : h.0 < n = rw length-range_with_len at h.1 in
      sym (each-stop test n h.0 l (sym (rw (place h.0 l) at (h.2 0))))

  pub each-by-all : {F : Type 0} {g : Mut F (ℕ × Unit {0}) Bool} {s u : Range ℕ} {f : F} (r : Bool) → s ≡ record { start = 0; end = n } →
      (xs : List ℕ) × (o : Option ℕ) × (j : F) × YieldsThen nat_range_steps s xs o u × FoldsTo (λ p x q. Called g p (x, tt) true q) f xs j
      × MatchOption o (r ≡ true) (λ x. (r ≡ false) × ((h : F) × Called g j (x, tt) false h)) →
      ((x : ℕ) (b : Bool) (q : F) → Called g f (x, tt) b q → (q ≡ f) × (b ≡ test x)) → r ≡ each test n
  each-by-all {u = u} {f = f} r e d k =
      is-each r (cases_from_all u f r (λ y. true ≡ test y) (λ y. false ≡ test y) d (YieldsList-from_range 0 n n e (omega arith)) (λ x q. k x true q) (λ x q c. (k x false q c).1))
