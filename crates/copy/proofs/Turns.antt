-- Laws of a loop that lays pairs, once over the numbers, the packing and the step.
use Prim.Native.Nat.{ℕ, ◌+◌, ◌*◌, ◌≤◌, ◌<◌}
use mathlib.Core.Path.{◌≡◌, refl, ap, ◌∙◌}
use mathlib.Core.Bool.{Bool}
use mathlib.Core.List.{List, ◌++◌}
use native.Mathlib.Omega.{arith}
use lib.ListN.{length, take, drop, set, length-set}
use Rattle.copy.specs.Samples.{place_of, i_of, q_of, pairs_of, front_filled}
use Rattle.copy.specs.Grown.{Grown}
use Rattle.copy.proofs.Laws.{pairs-next, pairs-behind}

module _ {A : Type 0} (value : ℕ → A) (iq : Bool) (first step pairs : ℕ) where
  -- a loop begins
  pub grown-none : (out : List A) (j : ℕ) → j ≤ pairs → Grown value iq first step pairs out j out j
  grown-none out j h = (h, refl, λ d r e. e)

  -- one goes on where another ended
  pub grown-on : (out₀ out₁ out : List A) (j₀ j₁ j : ℕ) → Grown value iq first step pairs out₀ j₀ out₁ j₁ → Grown value iq first step pairs out₁ j₁ out j → Grown value iq first step pairs out₀ j₀ out j
  grown-on out₀ out₁ out j₀ j₁ j g h = (h.0, h.1 ∙ g.1, λ d r e. h.2 d r (g.2 d r e))

  module _ (out₀ : List A) (j₀ : ℕ) (out : List A) (j : ℕ) (h : Grown value iq first step pairs out₀ j₀ out j) where
    -- one pair more, which stands at the place p
    pub grown-pair : (p : ℕ) (next : List A) → p ≡ place_of first step j → j < pairs →
        next ≡ set (set out (2 * j) (value (i_of iq p))) (2 * j + 1) (value (q_of iq p)) → Grown value iq first step pairs out₀ j₀ next (j + 1)
    grown-pair p next e l put = (
      omega arith,
      ap length put ∙ simp length-set h.1,
      λ d room q. rw (put, h.2 d room q, e) (pairs-next value iq first step d j (omega arith)),
    )

    -- n pairs more, from the place p on
    pub grown-block : (p n : ℕ) (next : List A) → p ≡ place_of first step j → j + n ≤ pairs → length next ≡ length out →
        next ≡ take (2 * j) out ++ front_filled (pairs_of value iq p step n) (drop (2 * j) out) → Grown value iq first step pairs out₀ j₀ next (j + n)
    grown-block p n next e l m put = (l, m ∙ h.1, λ d room q. rw (put, h.2 d room q, e) (pairs-behind value iq first step d j n))

  -- all of them are laid
  pub grown-all : (out₀ out : List A) (j : ℕ) → Grown value iq first step pairs out₀ 0 out j → pairs ≤ j → 2 * pairs ≤ length out₀ → out ≡ front_filled (pairs_of value iq first step pairs) out₀
  unfolding pairs_of
  grown-all out₀ out j h e r =
      let n : j ≡ pairs = omega arith in
      rw n at (h.2 out₀ r refl)
