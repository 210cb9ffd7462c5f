-- Laws of bytes laid over a slice.
use Prim.Native.Nat.{ℕ, ◌+◌, ◌-◌, ◌≤◌}
use mathlib.Core.Path.{◌≡◌, sym, ap, ◌∙◌}
use mathlib.Core.List.{List, [], ◌++◌, append_assoc, append-nil}
use native.Mathlib.Omega.{arith}
use native.Mathlib.Nat.{add-zero}
use lib.ListN.{length, take, drop, length-append, length-drop, take-append-drop}
use lib.Seq.{take_at, drop-drop, drop-length, drop-append-add, length-take-le}
use borrow.Author.Tests.{le-leb}
use borrow.Rule.Slice.PartMut.{put_mid, Post-is}
use Rattle.lay.specs.Splice.{splice, overlaid}

-- a part that was lent and is back
pub lent-back : (d ys : List ℕ) (a e : ℕ) → a ≤ e → length ys ≡ e - a → put_mid a (e - a) d ys ≡ splice d a ys
lent-back d ys a e h n =
    let m : e ≡ a + length ys = omega arith in
    ap (λ (l : List ℕ). take a d ++ (ys ++ l)) (Post-is a e d h ∙ ap (λ (k : ℕ). drop k d) m)

pub splice-nothing : (d : List ℕ) (at : ℕ) → splice d at [] ≡ d
splice-nothing d at = rw add-zero (take-append-drop at d)

-- the slice is as long as it was
pub length-splice : (d : List ℕ) (at : ℕ) (u : List ℕ) → at + length u ≤ length d → length (splice d at u) ≡ length d
length-splice d at u h =
    let r = drop (at + length u) d in
    omega (arith, length-append (take at d) (u ++ r), length-append u r, length-take-le at d (omega arith), length-drop (at + length u) d)

-- bytes laid where others end are laid as one
pub splice-splice : (d : List ℕ) (at : ℕ) (u v : List ℕ) (q : ℕ) → q ≡ at + length u → at + length u ≤ length d →
    splice (splice d at u) q v ≡ splice d at (u ++ v)
splice-splice d at u v q e h =
    let a = take at d ++ u in
    let r = drop (at + length u) d in
    let n : length a ≡ q = omega (arith, length-append (take at d) u, length-take-le at d (omega arith)) in
    let k : at + length u + length v ≡ at + length (u ++ v) = omega (arith, length-append u v) in
    ap (λ (l : List ℕ). take q l ++ (v ++ drop (q + length v) l)) (sym (append_assoc (take at d) u r))
    ∙ ap (λ (j : ℕ). take q (a ++ r) ++ (v ++ drop (j + length v) (a ++ r))) (sym n)
    ∙ rw (take_at a r q n, drop-append-add a r (length v), drop-drop (length v) (at + length u) d, k) (simp append_assoc)

-- ---- laid where they fit

pub laid-first : (d l : List ℕ) (at : ℕ) (vs : List ℕ) → at + length vs ≤ length d → l ≡ overlaid d at vs → l ≡ splice d at vs
laid-first d l at vs h e = rw (le-leb (at + length vs) (length d) h) at e

-- bytes laid where those before them end
pub laid-on : (p : ℕ) (d d₁ d₂ u v : List ℕ) (q : ℕ) → q ≡ p + length u → p + length u + length v ≤ length d →
    d₁ ≡ splice d p u → d₂ ≡ overlaid d₁ q v → d₂ ≡ splice d p (u ++ v)
laid-on p d d₁ d₂ u v q e h e₁ e₂ =
    let n : length d₁ ≡ length d = ap length e₁ ∙ length-splice d p u (omega arith) in
    laid-first d₁ d₂ q v (omega arith) e₂ ∙ ap (λ (l : List ℕ). splice l q v) e₁ ∙ splice-splice d p u v q e (omega arith)

-- as many bytes as the slice has
pub laid-whole : (d l vs : List ℕ) → length vs ≡ length d → l ≡ overlaid d 0 vs → l ≡ vs
laid-whole d l vs n e =
    let m : 0 + length vs ≡ length d = omega arith in
    laid-first d l 0 vs (omega arith) e ∙ rw (m, drop-length d, append-nil vs)
