-- What it is that a promise leaves one answer. Post is a function's own promise, of its arguments, its answer and what
-- stands in its parameters at the end.
use Prim.Native.Nat.{ℕ}
use mathlib.Core.Path.{◌≡◌, sym, ◌∙◌}
use mathlib.Core.List.{List}
use denote.MutBor.{MutBor}
use denote.Param.{number, value_of}
use denote.Param.Laws.{Laws, IsCopy}
use denote.RattleType.{RattleType}
use denote.Ref.{Bor}
use mir.Syntax.{Dict, w64}
use mir.Val.{Fits}
use Rattle.std.specs.declared.clone.Clone.{Ghosts as CloneGhosts}
use Rattle.num.specs.declared.number.Number.{Ghosts}

-- two answers to the same arguments are equal
abbrev pub OneAnswer : {K : Type 0} {A R S : K → Type 0} → ((κs : K) → A κs → R κs → S κs → Type 0) → Type 0
OneAnswer {K} {A} {R} {S} Post = (κs : K) (a : A κs) (r r' : R κs) (s s' : S κs) → Post κs a r s → Post κs a r' s' → r ≡ r'

-- and so is what a lent slice holds at the end
abbrev pub OneEnd : {K B : Type 0} {A R S : K → Type 0} → ((κs : K) → A κs → R κs → S κs → Type 0) → ((κs : K) → S κs → B) → Type 0
OneEnd {K} {B} {A} {R} {S} Post out =
    (κs : K) (a : A κs) (r r' : R κs) (s s' : S κs) → Post κs a r s → Post κs a r' s' → (r ≡ r') × (out κs s ≡ out κs s')

-- the same of an answer that is a part of a slice: two answers hold the same bytes
abbrev pub OnePart : {K X : Type 0} {A S : K → Type 0} → ((κs : K) → A κs → Bor (List X) → S κs → Type 0) → Type 0
OnePart {K} {X} {A} {S} Post =
    (κs : K) (a : A κs) (r r' : Bor (List X)) (s s' : S κs) → Post κs a r s → Post κs a r' s' → r.now ≡ r'.now

-- an answer whose meaning a rule gives and tells apart, beside a slice that a rule fills
pub by-meaning : {R B D : Type 0} {said : R → B} {m : B} {d d' e : D} → ((x y : R) → said x ≡ said y → x ≡ y) → (r r' : R) →
    (said r ≡ m) × (d ≡ e) → (said r' ≡ m) × (d' ≡ e) → (r ≡ r') × (d ≡ d')
by-meaning told r r' p q = (told r r' (p.0 ∙ sym q.0), p.1 ∙ sym q.1)

-- a call with these arguments may end with this answer
abbrev pub Allows : {K : Type 0} {A R S : K → Type 0} → ((κs : K) → A κs → R κs → S κs → Type 0) → (κs : K) → A κs → R κs → Type 0
Allows {K} {A} {R} {S} Post κs a r = (s : S κs) × Post κs a r s

-- a lent slice that holds these
abbrev pub lent : {X : Type 0} → List X → Bor (List X)
lent l = record { ref_ptr = (0, 0); now = l }

-- one that is lent to be filled
abbrev pub lent_to_fill : {X : Type 0} → List X → MutBor (List X)
lent_to_fill l = record { ref_ptr = (0, 0); ghost_name = 0; now = l }

-- a type of numbers of n bytes, as it comes to code that is generic over num::Number
pub record NumberType : Type 2 where
  pub T : RattleType
  pub n : ℕ
  pub laws : Laws T
  pub fits : Fits w64 n
  pub copy : IsCopy T
  pub ghosts : Ghosts T.Denot (value_of (number n))
  pub dict : Dict
  pub clone : CloneGhosts T.Denot
  pub clone_dict : Dict
