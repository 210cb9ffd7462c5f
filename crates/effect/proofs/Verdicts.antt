-- The reader's verdict and the writer's: what is said of an accepted chunk is a number of 11 to 15 exactly where the table's verdict
-- on its body refuses it with that number.
use Prim.Native.Nat.{ℕ, ◌≤◌}
use mathlib.Core.Path.{◌≡◌, ap}
use mathlib.Core.Bool.{Bool, true, false}
use mathlib.Core.List.{List}
use mathlib.Core.Logic.{◌↔◌}
use native.Mathlib.Omega.{arith}
use lib.Dec.{ltb}
use Rattle.num.specs.Answer.{Answer, gives, refuses}
use Rattle.num.specs.Choice.{pick}
use Rattle.num.specs.declared.Order.{Order}
use Rattle.body.specs.Samples.{data_of}
use Rattle.body.specs.Table.{Row, sets, marks, leaves, samples, unknown, row}
use Rattle.body.specs.Verdict.{seen, verdict_by, verdict}
use Rattle.body.specs.declared.sampled.Data.{Data}
use Rattle.body.specs.declared.sampled.Shape.{Shape}
use Rattle.body.specs.declared.sampled.Shape.TheVariants.{ShortPairs, ShortReals, ShortGroup, FloatPairs, FloatReals, FloatGroup}
use Rattle.body.specs.declared.groups.GroupPacking.{GroupPacking}
use Rattle.body.specs.declared.kinds.Kind.{Kind}
use Rattle.body.proofs.FaultNumbers.{verdict-number}
use Rattle.cover.specs.Cover.{group_covers}
use Rattle.state.specs.declared.Values.{Values}
use Rattle.state.specs.declared.State.{State}
use Rattle.effect.specs.Says.{Says, ok, bad, waits, ready, judged}
use Rattle.effect.specs.Ready.{data_says, covering, says_of}
use Rattle.effect.specs.Effect.{effect_by, effect}

-- ---- refused, so said

judged-said : {A : Type 0} (a : Answer A) (n : ℕ) → seen a ≡ refuses n → judged a ≡ bad n
judged-said (gives x) n e = let z : ◌≡◌ {A = ℕ} 0 1 = cc in absurd (omega arith)
judged-said (refuses m) n e = let i : m ≡ n = cc in ap bad i

data-said : (a : Answer Data) (p r t : Bool) (n : ℕ) → seen a ≡ refuses n → data_says a p r t ≡ bad n
data-said (gives d) p r t n e = let z : ◌≡◌ {A = ℕ} 0 1 = cc in absurd (omega arith)
data-said (refuses m) p r t n e = let i : m ≡ n = cc in ap bad i

group-said : (g : GroupPacking) (a : Answer Data) (p r t : Bool) (n : ℕ) → seen a ≡ refuses n → covering g (data_says a p r t) ≡ bad n
group-said g (gives d) p r t n e = let z : ◌≡◌ {A = ℕ} 0 1 = cc in absurd (omega arith)
group-said g (refuses m) p r t n e = let i : m ≡ n = cc in ap bad i

shape-said : (shape : Shape) (a : Answer Data) (v : Values) (n : ℕ) → seen a ≡ refuses n → says_of shape a v ≡ bad n
shape-said ShortPairs a v n e = data-said a v.packing.present v.rate.present true n e
shape-said ShortReals a v n e = data-said a true v.rate.present true n e
shape-said ShortGroup a v n e = group-said v.group a (ltb 0 v.group.n) v.rate.present true n e
shape-said FloatPairs a v n e = data-said a v.packing.present v.rate.present v.float_scale.present n e
shape-said FloatReals a v n e = data-said a true v.rate.present v.float_scale.present n e
shape-said FloatGroup a v n e = group-said v.group a (ltb 0 v.group.n) v.rate.present v.float_scale.present n e

-- ---- said, so refused

judged-refused : {A : Type 0} (a : Answer A) (n : ℕ) → judged a ≡ bad n → seen a ≡ refuses n
judged-refused (gives x) n e = let z : ◌≡◌ {A = ℕ} 0 1 = cc in absurd (omega arith)
judged-refused (refuses m) n e = let i : m ≡ n = cc in ap refuses i

data-refused : (a : Answer Data) (p r t : Bool) (n : ℕ) → data_says a p r t ≡ bad n → seen a ≡ refuses n
data-refused (gives d) true true true n e = let z : ◌≡◌ {A = ℕ} 0 1 = cc in absurd (omega arith)
data-refused (gives d) true true false n e = let z : ◌≡◌ {A = ℕ} 0 1 = cc in absurd (omega arith)
data-refused (gives d) true false t n e = let z : ◌≡◌ {A = ℕ} 0 1 = cc in absurd (omega arith)
data-refused (gives d) false r t n e = let z : ◌≡◌ {A = ℕ} 0 1 = cc in absurd (omega arith)
data-refused (refuses m) p r t n e = let i : m ≡ n = cc in ap refuses i

-- the cover refuses with 16, and with nothing else
cover-refused : (c : Bool) (d : Data) (n : ℕ) → (n ≡ 16 → ⊥) → pick c (ready d) (bad 16) ≡ bad n → ready d ≡ bad n
cover-refused true d n h e = e
cover-refused false d n h e = let i : 16 ≡ n = cc in absurd (h (cc))

covering-refused : (g : GroupPacking) (says : Says) (n : ℕ) → (n ≡ 16 → ⊥) → covering g says ≡ bad n → says ≡ bad n
covering-refused g ok n h e = e
covering-refused g Says.unknown n h e = e
covering-refused g (bad m) n h e = e
covering-refused g (waits m t) n h e = e
covering-refused g (ready d) n h e = cover-refused (group_covers d.samples g.n g.increment g.offsets) d n h e

shape-refused : (shape : Shape) (a : Answer Data) (v : Values) (n : ℕ) → (n ≡ 16 → ⊥) → says_of shape a v ≡ bad n → seen a ≡ refuses n
shape-refused ShortPairs a v n h e = data-refused a v.packing.present v.rate.present true n e
shape-refused ShortReals a v n h e = data-refused a true v.rate.present true n e
shape-refused ShortGroup a v n h e = data-refused a (ltb 0 v.group.n) v.rate.present true n (covering-refused v.group _ n h e)
shape-refused FloatPairs a v n h e = data-refused a v.packing.present v.rate.present v.float_scale.present n e
shape-refused FloatReals a v n h e = data-refused a true v.rate.present v.float_scale.present n e
shape-refused FloatGroup a v n h e = data-refused a (ltb 0 v.group.n) v.rate.present v.float_scale.present n (covering-refused v.group _ n h e)

-- ---- by the row of a kind

module _ (o : Order) (b : List ℕ) (s : State) (n : ℕ) where
  row-said : (r : Row) → verdict_by r o b ≡ refuses n → (effect_by r o b s).says ≡ bad n
  row-said (sets x hold read) e = judged-said (read o b) n e
  row-said (marks read) e = judged-said (read o b) n e
  row-said (leaves read) e = judged-said (read o b) n e
  row-said (samples shape) e = shape-said shape (data_of shape o b) s.values n e
  row-said unknown e = let z : ◌≡◌ {A = ℕ} 0 1 = cc in absurd (omega arith)

  row-refused : (r : Row) → (n ≡ 16 → ⊥) → (effect_by r o b s).says ≡ bad n → verdict_by r o b ≡ refuses n
  row-refused (sets x hold read) h e = judged-refused (read o b) n e
  row-refused (marks read) h e = judged-refused (read o b) n e
  row-refused (leaves read) h e = judged-refused (read o b) n e
  row-refused (samples shape) h e = shape-refused shape (data_of shape o b) s.values n h e
  row-refused unknown h e = let z : ◌≡◌ {A = ℕ} 0 1 = cc in absurd (omega arith)

  refused-said : (k : Kind) → verdict o k b ≡ refuses n → (effect o k b s).says ≡ bad n
  unfolding verdict effect
  refused-said k e = row-said (row k) e

  said-refused : (k : Kind) → (n ≡ 16 → ⊥) → (effect o k b s).says ≡ bad n → verdict o k b ≡ refuses n
  unfolding verdict effect
  said-refused k h e = row-refused (row k) h e

  -- what is said of an accepted chunk, whatever the state, is a number of 11 to 15 exactly where the table refuses its body, with the same number
  pub refused-alike : (k : Kind) → (11 ≤ n) × (n ≤ 15) × ((effect o k b s).says ≡ bad n) ↔ verdict o k b ≡ refuses n
  refused-alike k =
      (λ h. said-refused k (λ e. omega (arith, h.0, h.1, e)) h.2, λ e. let m = verdict-number o k b n e in (m.0, m.1, refused-said k e))
