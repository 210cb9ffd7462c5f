-- What a ready data chunk is: its size, and for a group its cover.
use Prim.Native.Nat.{ℕ, ◌+◌, ◌-◌, ◌*◌, ◌/◌, ◌%◌}
use mathlib.Core.Path.{◌≡◌, refl, sym, ap, ◌∙◌}
use mathlib.Core.Bool.{Bool, true, false}
use mathlib.Core.List.{List}
use native.Mathlib.Nat.{div-add-mod'}
use native.Mathlib.Omega.{arith}
use lib.Dec.{eqb, leb, ltb}
use lib.ListN.{length}
use borrow.Author.Tests.{leb-true, eqb-true}
use Rattle.num.specs.Answer.{Answer, gives, refuses}
use Rattle.num.specs.Choice.{pick, both}
use Rattle.num.specs.declared.Order.{Order}
use Rattle.body.specs.Samples.{timed_samples, sample_bytes, data_of}
use Rattle.body.specs.Table.{Row, sets, marks, leaves, samples, row, shaped_by, shaped}
use Rattle.body.specs.Table as Table
use Rattle.body.specs.declared.sampled.Data.{Data}
use Rattle.body.specs.declared.sampled.Shape.{Shape}
use Rattle.body.specs.declared.sampled.Shape.TheVariants.{ShortPairs, ShortReals, ShortGroup, FloatPairs, FloatReals, FloatGroup}
use Rattle.std.specs.Prelude.{Option, Some, None}
use Rattle.body.specs.declared.sampled.Shape.{Shape}
use Rattle.body.specs.declared.groups.GroupPacking.{GroupPacking}
use Rattle.body.specs.declared.kinds.Kind.{Kind}
use Rattle.cover.specs.Cover.{group_covers}
use Rattle.effect.specs.Says.{Says, ok, unknown, bad, waits, ready, judged}
use Rattle.effect.specs.Ready.{data_says, covering, of_group, is_ready, in_group, no_state}
use Rattle.effect.specs.Effect.{sampled, effect_by, effect}
use Rattle.state.specs.State.{with_values}
use Rattle.state.specs.declared.State.{State}

-- how many bytes a sample takes
abbrev pub bytes_in : Option Shape → ℕ
bytes_in (Some shape) = sample_bytes shape
bytes_in None = 1

-- a group covers its pairs
abbrev pub Covered : Option Shape → Data → GroupPacking → Type 0
Covered (Some shape) d g = pick (of_group shape) (group_covers d.samples g.n g.increment g.offsets ≡ true) (Unit {0})
Covered None d g = Unit {0}

-- in state s, with what is shown
pub record IsReady (shaped : Option Shape) (body : List ℕ) (d : Data) (s shown : State) : Type 0 where
  pub size : length body ≡ 8 + d.samples * bytes_in shaped
  pub cover : Covered shaped d shown.values.group
  pub packing : shown.values.packing ≡ s.values.packing
  pub group : shown.values.group ≡ s.values.group

-- a size that is whole samples after the time
timed-by : (w : ℕ) (body : List ℕ) (a b : Bool) (x d : Data) → leb 8 (length body) ≡ a → eqb ((length body - 8) % w) 0 ≡ b →
    pick (both a b) (gives x) (refuses 11) ≡ gives d → x.samples ≡ (length body - 8) / w → length body ≡ 8 + d.samples * w
timed-by w body true true x d ea eb e q =
    let h = leb-true 8 (length body) ea in
    let k = eqb-true ((length body - 8) % w) 0 eb in
    let i : x ≡ d = cc in
    let j : d.samples ≡ (length body - 8) / w = sym (ap (λ (y : Data). y.samples) i) ∙ q in
    rw j (omega (arith, div-add-mod' (length body - 8) w, k))
timed-by w body true false x d ea eb e q = let z : ◌≡◌ {A = ℕ} 0 1 = cc in absurd (omega arith)
timed-by w body false b x d ea eb e q = let z : ◌≡◌ {A = ℕ} 0 1 = cc in absurd (omega arith)

timed-size : (w : ℕ) (o : Order) (body : List ℕ) (d : Data) → timed_samples w o body ≡ gives d → length body ≡ 8 + d.samples * w
timed-size w o body d e = timed-by w body (leb 8 (length body)) (eqb ((length body - 8) % w) 0) _ d refl refl e refl

-- a ready chunk was given its data
says-by : (a : Answer Data) (p r s : Bool) (d : Data) → data_says a p r s ≡ ready d → a ≡ gives d
says-by (gives x) true true true d e = let i : x ≡ d = cc in ap gives i
says-by (gives x) true true false d e = let z : ◌≡◌ {A = ℕ} 0 1 = cc in absurd (omega arith)
says-by (gives x) true false s d e = let z : ◌≡◌ {A = ℕ} 0 1 = cc in absurd (omega arith)
says-by (gives x) false r s d e = let z : ◌≡◌ {A = ℕ} 0 1 = cc in absurd (omega arith)
says-by (refuses n) p r s d e = let z : ◌≡◌ {A = ℕ} 0 1 = cc in absurd (omega arith)

-- a ready group chunk covers its pairs
cover-by : (g : GroupPacking) (x d : Data) (b : Bool) → group_covers x.samples g.n g.increment g.offsets ≡ b → pick b (ready x) (bad 16) ≡ ready d →
    (group_covers d.samples g.n g.increment g.offsets ≡ true) × (ready x ≡ ready d)
cover-by g x d true t e =
    let i : x ≡ d = cc in
    (sym (ap (λ (y : Data). group_covers y.samples g.n g.increment g.offsets) i) ∙ t, e)
cover-by g x d false t e = let z : ◌≡◌ {A = ℕ} 0 1 = cc in absurd (omega arith)

covering-by : (g : GroupPacking) (s : Says) (d : Data) → covering g s ≡ ready d → (group_covers d.samples g.n g.increment g.offsets ≡ true) × (s ≡ ready d)
covering-by g ok d e = let z : ◌≡◌ {A = ℕ} 0 1 = cc in absurd (omega arith)
covering-by g unknown d e = let z : ◌≡◌ {A = ℕ} 0 1 = cc in absurd (omega arith)
covering-by g (bad n) d e = let z : ◌≡◌ {A = ℕ} 0 1 = cc in absurd (omega arith)
covering-by g (waits n t) d e = let z : ◌≡◌ {A = ℕ} 0 1 = cc in absurd (omega arith)
covering-by g (ready x) d e = cover-by g x d (group_covers x.samples g.n g.increment g.offsets) refl e

-- no other chunk is ready
pub judged-by : {A : Type 0} (a : Answer A) (d : Data) → judged a ≡ ready d → ⊥
judged-by (gives a) d e = let z : ◌≡◌ {A = ℕ} 0 1 = cc in omega arith
judged-by (refuses n) d e = let z : ◌≡◌ {A = ℕ} 0 1 = cc in omega arith

pub shown-by : (s : Says) (d : Data) (x : State) → s ≡ ready d → pick (is_ready s) x no_state ≡ x
shown-by s d x e = rw e

module _ (o : Order) (body : List ℕ) (s : State) (d : Data) where
  single-ready : (shape : Shape) (a : Answer Data) (p r t : Bool) → (a ≡ gives d → length body ≡ 8 + d.samples * sample_bytes shape) → Covered (Some shape) d s.values.group →
      let y : Says = data_says a p r t in
      y ≡ ready d → IsReady (Some shape) body d s (pick (is_ready y) s no_state)
  single-ready shape a p r t q k e = rw (shown-by (data_says a p r t) d s e) (record { size = q (says-by a p r t d e); cover = k; packing = refl; group = refl })

  group-ready : (shape : Shape) (a : Answer Data) (p r t : Bool) → (a ≡ gives d → length body ≡ 8 + d.samples * sample_bytes shape) →
      (group_covers d.samples s.values.group.n s.values.group.increment s.values.group.offsets ≡ true → Covered (Some shape) d s.values.group) →
      let y : Says = covering s.values.group (data_says a p r t) in
      y ≡ ready d → IsReady (Some shape) body d s (pick (is_ready y) (with_values s (in_group s.values)) no_state)
  group-ready shape a p r t q k e =
      let h = covering-by s.values.group (data_says a p r t) d e in
      rw (shown-by (covering s.values.group (data_says a p r t)) d (with_values s (in_group s.values)) e) (record { size = q (says-by a p r t d h.1); cover = k h.0; packing = refl; group = refl })

  shape-ready : (shape : Shape) (a : Answer Data) → (a ≡ gives d → length body ≡ 8 + d.samples * sample_bytes shape) →
      (sampled shape a s).says ≡ ready d → IsReady (Some shape) body d s (sampled shape a s).shown
  shape-ready ShortPairs a q e = single-ready ShortPairs a s.values.packing.present s.values.rate.present true q tt e
  shape-ready ShortReals a q e = single-ready ShortReals a true s.values.rate.present true q tt e
  shape-ready ShortGroup a q e = group-ready ShortGroup a (ltb 0 s.values.group.n) s.values.rate.present true q (λ h. h) e
  shape-ready FloatPairs a q e = single-ready FloatPairs a s.values.packing.present s.values.rate.present s.values.float_scale.present q tt e
  shape-ready FloatReals a q e = single-ready FloatReals a true s.values.rate.present s.values.float_scale.present q tt e
  shape-ready FloatGroup a q e = group-ready FloatGroup a (ltb 0 s.values.group.n) s.values.rate.present s.values.float_scale.present q (λ h. h) e

  row-ready : (r : Row) → (effect_by r o body s).says ≡ ready d → IsReady (shaped_by r) body d s (effect_by r o body s).shown
  row-ready (sets x hold read) e = absurd (judged-by (read o body) d e)
  row-ready (marks read) e = absurd (judged-by (read o body) d e)
  row-ready (leaves read) e = absurd (judged-by (read o body) d e)
  row-ready (samples shape) e = shape-ready shape (data_of shape o body) (timed-size (sample_bytes shape) o body d) e
  row-ready Table.unknown e = let z : ◌≡◌ {A = ℕ} 0 1 = cc in absurd (omega arith)

  -- a chunk that is said to be ready
  pub effect-ready : (k : Kind) → (effect o k body s).says ≡ ready d → IsReady (shaped k) body d s (effect o k body s).shown
  unfolding effect shaped
  effect-ready k e = row-ready (row k) e
