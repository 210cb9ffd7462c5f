-- A chunk that is ready is ready again, as it was, with the state that it showed.
use mathlib.Core.Path.{◌≡◌}
use mathlib.Core.List.{List}
use native.Mathlib.Omega.{arith}
use Prim.Native.Nat.{ℕ}
use Rattle.num.specs.Answer.{Answer}
use Rattle.num.specs.declared.Order.{Order}
use Rattle.body.specs.Samples.{data_of}
use Rattle.body.specs.Table.{Row, sets, marks, leaves, samples, row}
use Rattle.body.specs.Table as Table
use Rattle.body.specs.declared.sampled.Data.{Data}
use Rattle.body.specs.declared.sampled.Shape.{Shape}
use Rattle.body.specs.declared.sampled.Shape.TheVariants.{ShortPairs, ShortReals, ShortGroup, FloatPairs, FloatReals, FloatGroup}
use Rattle.body.specs.declared.kinds.Kind.{Kind}
use Rattle.effect.specs.Says.{ready}
use Rattle.effect.specs.Ready.{says_of, in_group}
use Rattle.effect.specs.Effect.{sampled, effect_by, effect}
use Rattle.state.specs.State.{with_values}
use Rattle.state.specs.declared.State.{State}
use Rattle.samples.proofs.Ready.{judged-by, shown-by}

module _ (o : Order) (body : List ℕ) (s : State) (d : Data) where
  -- what is said of data goes by values that are shown as they are
  shape-again : (shape : Shape) (a : Answer Data) → says_of shape a s.values ≡ ready d → says_of shape a (sampled shape a s).shown.values ≡ ready d
  shape-again ShortPairs a e = rw (shown-by (says_of ShortPairs a s.values) d s e) e
  shape-again ShortReals a e = rw (shown-by (says_of ShortReals a s.values) d s e) e
  shape-again ShortGroup a e = rw (shown-by (says_of ShortGroup a s.values) d (with_values s (in_group s.values)) e) e
  shape-again FloatPairs a e = rw (shown-by (says_of FloatPairs a s.values) d s e) e
  shape-again FloatReals a e = rw (shown-by (says_of FloatReals a s.values) d s e) e
  shape-again FloatGroup a e = rw (shown-by (says_of FloatGroup a s.values) d (with_values s (in_group s.values)) e) e

  row-again : (r : Row) → (effect_by r o body s).says ≡ ready d → (effect_by r o body (effect_by r o body s).shown).says ≡ ready d
  row-again (sets x hold read) e = absurd (judged-by (read o body) d e)
  row-again (marks read) e = absurd (judged-by (read o body) d e)
  row-again (leaves read) e = absurd (judged-by (read o body) d e)
  row-again (samples shape) e = shape-again shape (data_of shape o body) e
  row-again Table.unknown e = let z : ◌≡◌ {A = ℕ} 0 1 = cc in absurd (omega arith)

  pub ready-again : (k : Kind) → (effect o k body s).says ≡ ready d → (effect o k body (effect o k body s).shown).says ≡ ready d
  unfolding effect
  ready-again k e = row-again (row k) e
