-- The sums that a chunk leaves in the state, and those that it shows, are the sums of their parts.
use Prim.Native.Nat.{ℕ}
use mathlib.Core.Path.{◌≡◌, refl, sym}
use mathlib.Core.Bool.{Bool, true, false}
use mathlib.Core.List.{List}
use lib.Dec.{eqb}
use Rattle.num.specs.Choice.{pick}
use Rattle.num.specs.declared.Order.{Order}
use Rattle.body.specs.Check.{or_else}
use Rattle.body.specs.Groups.{no_gains}
use Rattle.body.specs.Samples.{data_of}
use Rattle.body.specs.Table.{none, Row, sets, marks, leaves, samples, unknown, row}
use Rattle.body.specs.declared.kinds.Kind.{Kind}
use Rattle.state.specs.State.{with_values, Summed}
use Rattle.state.specs.Sums.{sums_of, no_sums}
use Rattle.state.specs.declared.State.{State}
use Rattle.state.specs.declared.Values.{Values}
use Rattle.state.proofs.Summed.{no-gains-sums, set-summed}
use Rattle.effect.specs.Ready.{says_of, of_group, no_state, is_ready, in_group}
use Rattle.effect.specs.Effect.{effect_by, effect}

hidden-by : (v : Values) (b : Bool) → Summed v → pick b v.sums no_sums ≡ sums_of v.total_gain (pick b v.gains no_gains)
hidden-by v true h = h
hidden-by v false h = sym (no-gains-sums v.total_gain)

pub group-summed : (v : Values) → Summed v → Summed (in_group v)
group-summed v h = hidden-by v (eqb v.gains.n v.group.n) h

module _ (s : State) (h : Summed s.values) where
  shows-by : (group : Bool) → Summed (pick group (in_group s.values) s.values)
  shows-by true = group-summed s.values h
  shows-by false = h

  shown-by : (ready group : Bool) → Summed (pick ready (with_values s (pick group (in_group s.values) s.values)) no_state).values
  shown-by true group = shows-by group
  shown-by false group = refl

  module _ (o : Order) (b : List ℕ) where
    row-summed : (r : Row) → Summed (effect_by r o b s).after.values × Summed (effect_by r o b s).shown.values
    row-summed (sets x hold read) = (set-summed x (or_else (none x) hold (read o b)) s.values h, refl)
    row-summed (marks read) = (h, refl)
    row-summed (leaves read) = (h, refl)
    row-summed (samples shape) = (h, shown-by (is_ready (says_of shape (data_of shape o b) s.values)) (of_group shape))
    row-summed unknown = (h, refl)

    -- of every kind, well-formed or not
    pub effect-summed : (k : Kind) → Summed (effect o k b s).after.values × Summed (effect o k b s).shown.values
    unfolding effect
    effect-summed k = row-summed (row k)
