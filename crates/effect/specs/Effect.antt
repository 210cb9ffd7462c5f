-- The effect of an accepted chunk: what is said of it, the state that it shows, and the state that it leaves.
use Rattle.std.specs.Prelude.{ℕ, Bool, true, false, List}
use Rattle.num.specs.Answer.{Answer, gives, refuses}
use Rattle.num.specs.Choice.{pick}
use Rattle.num.specs.declared.Order.{Order}
use Rattle.body.specs.Check.{or_else}
use Rattle.body.specs.Samples.{data_of}
use Rattle.body.specs.Table.{none, Row, sets, marks, leaves, samples, unknown, row}
use Rattle.body.specs.declared.sampled.Data.{Data}
use Rattle.body.specs.declared.sampled.Shape.{Shape}
use Rattle.body.specs.declared.kinds.Kind.{Kind}
use Rattle.state.specs.State.{set_in, with_values, with_mark}
use Rattle.state.specs.declared.Values.{Values}
use Rattle.state.specs.declared.State.{State}
use Rattle.effect.specs.Says.{Says, judged}
use Rattle.effect.specs.Ready.{says_of, of_group, no_state, is_ready, in_group}

pub record Effect : Type 0 where
  pub says : Says
  pub shown : State
  pub after : State

-- a well-formed IQDC sets the start mark
abbrev pub marked : {A : Type 0} → Answer A → Bool → Bool
marked (gives a) mark = true
marked (refuses n) mark = mark

-- a chunk that is no data shows nothing
abbrev pub met : {A : Type 0} → Answer A → State → Effect
met a s = record { says = judged a; shown = no_state; after = s }

-- a data chunk: a ready one shows values with the start mark and clears the mark, any other shows nothing and sets it
abbrev pub data_effect : Says → Values → State → Effect
data_effect says shows s = record {
  says = says;
  shown = pick (is_ready says) (with_values s shows) no_state;
  after = with_mark s (pick (is_ready says) false true);
}

-- data of a shape: the values decide whether it is ready, and are what it shows, those of a group as a group shows them
abbrev pub sampled : Shape → Answer Data → State → Effect
sampled shape a s = data_effect (says_of shape a s.values) (pick (of_group shape) (in_group s.values) s.values) s

-- by the row of its kind: it sets its own value, or removes it where it is malformed; sets the mark; changes nothing;
-- is data
abbrev pub effect_by : Row → Order → List ℕ → State → Effect
effect_by (sets x hold read) o body s =
    met (read o body) (with_values s (set_in x (or_else (none x) hold (read o body)) s.values))
effect_by (marks read) o body s = met (read o body) (with_mark s (marked (read o body) s.mark))
effect_by (leaves read) o body s = met (read o body) s
effect_by (samples shape) o body s = sampled shape (data_of shape o body) s
effect_by unknown o body s = record { says = Says.unknown; shown = no_state; after = s }

unfoldable pub effect : Order → Kind → List ℕ → State → Effect
effect o k body s = effect_by (row k) o body s
