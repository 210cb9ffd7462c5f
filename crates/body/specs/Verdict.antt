-- The verdict on a body, by its kind.
use Rattle.std.specs.Prelude.{ℕ, List}
use Rattle.num.specs.Answer.{Answer, gives, refuses}
use Rattle.num.specs.declared.Order.{Order}
use Rattle.body.specs.Samples.{data_of}
use Rattle.body.specs.Table.{Row, sets, marks, leaves, samples, unknown, row}
use Rattle.body.specs.declared.kinds.Kind.{Kind}

-- an answer with its value left out
abbrev pub seen : {A : Type 0} → Answer A → Answer (Unit {0})
seen (gives a) = gives tt
seen (refuses n) = refuses n

-- a body has to meet the row of its kind; one of an unknown type is never refused
abbrev pub verdict_by : Row → Order → List ℕ → Answer (Unit {0})
verdict_by (sets x hold read) o body = seen (read o body)
verdict_by (marks read) o body = seen (read o body)
verdict_by (leaves read) o body = seen (read o body)
verdict_by (samples shape) o body = seen (data_of shape o body)
verdict_by unknown o body = gives tt

unfoldable pub verdict : Order → Kind → List ℕ → Answer (Unit {0})
verdict o k body = verdict_by (row k) o body
