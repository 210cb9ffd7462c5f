-- Only the promises of private functions use these: a data body is judged by its size.
use Rattle.std.specs.Prelude.{ℕ, ◌-◌, ◌%◌, ◌≡◌, List, leb, eqb, length}
use Rattle.num.specs.Answer.{Answer, gives, refuses}
use Rattle.num.specs.Choice.{pick, both}
use Rattle.num.specs.declared.Order.{Order}
use Rattle.body.specs.Kind.{kind_of}
use Rattle.body.specs.Verdict.{verdict}

-- the verdict on a data body by its size alone: 11 unless it has a time and then whole samples of so many bytes each
abbrev pub whole_samples : ℕ → ℕ → Answer (Unit {0})
whole_samples unit size = pick (both (leb 8 size) (eqb ((size - 8) % unit) 0)) (gives tt) (refuses 11)

-- a type is that of a data kind whose samples have so many bytes each
abbrev pub BySize : Order → ℕ → ℕ → Type 0
BySize o code unit = (body : List ℕ) → verdict o (kind_of code) body ≡ whole_samples unit (length body)
