-- The numbers of what is wrong with a body.
use Rattle.std.specs.Prelude.{ℕ, Result}
use Rattle.num.specs.Answer.{Answer, answered}
use Rattle.body.specs.declared.faults.Fault.{Fault}
use Rattle.body.specs.declared.faults.Fault.TheVariants.{Size, Value, Count, Padding, Text}

abbrev pub fault_number : Fault → ℕ
fault_number Size = 11
fault_number Value = 12
fault_number Count = 13
fault_number Padding = 14
fault_number Text = 15

-- what reading a body says: the value in it, or the number of what is wrong with it
abbrev pub read_said : {A : Type 0} → Result A Fault → Answer A
read_said = answered fault_number
