-- The bytes that a text makes.
use Rattle.std.specs.Prelude.{ℕ, ◌-◌, List, ◌++◌, length, replicate}
use Rattle.num.specs.Number.{bytes_of}
use Rattle.num.specs.declared.Order.{Order}
use Rattle.body.specs.Plain.{padded}

-- TEXT: its length, its bytes, and zero bytes up to the next multiple of 4; of a length only the low four bytes stand
unfoldable pub text_body : Order → List ℕ → List ℕ
text_body o t = bytes_of o 4 (length t) ++ (t ++ replicate (padded (length t) - length t) 0)
