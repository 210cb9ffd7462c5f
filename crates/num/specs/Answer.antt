-- What a call answers: what it was asked for, or one of the numbers of refusal.
use Rattle.std.specs.Prelude.{ℕ, Result, Ok, Err}

pub data Answer (A : Type 0) : Type 0 where
  gives : A → Answer A
  refuses : ℕ → Answer A

-- the number of a refusal, 0 where something is given
abbrev pub refusal : {A : Type 0} → Answer A → ℕ
refusal (gives a) = 0
refusal (refuses n) = n

-- an answer in the columns of the table of numbers: its number, 0 where nothing is refused, and the value that goes
-- with it
pub record Reply (A : Type 0) : Type 0 where
  pub number : ℕ
  pub value : A

-- what was given goes with the number 0, and a value of its own with a refusal
abbrev pub reply_with : {A : Type 0} → A → Answer A → Reply A
reply_with own (gives a) = record { number = 0; value = a }
reply_with own (refuses n) = record { number = n; value = own }

-- a refusal stays; what was given goes on
abbrev pub then : {A B : Type 0} → Answer A → (A → Answer B) → Answer B
then (gives a) f = f a
then (refuses n) f = refuses n

-- what a result says, where each error has a number of refusal
abbrev pub answered : {A E : Type 0} → (E → ℕ) → Result A E → Answer A
answered number (Ok a) = gives a
answered number (Err e) = refuses (number e)
