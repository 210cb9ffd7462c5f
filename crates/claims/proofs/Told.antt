-- Where a promise says what the cases of an answer mean, two answers that mean the same are the same.
use Prim.Native.Nat.{ℕ}
use mathlib.Core.Path.{◌≡◌, refl, ap}
use lib.IntN.{ℤ}
use Rattle.std.specs.Prelude.{Option, Some, None, Result, Ok, Err}
use Rattle.num.specs.Answer.{Answer, gives, refuses}
use Rattle.body.specs.Fault.{read_said}
use Rattle.body.specs.declared.levels.Level.{Level}
use Rattle.body.specs.declared.numbers.Band.{Band}
use Rattle.body.specs.declared.sampled.Data.{Data}
use Rattle.body.specs.declared.faults.Fault.{Fault}
use Rattle.effect.specs.Ready.{asked_said}
use Rattle.reader.proofs.Told.{told, fault_of, fault-back}

-- ---- a value that was read, or a fault

read_of : {A : Type 0} → Answer A → Result A Fault
read_of (gives a) = Ok a
read_of (refuses n) = Err (fault_of n)

read-back : {A : Type 0} (x : Result A Fault) → read_of (read_said x) ≡ x
unfolding read_of
read-back (Ok a) = refl
read-back (Err f) = ap Err (fault-back f)

pub read-told : {A : Type 0} (x y : Result A Fault) → read_said x ≡ read_said y → x ≡ y
read-told = told read_said read_of read-back

-- each by the name of what is read: a number, a bandwidth with its offset, a level, data, the length of a text, and nothing
pub number-told : (x y : Result ℤ Fault) → read_said x ≡ read_said y → x ≡ y
number-told = read-told

pub band-told : (x y : Result Band Fault) → read_said x ≡ read_said y → x ≡ y
band-told = read-told

pub level-told : (x y : Result Level Fault) → read_said x ≡ read_said y → x ≡ y
level-told = read-told

pub data-told : (x y : Result Data Fault) → read_said x ≡ read_said y → x ≡ y
data-told = read-told

pub text-told : (x y : Result ℕ Fault) → read_said x ≡ read_said y → x ≡ y
text-told = read-told

pub checked-told : (x y : Result (Unit {0}) Fault) → read_said x ≡ read_said y → x ≡ y
checked-told = read-told

-- ---- data that is ready, or none

asked_of : Answer Data → Option Data
asked_of (gives d) = Some d
asked_of (refuses n) = None

asked-back : (x : Option Data) → asked_of (asked_said x) ≡ x
unfolding asked_of
asked-back (Some d) = refl
asked-back None = refl

pub asked-told : (x y : Option Data) → asked_said x ≡ asked_said y → x ≡ y
asked-told = told asked_said asked_of asked-back
