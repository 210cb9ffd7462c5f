-- The kinds whose body is a number or two.
use Rattle.std.specs.Prelude.{ℕ, List, ℤ, pos}
use Rattle.std.specs.Int.Signed.{le_z}
use Rattle.num.specs.Answer.{Answer, gives}
use Rattle.num.specs.Choice.{both}
use Rattle.num.specs.declared.Order.{Order}
use Rattle.body.specs.Check.{int32, int64, sized, allowed}
use Rattle.body.specs.declared.numbers.Band.{Band}

-- SIQP: an int32, 1 for I before Q, 0 for Q before I
abbrev pub siqp : Order → List ℕ → Answer ℤ
siqp o body =
    sized 4 body (allowed (both (le_z (pos 0) (int32 o body 0)) (le_z (int32 o body 0) (pos 1))) (int32 o body 0))

-- SOFH: any int32
abbrev pub sofh : Order → List ℕ → Answer ℤ
sofh o body = sized 4 body (gives (int32 o body 0))

-- an int64 that is at least so much
abbrev pub at_least : ℤ → Order → List ℕ → Answer ℤ
at_least least o body = sized 8 body (allowed (le_z least (int64 o body 0)) (int64 o body 0))

-- SR__: µHz, at least 1
abbrev pub sr : Order → List ℕ → Answer ℤ
sr = at_least (pos 1)

-- BW__ and GCBW: µHz, at least 0
abbrev pub bw : Order → List ℕ → Answer ℤ
bw = at_least (pos 0)

-- CF__: any number of µHz
abbrev pub cf : Order → List ℕ → Answer ℤ
cf o body = sized 8 body (gives (int64 o body 0))

-- BWOF: a bandwidth as in BW__, then any offset
abbrev pub bwof : Order → List ℕ → Answer Band
bwof o body =
    sized 16 body (allowed (le_z (pos 0) (int64 o body 0)) (record { width = int64 o body 0; offset = int64 o body 8 }))
