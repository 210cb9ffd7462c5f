-- Total gains worked out, and sums that number 3 refuses.
use mathlib.Core.Path.{◌≡◌, refl}
use mathlib.Core.Bool.{true, false}
use lib.Ieee.{binary32, of_bits, to_bits, add}
use Rattle.num.specs.Choice.{each}
use Rattle.body.specs.Lists.{upto}
use Rattle.state.specs.Sums.{sums_of, agree}
use Rattle.claims.specs.Totals.{total, three, sums}

-- 20 with 1.5, -0 and -20 is 21.5, 20 and 0; -0 with -0, 0 and the smallest float is -0, 0 and that float; 2^24 with 1 and 3, each
-- in the middle of two floats, goes to the even one, and with 1.5 to the nearer one; the largest float with itself is none, with its
-- opposite 0, and with 2^103 none, since that is rounded up to infinity.
pub totals-added :
    (sums_of (total 0x41A00000) (three 0x3FC00000 0x80000000 0xC1A00000) ≡ sums true 0x41AC0000 true 0x41A00000 true 0)
    × (sums_of (total 0x80000000) (three 0x80000000 0 1) ≡ sums true 0x80000000 true 0 true 1)
    × (sums_of (total 0x4B800000) (three 0x3F800000 0x40400000 0x3FC00000) ≡ sums true 0x4B800000 true 0x4B800002 true 0x4B800001)
    × (sums_of (total 0x7F7FFFFF) (three 0x7F7FFFFF 0xFF7FFFFF 0x73000000) ≡ sums false 0 true 0 false 0)
unfolding upto of_bits add
totals-added = (refl, refl, refl, refl)

-- The first of these passes; with -0 in place of 0, a sum that is out of date, one that is missing and one that is left over it is
-- refused, and so is an infinite sum.
pub totals-refused :
    let t = total 0x41A00000 in
    let g = three 0x3FC00000 0x80000000 0xC1A00000 in
    (agree t g (sums true 0x41AC0000 true 0x41A00000 true 0) ≡ true)
    × (agree t g (sums true 0x41AC0000 true 0x41A00000 true 0x80000000) ≡ false)
    × (agree t g (sums true 0x41A80000 true 0x41A00000 true 0) ≡ false)
    × (agree t g (sums true 0x41AC0000 true 0x41A00000 false 0) ≡ false)
    × (agree (record { present = false; value = of_bits binary32 0 }) g (sums true 0x41AC0000 true 0x41A00000 true 0) ≡ false)
    × (agree (total 0x7F7FFFFF) (three 0x7F7FFFFF 0xFF7FFFFF 0x73000000) (sums true 0x7F800000 true 0 false 0) ≡ false)
unfolding upto each of_bits to_bits add
totals-refused = (refl, refl, refl, refl, refl, refl)
