-- The group kinds: GIQP, GCF_, GRG_, each a count n and n values.
use Rattle.std.specs.Prelude.{ℕ, ◌+◌, ◌*◌, Bool, false, List, eqb, ltb, Float, ℤ, pos, negsuc, nat_abs, length, replicate}
use Rattle.std.specs.Float.{binary32}
use Rattle.std.specs.Float.Ieee.{of_bits}
use Rattle.std.specs.Int.Signed.{le_z}
use Rattle.num.specs.Answer.{Answer, gives, refuses}
use Rattle.num.specs.Choice.{pick, both, either, each}
use Rattle.num.specs.declared.Order.{Order}
use Rattle.body.specs.Check.{int32, int64, sized, allowed}
use Rattle.body.specs.Levels.{float32, is_finite}
use Rattle.body.specs.Lists.{sixteen}
use Rattle.body.specs.declared.groups.GroupPacking.{GroupPacking}
use Rattle.body.specs.declared.groups.GroupHertz.{GroupHertz}
use Rattle.body.specs.declared.groups.GroupGains.{GroupGains}

-- absent lists: no channel, and 0 in every place
abbrev pub no_packing : GroupPacking
no_packing = record { n = 0; iq = false; increment = 0; offsets = replicate 16 0 }

abbrev pub no_hertz : GroupHertz
no_hertz = record { n = 0; values = replicate 16 (pos 0) }

abbrev pub no_gains : GroupGains
no_gains = record { n = 0; values = replicate 16 (of_bits binary32 0) }

-- number 13 unless a group has 1 to 16 channels
abbrev pub with_channels : {A : Type 0} → ℤ → (ℕ → Answer A) → Answer A
with_channels z f = pick (both (le_z (pos 1) z) (le_z z (pos 16))) (f (nat_abs z)) (refuses 13)

-- a count n first, then whatever else stands before the values, then n values: the size up to the values, the size of a
-- value
unfoldable pub listed : {A : Type 0} → ℕ → ℕ → Order → List ℕ → (ℕ → Answer A) → Answer A
listed head value o body f =
    pick (ltb (length body) head) (refuses 11)
    (with_channels (int32 o body 0) (λ n. sized (head + value * n) body (f n)))

-- the bytes of a GIQP before its offsets: n, packing and increment
abbrev pub packing_head : ℕ
packing_head = 12

-- GIQP: n, packing 0 or 1, increment 1 or n, n offsets of at least 0
unfoldable pub offset_at : Order → List ℕ → ℕ → ℤ
offset_at o body c = int32 o body (packing_head + 4 * c)

-- z is the number k
abbrev pub is_number : ℕ → ℤ → Bool
is_number k (pos m) = eqb m k
is_number k (negsuc m) = false

-- packing 0 or 1, increment 1 or n
abbrev pub head_ok : ℕ → ℤ → ℤ → Bool
head_ok n packing increment =
    both (either (is_number 0 packing) (is_number 1 packing)) (either (is_number 1 increment) (is_number n increment))

abbrev pub offsets_ok : Order → List ℕ → ℕ → Bool
offsets_ok o body n = each (λ c. le_z (pos 0) (offset_at o body c)) n

unfoldable pub packed : Order → List ℕ → ℕ → Answer GroupPacking
packed o body n =
    allowed (both (head_ok n (int32 o body 4) (int32 o body 8)) (offsets_ok o body n))
    (record {
      n = n;
      iq = is_number 1 (int32 o body 4);
      increment = nat_abs (int32 o body 8);
      offsets = sixteen (λ c. nat_abs (offset_at o body c)) 0 n;
    })

abbrev pub giqp : Order → List ℕ → Answer GroupPacking
giqp o body = listed packing_head 4 o body (packed o body)

-- GCF_: n, then n int64
unfoldable pub hertz_at : Order → List ℕ → ℕ → ℤ
hertz_at o body c = int64 o body (4 + 8 * c)

unfoldable pub tuned : Order → List ℕ → ℕ → Answer GroupHertz
tuned o body n = gives (record { n = n; values = sixteen (hertz_at o body) (pos 0) n })

abbrev pub gcf : Order → List ℕ → Answer GroupHertz
gcf o body = listed 4 8 o body (tuned o body)

-- GRG_: n, then n finite float32
unfoldable pub gain_at : Order → List ℕ → ℕ → Float
gain_at o body c = float32 o body (4 + 4 * c)

abbrev pub gains_ok : Order → List ℕ → ℕ → Bool
gains_ok o body n = each (λ c. is_finite (gain_at o body c)) n

unfoldable pub amplified : Order → List ℕ → ℕ → Answer GroupGains
amplified o body n =
    allowed (gains_ok o body n) (record { n = n; values = sixteen (gain_at o body) (of_bits binary32 0) n })

abbrev pub grg : Order → List ℕ → Answer GroupGains
grg o body = listed 4 4 o body (amplified o body)
