-- The faults of a group's values one by one, each with its number.
use Prim.Native.Nat.{ℕ, ◌^◌, ◌≤◌, ◌<◌}
use mathlib.Core.Path.{◌≡◌, refl}
use mathlib.Core.Bool.{false}
use borrow.Author.Tests.{le-leb, lt-leb, le-ltb, ne_eqb}
use lib.Ieee.{binary32, of_bits}
use lib.ListN.{get_or}
use Rattle.num.specs.Answer.{Answer, refuses}
use Rattle.num.proofs.Tests.{both-false, each-stop}
use Rattle.body.specs.Levels.{is_finite}
use Rattle.body.specs.declared.groups.GroupPacking.{GroupPacking}
use Rattle.body.specs.declared.groups.GroupGains.{GroupGains}
use Rattle.body.specs.declared.kinds.Kind.TheVariants.{GIQP, GRG}
use Rattle.state.specs.Good.{is_offset}
use Rattle.values.specs.Says.{counted, judged}

-- Number 13, before anything else is looked at: no channel, or more than 16.
pub count-zero : (a : Answer (Unit {0})) → counted 0 a ≡ refuses 13
count-zero a = refl

pub count-above : (n : ℕ) (a : Answer (Unit {0})) → 16 < n → counted n a ≡ refuses 13
count-above n a h = rw (lt-leb n 16 h, both-false)

-- Number 12, with 1 to 16 channels: an increment that is neither 1 nor n,
pub wrong-increment : (g : GroupPacking) → 1 ≤ g.n → g.n ≤ 16 → (g.increment ≡ 1 → ⊥) → (g.increment ≡ g.n → ⊥) →
    judged GIQP g ≡ refuses 12
wrong-increment g few many one all =
    rw (le-leb 1 g.n few, le-leb g.n 16 many, ne_eqb g.increment 1 one, ne_eqb g.increment g.n all)

-- an offset of 2^31 or more,
pub large-offset : (g : GroupPacking) (c : ℕ) → 1 ≤ g.n → g.n ≤ 16 → c < g.n → 2 ^ 31 ≤ get_or g.offsets c 0 → judged GIQP g ≡ refuses 12
large-offset g c few many h large =
    rw (le-leb 1 g.n few, le-leb g.n 16 many, each-stop (λ i. is_offset (get_or g.offsets i 0)) g.n c h (le-ltb (get_or g.offsets c 0) (2 ^ 31) large), both-false)

-- a gain that is a NaN or an infinity.
pub gain-not-finite : (g : GroupGains) (c : ℕ) → 1 ≤ g.n → g.n ≤ 16 → c < g.n → is_finite (get_or g.values c (of_bits binary32 0)) ≡ false →
    judged GRG g ≡ refuses 12
gain-not-finite g c few many h e =
    rw (le-leb 1 g.n few, le-leb g.n 16 many, each-stop (λ i. is_finite (get_or g.values i (of_bits binary32 0))) g.n c h e)
