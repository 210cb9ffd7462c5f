-- Laws of texts and their padding.
use Prim.Native.Nat.{ℕ, ◌^◌, ◌≤◌, ◌<◌}
use mathlib.Core.Path.{◌≡◌, refl}
use mathlib.Core.Bool.{Bool, true, false, ◌&&◌}
use mathlib.Core.List.{List, [], ◌∷◌}
use native.Mathlib.Omega.{arith}
use lib.Dec.{eqb}
use lib.ListN.{length}
use mir.Syntax.{w32}
use mir.ValLaws.{to_z_pos}
use borrow.Author.Tests.{lt-ltb, le-ltb, le-leb}
use Rattle.std.specs.List.{list_all}
use Rattle.num.specs.Answer.{refuses}
use Rattle.num.specs.Choice.{both}
use Rattle.num.specs.Number.{unsigned_at}
use Rattle.num.specs.declared.Order.{Order}
use Rattle.body.specs.Plain.{zeros, texts, text}
use Rattle.body.proofs.Laws.{negative32}

and-both : (a b c : Bool) → b ≡ c → a && b ≡ both a c
and-both true b c e = e
and-both false b c e = refl

-- the padding is zero where each byte of it is
pub zeros-all : (s : List ℕ) → list_all (λ b. eqb b 0) s ≡ zeros s
unfolding zeros
zeros-all [] = refl
zeros-all (b ∷ s) = and-both (eqb b 0) (list_all (λ b. eqb b 0) s) (zeros s) (zeros-all s)

-- TEXT, by the pattern u of its length
module _ (o : Order) (body : List ℕ) where
  pub text-short : length body < 4 → refuses 11 ≡ text o body
  unfolding text
  text-short h = rw (lt-ltb (length body) 4 h)

  pub text-negative : (u : ℕ) → u ≡ unsigned_at 4 o body 0 → 4 ≤ length body → 2 ^ 31 ≤ u → refuses 11 ≡ text o body
  unfolding text
  text-negative u e h k = rw (le-ltb (length body) 4 h, ← e, negative32 u k)

  pub text-length : (u : ℕ) → u ≡ unsigned_at 4 o body 0 → 4 ≤ length body → u < 2 ^ 31 → texts body u ≡ text o body
  unfolding text
  text-length u e h k = rw (← e, le-ltb (length body) 4 h, to_z_pos w32 u k, le-leb 0 u (omega arith))

-- what a text says, by the pattern of its length
pub ruleset by_length = (text-short, text-negative, text-length)
