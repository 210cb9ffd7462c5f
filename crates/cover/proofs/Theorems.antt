-- The rule, said of channels and samples.
use Prim.Native.Nat.{ℕ, ◌/◌, ◌%◌, ◌≤◌, ◌<◌}
use mathlib.Core.Path.{◌≡◌}
use mathlib.Core.Bool.{true}
use mathlib.Core.List.{List}
use mathlib.Core.Logic.{◌⊎◌}
use lib.ListN.{get_or}
use Rattle.num.proofs.Tests.{both-left, both-right, both-hold}
use Rattle.cover.specs.Cover.{covers, packs, group_covers}
use Rattle.cover.proofs.Laws.{Covered, covers-covered, covered-covers, packed, packs-of}

-- n divides P, and with P / n samples to a channel every sample stands below P, and every pair below P is that of some
-- sample and of only one.
pub record Cover (n inc P : ℕ) (f : ℕ → ℕ) : Type 0 where
  pub divides : P % n ≡ 0
  pub each : Covered n inc (P / n) P f

-- the test holds where that is so, and only there
pub test-says : (n inc P : ℕ) (f : ℕ → ℕ) → covers n inc f P ≡ true → Cover n inc P f
test-says n inc P f h = let s = covers-covered n inc P f h in record { divides = s.0; each = s.1 }

pub says-test : (n inc P : ℕ) (f : ℕ → ℕ) → Cover n inc P f → covers n inc f P ≡ true
says-test n inc P f s = covered-covers n inc P f s.divides s.each

-- a group: 1 to 16 channels, in blocks or in turn, that cover the pairs
pub record Group (P n inc : ℕ) (offsets : List ℕ) : Type 0 where
  pub some : 0 < n
  pub few : n ≤ 16
  pub step : (inc ≡ 1) ⊎ (inc ≡ n)
  pub cover : Cover n inc P (λ c. get_or offsets c 0)

pub group-says : (P n inc : ℕ) (offsets : List ℕ) → group_covers P n inc offsets ≡ true → Group P n inc offsets
unfolding group_covers
group-says P n inc offsets h =
    let f : ℕ → ℕ = λ c. get_or offsets c 0 in
    let p = packed n inc (both-left (packs n inc) (covers n inc f P) h) in
    record {
      some = p.0;
      few = p.1;
      step = p.2;
      cover = test-says n inc P f (both-right (packs n inc) (covers n inc f P) h);
    }

pub says-group : (P n inc : ℕ) (offsets : List ℕ) → Group P n inc offsets → group_covers P n inc offsets ≡ true
unfolding group_covers
says-group P n inc offsets g =
    let f : ℕ → ℕ = λ c. get_or offsets c 0 in
    both-hold (packs n inc) (covers n inc f P) (packs-of n inc g.some g.few g.step) (says-test n inc P f g.cover)
