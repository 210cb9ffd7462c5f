-- After k turns of the first loop the first 2 k halves are the numbers as the little order reads them; after i turns of the
-- second the first i of them are laid, turned, behind what stands before pair j.
use Rattle.std.proofs.Common.{◌≡◌, ℕ, ◌+◌, ◌*◌, ◌<◌, ◌≤◌, ◌++◌, List, ℤ, length, take, drop, slice_index}
use Rattle.num.specs.Number.{unsigned}
use Rattle.num.specs.declared.Order.TheVariants.{Big, Little}
use Rattle.copy.specs.Samples.{bytes_at, short_at, reals_of, front_filled}
use Rattle.copy.proofs.shorts.block.Given as goal

-- number m from a pair's place on, as the little order reads it
abbrev pub Read : List ℕ → ℕ → ℕ → ℕ → Type 0
Read src place m x = x ≡ unsigned Little (bytes_at 2 src (2 * place + m))

-- the numbers from there on
abbrev pub numbers : List ℕ → ℕ → ℕ → ℤ
numbers src place m = short_at Big src (2 * place + m)

abbrev pub invariant-loop-k : goal.invariant-loop-k
invariant-loop-k l = record {
  within : l.k ≤ 16;
  long : length l.halves ≡ 32;
  read : (m : ℕ) → m < 2 * l.k → Read l.src l.place m (slice_index l.halves m);
}

abbrev pub invariant-loop-i : goal.invariant-loop-i
invariant-loop-i l = record {
  within : l.i ≤ 32;
  laid : l.out ≡ take (2 * l.j) l.fn.out ++ front_filled (reals_of (numbers l.src l.place) l.i) (drop (2 * l.j) l.fn.out);
}
