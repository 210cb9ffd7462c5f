-- After j turns the first j numbers are laid. The second loop goes on where the first ends.
use Rattle.std.proofs.Common.{◌≡◌, ◌+◌, ◌≤◌}
use Rattle.copy.specs.Samples.{pattern_at, reals_of, front_filled}
use Rattle.copy.proofs.patterns.lay.Given as goal

abbrev pub invariant-loop-j : goal.invariant-loop-j
invariant-loop-j l = record {
  within : l.j ≤ l.few;
  laid : l.out ≡ front_filled (reals_of (λ k. pattern_at l.order l.src (l.first + k)) l.j) l.fn.out;
}

abbrev pub invariant-loop-j-2 : goal.invariant-loop-j-2
invariant-loop-j-2 l = record {
  within : l.j ≤ l.count;
  laid : l.out ≡ front_filled (reals_of (λ k. pattern_at l.order l.src (l.first + k)) l.j) l.fn.out;
}
