-- Each step's line is laid behind those before it, so what is laid and the lines ahead stay the whole.
use Rattle.std.proofs.Common.{◌-◌, ◌≡◌, length}
use Rattle.lister.proofs.Laws.{SoFar}
use Rattle.lister.proofs.Page.lines.Given as goal

abbrev pub invariant-loop-cursor : goal.invariant-loop-cursor
invariant-loop-cursor l = record {
  same : l.self.out.ghost_name ≡ l.fn.self.out.ghost_name;
  so_far : SoFar l.order l.s l.fn.self.out.now l.fn.self.at l.self.out.now l.cursor l.self.at;
}

abbrev pub decreases-loop-cursor : goal.decreases-loop-cursor
decreases-loop-cursor l = length l.s - l.cursor.place
