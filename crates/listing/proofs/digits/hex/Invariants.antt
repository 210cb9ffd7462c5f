-- The digits of what is left of the number, as many as places are left, and then the bytes behind them are the digits.
use Rattle.std.proofs.Common.{◌≡◌, ◌++◌, length, drop}
use Rattle.listing.specs.Digits.{hex_digits}
use Rattle.listing.proofs.digits.hex.Given as goal

abbrev pub invariant-loop-i : goal.invariant-loop-i
invariant-loop-i g l = record {
  places : length l.digits ≡ g.row.N;
  whole : hex_digits l.i l.rest ++ drop l.i l.digits ≡ hex_digits g.row.N l.n;
}
