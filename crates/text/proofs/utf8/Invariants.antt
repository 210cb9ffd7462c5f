-- What is ahead is UTF-8 where the whole is.
use Rattle.std.proofs.Common.{◌≡◌, length}
use Rattle.text.specs.Utf8.{is_utf8}
use Rattle.text.proofs.utf8.Given as goal

abbrev pub invariant-loop-block : goal.invariant-loop-block
invariant-loop-block l = is_utf8 l.bytes ≡ is_utf8 l.rest

abbrev pub decreases-loop-block : goal.decreases-loop-block
decreases-loop-block l = length l.rest
