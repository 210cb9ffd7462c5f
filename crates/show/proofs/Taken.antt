-- A piece takes a byte at least and none past the end.
use Rattle.listing.proofs.Pieces.{piece-taken}

pub ruleset taken = (piece-taken)
