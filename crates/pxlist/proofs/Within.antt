-- The slice has the bytes that the answer counts.
use Rattle.lister.proofs.Theorems.{laid-within}

pub ruleset within = (laid-within)
