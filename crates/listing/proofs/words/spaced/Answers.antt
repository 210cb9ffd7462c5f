-- The bytes stand after a space.
use Rattle.listing.proofs.words.spaced.Goals as goal

pub returns : goal.returns
returns c = c.joined.ensures _ _ c.word.ensures c.word-2.ensures
