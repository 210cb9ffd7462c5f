-- Two digits stand after a backslash and an x.
use Rattle.std.proofs.Common.{◌∙◌, ap}
use Rattle.listing.specs.Text.{text_of}
use Rattle.listing.proofs.characters.escape.Goals as goal

pub returns : goal.returns
returns c = c.joined.ensures _ _ c.word.ensures (c.word-2.ensures ∙ ap text_of (rw c.from.ensures at c.hex.ensures))
