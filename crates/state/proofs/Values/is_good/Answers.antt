-- The three calls promise the three parts of the test.
use Rattle.state.proofs.GoodParts.{parts-good}
use Rattle.state.proofs.Values.is_good.Goals as goal

pub returns : goal.returns
returns c =
    rw (c.good_frequencies.ensures, c.good_lists.ensures, c.good_values.ensures) (parts-good c.args.self)
