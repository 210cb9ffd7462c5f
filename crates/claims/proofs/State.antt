-- A state that was rebuilt, the empty state, one with other values or another mark, values with another dBTG or other gains, no sums, and
-- the three parts of the test of a state are each one answer.
use mathlib.Core.Path.{sym, ◌∙◌}
use Rattle.state.proofs.State.rebuilt.Reads as rebuilt
use Rattle.state.proofs.State.empty.Reads as empty
use Rattle.state.proofs.State.with_values.Reads as with_values
use Rattle.state.proofs.State.with_mark.Reads as with_mark
use Rattle.state.proofs.Values.with_total_gain.Reads as with_total_gain
use Rattle.state.proofs.Values.with_gains.Reads as with_gains
use Rattle.state.proofs.Values.good_values.Reads as good_values
use Rattle.state.proofs.Values.is_good.Reads as is_good
use Rattle.state.proofs.good.good_lists.Reads as good_lists
use Rattle.state.proofs.good.good_frequencies.Reads as good_frequencies
use Rattle.state.proofs.sums.no_sums.Reads as no_sums
use Rattle.claims.proofs.Promise.{OneAnswer}

pub rebuilt-one-answer : OneAnswer rebuilt.Post
rebuilt-one-answer κs a r r' s s' p q = p ∙ sym q

pub empty-one-answer : OneAnswer empty.Post
empty-one-answer κs a r r' s s' p q = p ∙ sym q

pub with-values-one-answer : OneAnswer with_values.Post
with-values-one-answer κs a r r' s s' p q = p ∙ sym q

pub with-mark-one-answer : OneAnswer with_mark.Post
with-mark-one-answer κs a r r' s s' p q = p ∙ sym q

pub with-total-gain-one-answer : OneAnswer with_total_gain.Post
with-total-gain-one-answer κs a r r' s s' p q = p ∙ sym q

pub with-gains-one-answer : OneAnswer with_gains.Post
with-gains-one-answer κs a r r' s s' p q = p ∙ sym q

pub no-sums-one-answer : OneAnswer no_sums.Post
no-sums-one-answer κs a r r' s s' p q = p ∙ sym q

pub good-values-one-answer : OneAnswer good_values.Post
good-values-one-answer κs a r r' s s' p q = p ∙ sym q

pub is-good-one-answer : OneAnswer is_good.Post
is-good-one-answer κs a r r' s s' p q = p ∙ sym q

pub good-lists-one-answer : OneAnswer good_lists.Post
good-lists-one-answer κs a r r' s s' p q = p ∙ sym q

pub good-frequencies-one-answer : OneAnswer good_frequencies.Post
good-frequencies-one-answer κs a r r' s s' p q = p ∙ sym q
