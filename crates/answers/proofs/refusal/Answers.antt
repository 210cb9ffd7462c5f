-- Any number of no arm is that of no row, so it has no text.
use Rattle.std.proofs.Common.{◌∙◌, ap, sym, rules}
use Rattle.listing.specs.Text.{text_of}
use Rattle.answers.specs.Refusals.{rows, refusal_text}
use Rattle.answers.proofs.Rows.{Other, no-text}
use Rattle.answers.proofs.refusal.Goals as goal

pub returns-in_default : goal.returns-in_default
unfolding refusal_text rows
returns-in_default c =
    let h : Other (Unit {0}) rows c.args.number = search rules in
    c.word-in_default.ensures ∙ ap text_of (sym (no-text (Unit {0}) rows c.args.number h).1)
