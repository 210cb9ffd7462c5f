-- Where an answer is a refusal, what is said of it is the text of its number.
use mathlib.Core.Path.{◌≡◌, refl}
use mathlib.Core.List.{[], ◌∷◌}
use denote.Enum.Declared.{tag_of}
use types.Run.{OneOf, miss}
use Rattle.std.specs.Prelude.{Err}
use Rattle.num.specs.Answer.{refusal}
use Rattle.effect.specs.Says.{verdict_said, says_number}
use Rattle.effect.specs.declared.Verdict.{Verdict}
use Rattle.effect.specs.declared.Verdict.TheVariants as verdicts
use Rattle.effect.specs.contracts.Verdict as verdict
use Rattle.reader.specs.Item.{item_said, item_number}
use Rattle.reader.specs.declared.Item.{Item}
use Rattle.reader.specs.declared.Item.TheVariants as items
use Rattle.reader.specs.contracts.Item as item
use Rattle.writer.specs.Write.{written_said}
use Rattle.writer.specs.declared.Unwritten.{Unwritten}
use Rattle.samples.specs.Copy.{copied_said}
use Rattle.samples.specs.declared.Uncopied.{Uncopied}
use Rattle.filecheck.specs.File.{file_said, file_number}
use Rattle.filecheck.specs.declared.BadFile.{BadFile}
use Rattle.answers.specs.Refusals.{refusal_text}
use Rattle.answers.specs.Texts.{answer_text, says_text, item_text, written_text, copied_text, file_text}

pub verdict-refused : (v : Verdict) → OneOf (2 ∷ 3 ∷ 4 ∷ []) (tag_of verdict.the_type v) → says_text (verdict_said v) ≡ refusal_text (says_number (verdict_said v))
verdict-refused verdicts.Good e = absurd (miss (2 ∷ 3 ∷ 4 ∷ []) 0 tt e)
verdict-refused verdicts.Unknown e = absurd (miss (2 ∷ 3 ∷ 4 ∷ []) 1 tt e)
verdict-refused (verdicts.Malformed f) e = refl
verdict-refused verdicts.NotCovered e = refl
verdict-refused (verdicts.Waits l t) e = refl
verdict-refused (verdicts.Ready d) e = absurd (miss (2 ∷ 3 ∷ 4 ∷ []) 5 tt e)

pub item-refused : (i : Item) → OneOf (0 ∷ 1 ∷ []) (tag_of item.the_type i) → answer_text item_text (item_said i) ≡ refusal_text (item_number (item_said i))
item-refused items.PastEnd e = refl
item-refused items.BadState e = refl
item-refused items.End e = absurd (miss (0 ∷ 1 ∷ []) 2 tt e)
item-refused (items.Skipped place length cause) e = absurd (miss (0 ∷ 1 ∷ []) 3 tt e)
item-refused (items.Unfinished place length) e = absurd (miss (0 ∷ 1 ∷ []) 4 tt e)
item-refused (items.Chunk place code size v) e = absurd (miss (0 ∷ 1 ∷ []) 5 tt e)

pub written-refused : (e : Unwritten) → answer_text written_text (written_said (Err e)) ≡ refusal_text (refusal (written_said (Err e)))
written-refused e = refl

pub copied-refused : (e : Uncopied) → answer_text copied_text (copied_said (Err e)) ≡ refusal_text (refusal (copied_said (Err e)))
copied-refused e = refl

pub file-refused : (e : BadFile) → file_text (file_said (Err e)) ≡ refusal_text (file_number (file_said (Err e)))
file-refused e = refl
