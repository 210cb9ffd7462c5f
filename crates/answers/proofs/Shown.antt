-- The texts show all their bytes: none is longer than 96.
use Prim.Native.Nat.{ℕ, ◌≤◌}
use mathlib.Core.Path.{◌≡◌}
use mathlib.Core.List.{List}
use native.Mathlib.Omega.{arith}
use lib.ListN.{length}
use Rattle.num.specs.Answer.{Answer, gives, refuses}
use Rattle.num.specs.declared.Order.{Order}
use Rattle.num.specs.declared.Order.TheVariants.{Big, Little}
use Rattle.effect.specs.Says.{Says, ok, unknown, bad, waits, ready}
use Rattle.filecheck.specs.File.{FileAnswer, good, refused}
use Rattle.reader.specs.declared.Cause.{Cause}
use Rattle.reader.specs.declared.Cause.TheVariants.{Searching, NoSync, Large, Uneven}
use Rattle.reader.specs.Item.{Item, end, skipped, unfinished, chunk}
use Rattle.listing.specs.Text.{text_of, shown}
use Rattle.listing.proofs.Shown.{shows-all}
use Rattle.answers.specs.Refusals.{refusal_text}
use Rattle.answers.specs.Texts.{answer_text, order_text, says_text, cause_text, item_text, written_text, copied_text, file_text}
use Rattle.answers.proofs.Rows.{refusal-short}

pub refusal-shown : (n : ℕ) → shown (text_of (refusal_text n)) ≡ refusal_text n
refusal-shown n = shows-all (refusal_text n) (refusal-short n)

-- an answer, where what is given has a short text
answer-short : {A : Type 0} (own : A → List ℕ) → ((a : A) → length (own a) ≤ 96) → (x : Answer A) → length (answer_text own x) ≤ 96
answer-short own h (gives a) = h a
answer-short own h (refuses n) = refusal-short n

order-short : (o : Order) → length (order_text o) ≤ 96
order-short Big = omega arith
order-short Little = omega arith

pub order-shown : (x : Answer Order) → shown (text_of (answer_text order_text x)) ≡ answer_text order_text x
order-shown x = shows-all (answer_text order_text x) (answer-short order_text order-short x)

says-short : (s : Says) → length (says_text s) ≤ 96
says-short ok = omega arith
says-short unknown = omega arith
says-short (bad n) = refusal-short n
says-short (waits n t) = refusal-short n
says-short (ready d) = omega arith

pub says-shown : (s : Says) → shown (text_of (says_text s)) ≡ says_text s
says-shown s = shows-all (says_text s) (says-short s)

cause-short : (c : Cause) → length (cause_text c) ≤ 96
cause-short Searching = omega arith
cause-short NoSync = omega arith
cause-short Large = omega arith
cause-short Uneven = omega arith

pub cause-shown : (c : Cause) → shown (text_of (cause_text c)) ≡ cause_text c
cause-shown c = shows-all (cause_text c) (cause-short c)

item-short : (i : Item) → length (item_text i) ≤ 96
item-short end = omega arith
item-short (skipped place n cause) = cause-short cause
item-short (unfinished place n) = omega arith
item-short (chunk place code size says) = says-short says

pub item-shown : (x : Answer Item) → shown (text_of (answer_text item_text x)) ≡ answer_text item_text x
item-shown x = shows-all (answer_text item_text x) (answer-short item_text item-short x)

pub written-shown : (x : Answer ℕ) → shown (text_of (answer_text written_text x)) ≡ answer_text written_text x
written-shown x = shows-all (answer_text written_text x) (answer-short written_text (λ n. omega arith) x)

pub copied-shown : (x : Answer ℕ) → shown (text_of (answer_text copied_text x)) ≡ answer_text copied_text x
copied-shown x = shows-all (answer_text copied_text x) (answer-short copied_text (λ n. omega arith) x)

file-short : (f : FileAnswer) → length (file_text f) ≤ 96
file-short (good items) = omega arith
file-short (refused number place) = refusal-short number

pub file-shown : (f : FileAnswer) → shown (text_of (file_text f)) ≡ file_text f
file-shown f = shows-all (file_text f) (file-short f)
