-- Reading what a text makes says what the row says of the text, however long it is.
use Prim.Native.Nat.{ℕ, ◌+◌, ◌^◌, ◌≤◌}
use mathlib.Core.Path.{◌≡◌, refl, sym, ◌∙◌}
use mathlib.Core.Bool.{Bool, true, false}
use mathlib.Core.List.{List}
use native.Mathlib.Omega.{arith}
use borrow.Author.Tests.{ne_eqb, ltb-true, ltb-false}
use lib.Dec.{ltb}
use lib.ListN.{length}
use Rattle.num.specs.Answer.{gives, refuses, then}
use Rattle.num.specs.Choice.{pick}
use Rattle.num.specs.Number.{unsigned_at}
use Rattle.num.specs.declared.Order.{Order}
use Rattle.text.specs.Utf8.{is_utf8}
use Rattle.body.specs.Plain.{padded, texts, text}
use Rattle.body.specs.declared.kinds.Kind.TheVariants.{TEXT}
use Rattle.body.proofs.Texts.{text-negative, text-length}
use Rattle.typed.specs.Texts.{text_body}
use Rattle.typed.proofs.Texts.{text-size, length-back, text-read}
use Rattle.values.specs.Says.{unless, says}
use Rattle.values.proofs.Numbers.{unless-is}

module _ (o : Order) (t : List ℕ) where
  -- a text of 2^31 bytes or more: the number in front is negative, or it is not the text's length
  long-by : (u : ℕ) (negative long : Bool) → u ≡ unsigned_at 4 o (text_body o t) 0 → ltb u (2 ^ 31) ≡ negative → ltb (length t) (2 ^ 32) ≡ long → 2 ^ 31 ≤ length t →
      text o (text_body o t) ≡ refuses 11
  unfolding texts
  long-by u false long e n l h = sym (text-negative o (text_body o t) u e (omega (arith, text-size o t)) (ltb-false u (2 ^ 31) n))
  long-by u true true e n l h =
      let a = ltb-true u (2 ^ 31) n in
      let b : length t ≡ u = length-back o t (ltb-true (length t) (2 ^ 32) l) ∙ sym e in
      absurd (omega arith)
  long-by u true false e n l h =
      let a = ltb-true u (2 ^ 31) n in
      let b = ltb-false (length t) (2 ^ 32) l in
      let s = text-size o t in
      sym (text-length o (text_body o t) u e (omega arith) a) ∙ rw (ne_eqb (length (text_body o t)) (4 + padded u) (λ q. omega arith))

  said-by : (short : Bool) → ltb (length t) (2 ^ 31) ≡ short → text o (text_body o t) ≡ then (pick short (unless 15 (is_utf8 t)) (refuses 11)) (λ _. gives (length t))
  said-by true e = text-read o t (ltb-true (length t) (2 ^ 31) e) ∙ unless-is 15 (is_utf8 t) (length t)
  said-by false e = long-by (unsigned_at 4 o (text_body o t) 0) _ _ refl refl refl (ltb-false (length t) (2 ^ 31) e)

  -- Reading the body of a text says what the row says of the text, for every text.
  pub text-said : text o (text_body o t) ≡ says TEXT t
  text-said = said-by (ltb (length t) (2 ^ 31)) refl
