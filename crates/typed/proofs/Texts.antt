-- Laws of a text's bytes: how many they are, how they are laid, and how they are read back.
use Prim.Native.Nat.{ℕ, zero, suc, ◌^◌, ◌+◌, ◌-◌, ◌≤◌, ◌<◌}
use mathlib.Core.Path.{◌≡◌, refl, sym, ap, ◌∙◌}
use mathlib.Core.Bool.{true}
use mathlib.Core.List.{List, [], ◌++◌, append_assoc}
use native.Mathlib.Omega.{arith}
use borrow.Author.Tests.{eq-eqb}
use lib.ListN.{length, take, drop, replicate, length-append, length-replicate, replicate-append-replicate}
use lib.Seq.{take_at, drop_at, take-append-add}
use Rattle.num.specs.Answer.{gives, refuses}
use Rattle.num.specs.Choice.{pick}
use Rattle.num.specs.Number.{unsigned_at, bytes_of}
use Rattle.num.specs.declared.Order.{Order}
use Rattle.num.proofs.Laws.{bytes-length}
use Rattle.text.specs.Utf8.{is_utf8}
use Rattle.body.specs.Plain.{padded, texts, text}
use Rattle.body.specs.Plain as plain
use Rattle.body.proofs.Texts.{text-length}
use Rattle.lay.specs.Splice.{overlaid}
use Rattle.lay.proofs.Splice.{laid-first, laid-on}
use Rattle.typed.specs.Texts.{text_body}
use Rattle.typed.proofs.Numbers.{number-at}

abbrev zeros : ℕ → List ℕ
zeros n = replicate n 0

-- a part of a list of zeros
zeros-part : (j m k : ℕ) → j + m ≤ k → take m (drop j (zeros k)) ≡ zeros m
zeros-part j m k h =
    let r = k - (j + m) in
    let n : j + (m + r) ≡ k = omega arith in
    let e : zeros k ≡ zeros j ++ (zeros m ++ zeros r) =
    sym (ap (λ (l : List ℕ). zeros j ++ l) (replicate-append-replicate m r 0) ∙ replicate-append-replicate j (m + r) 0 ∙ ap zeros n) in
    rw (e, drop_at (zeros j) (zeros m ++ zeros r) j (length-replicate j 0)) (take_at (zeros m) (zeros r) m (length-replicate m 0))

module _ (o : Order) (t : List ℕ) where
  pub text-size : length (text_body o t) ≡ 4 + padded (length t)
  unfolding text_body
  text-size = simp (length-append, bytes-length, length-replicate) (omega arith)

  -- the length and the text, laid over zeros one after the other
  pub text-laid : (k : ℕ) (d l m : List ℕ) → d ≡ replicate k 0 → 4 + padded (length t) ≤ k → l ≡ overlaid d 0 (bytes_of o 4 (length t)) → m ≡ overlaid l 4 t →
      take (4 + padded (length t)) m ≡ text_body o t
  unfolding text_body
  text-laid k d l m z h e g =
      let x = bytes_of o 4 (length t) in
      let p = padded (length t) - length t in
      let n : length (x ++ t) ≡ 4 + length t = simp (length-append, bytes-length) in
      let q : length (x ++ t) + p ≡ 4 + padded (length t) = omega arith in
      let y : length d ≡ k = ap length z ∙ length-replicate k 0 in
      let i = bytes-length o 4 (length t) in
      ap (take (4 + padded (length t))) (laid-on 0 d l m x t 4 (omega arith) (omega arith) (laid-first d l 0 x (omega arith) e) g)
      ∙ ap (λ (i : ℕ). take i ((x ++ t) ++ drop (0 + length (x ++ t)) d)) (sym q)
      ∙ take-append-add (x ++ t) (drop (0 + length (x ++ t)) d) p
      ∙ ap (λ (i : List ℕ). (x ++ t) ++ take p (drop (0 + length (x ++ t)) i)) z
      ∙ ap (λ (i : List ℕ). (x ++ t) ++ i) (zeros-part (0 + length (x ++ t)) p k (omega arith))
      ∙ append_assoc x t (replicate p 0)

-- ---- a text is read back

zeros-zero : (n : ℕ) → plain.zeros (zeros n) ≡ true
unfolding plain.zeros
zeros-zero zero = refl
zeros-zero (suc n) = zeros-zero n

module _ (o : Order) (t : List ℕ) where
  abbrev behind : List ℕ
  behind = t ++ zeros (padded (length t) - length t)

  -- the bytes of the text stand behind its length
  pub text-bytes : take (length t) (drop 4 (text_body o t)) ≡ t
  unfolding text_body
  text-bytes =
      ap (take (length t)) (drop_at (bytes_of o 4 (length t)) behind 4 (bytes-length o 4 (length t)))
      ∙ take_at t (zeros (padded (length t) - length t)) (length t) refl

  padding-back : drop (4 + length t) (text_body o t) ≡ zeros (padded (length t) - length t)
  unfolding text_body
  padding-back =
      let x = bytes_of o 4 (length t) in
      let y = zeros (padded (length t) - length t) in
      let j : length (x ++ t) ≡ 4 + length t = simp (length-append, bytes-length) in
      ap (drop (4 + length t)) (sym (append_assoc x t y)) ∙ drop_at (x ++ t) y (4 + length t) j

  -- the length stands in front, where four bytes hold it
  pub length-back : length t < 2 ^ 32 → length t ≡ unsigned_at 4 o (text_body o t) 0
  unfolding text_body
  length-back h = sym (number-at o 4 (length t) [] behind 0 refl (omega arith))

  -- What a text makes is read as the text's length where the text is UTF-8, and else refused with 15.
  pub text-read : length t < 2 ^ 31 → text o (text_body o t) ≡ pick (is_utf8 t) (gives (length t)) (refuses 15)
  unfolding texts
  text-read h =
      sym (text-length o (text_body o t) (length t) (length-back (omega arith)) (omega (arith, text-size o t)) h)
      ∙ rw (eq-eqb _ _ (text-size o t), padding-back, zeros-zero (padded (length t) - length t), text-bytes)

  pub text-back : length t < 2 ^ 31 → is_utf8 t ≡ true → text o (text_body o t) ≡ gives (length t)
  text-back h u = text-read h ∙ rw u
