-- How many items a stream of n bytes has at most, and that one has so many.
use Prim.Native.Nat.{ℕ, zero, suc, ◌+◌, ◌*◌, ◌/◌, ◌%◌, ◌≤◌, ◌<◌, min}
use mathlib.Core.Path.{◌≡◌, refl, ap, ◌∙◌}
use mathlib.Core.Bool.{false}
use mathlib.Core.List.{List, [], ◌∷◌, ◌++◌, map}
use native.Mathlib.Omega.{arith}
use lib.ListN.{length, take, length-append}
use lib.Seq.{length-take-le, drop_at, drop-length}
use Rattle.num.specs.Number.{bytes_of}
use Rattle.num.specs.declared.Order.{Order}
use Rattle.num.specs.declared.Order.TheVariants.{Big, Little}
use Rattle.num.proofs.Laws.{Bytes, cons-bytes, append-bytes, number-bytes, bytes-length}
use Rattle.frame.specs.declared.At.TheVariants.{Unfinished, Complete}
use Rattle.frame.specs.Place.{sync_bytes, starts, shows, stops, gap}
use Rattle.frame.specs.Frames.{chunk_bytes, width, first, frames_by, frames}
use Rattle.frame.proofs.Laws.{take-bytes, none-passes, gap-pass, gap-stop}
use Rattle.frame.proofs.Frames.{frames-cons, frames-nil, width-skip, frames-chunk, frames-cut, chunk-shows}
use Rattle.frame.proofs.Short.{header-cut}
use Rattle.body.specs.Kind.{known, kind_in, kind_of}
use Rattle.effect.specs.Effect.{effect}
use Rattle.effect.specs.Ready.{no_state}
use Rattle.effect.specs.Says.{unknown}
use Rattle.reader.specs.declared.Cause.TheVariants.{Searching, NoSync}
use Rattle.reader.specs.Item.{skipped, unfinished, chunk}
use Rattle.reader.specs.Items.{Given, items_from, items}
use Rattle.reader.specs.Rows.{rows_for}
use Rattle.reader.proofs.Rows.{item-rows}
use Rattle.reader.proofs.Theorems.{items-length}
use Rattle.reading.specs.Fullest.{most_items, round, rounds, fullest}

-- a byte 0 begins no sync word
zero-passes : (o : Order) (l : List ℕ) → stops (shows o (0 ∷ l)) ≡ false
unfolding starts
zero-passes Big l = none-passes Big (0 ∷ l) refl refl
zero-passes Little l = none-passes Little (0 ∷ l) refl refl

module _ (o : Order) where
  -- so it is skipped, and nothing with it, where a search stops behind it or nothing is left
  zero-skipped : (l : List ℕ) → gap o l ≡ 0 → length (frames o (0 ∷ l)) ≡ suc (length (frames o l))
  zero-skipped l g =
      let h = zero-passes o l in
      let w : width (first o (0 ∷ l)) ≡ 1 = width-skip o (0 ∷ l) h ∙ gap-pass o 0 l h ∙ rw g in
      ap length (frames-cons o 0 l) ∙ rw w

  -- a chunk without a body has twelve bytes
  bare-length : length (chunk_bytes o 0 []) ≡ 12
  bare-length = simp (length-append, bytes-length) refl

  -- a round has two frames, and then come those of what is behind it
  round-two : (l : List ℕ) → length (frames o (round o ++ l)) ≡ suc (suc (length (frames o l)))
  round-two l =
      let c = chunk_bytes o 0 [] ++ l in
      let e : shows o c ≡ Complete 0 0 = chunk-shows o 0 [] l (omega arith) refl in
      let n : 0 < length c = omega (arith, length-append (chunk_bytes o 0 []) l, bare-length) in
      let f : length (frames o c) ≡ suc (length (frames o l)) =
      ap length (frames-chunk o c 0 n 0 0 e) ∙ ap (λ (r : List ℕ). suc (length (frames o r))) (drop_at (chunk_bytes o 0 []) l 12 bare-length) in
      zero-skipped c (gap-stop o c (rw e)) ∙ ap suc f

  rounds-two : (k : ℕ) (l : List ℕ) → length (frames o (rounds o k l)) ≡ 2 * k + length (frames o l)
  rounds-two zero l = omega arith
  rounds-two (suc k) l = round-two (rounds o k l) ∙ omega (arith, rounds-two k l)

  -- the first bytes of a round: the byte that is skipped, and an unfinished end
  round-begun : (m : ℕ) → 0 < m → m < 12 → length (frames o (0 ∷ take m (chunk_bytes o 0 []))) ≡ 2
  round-begun m some few =
      let t = take m (chunk_bytes o 0 []) in
      let n : length t ≡ m = length-take-le m (chunk_bytes o 0 []) (omega (arith, bare-length)) in
      let e : shows o t ≡ Unfinished = header-cut o _ m some few (omega (arith, bare-length)) in
      let z : 0 + length t ≡ length t = omega arith in
      let f : length (frames o t) ≡ 1 = ap length (frames-cut o t 0 (omega arith) e) ∙ rw (z, drop-length t, frames-nil o) in
      zero-skipped t (gap-stop o t (rw e)) ∙ ap suc f

  -- how many frames the first bytes of a round have: none, one, and from two bytes on two
  left-count : (m : ℕ) → m < 13 → length (frames o (take m (round o))) ≡ min m 2
  unfolding gap
  left-count zero h = ap length (frames-nil o)
  left-count (suc zero) h = zero-skipped [] refl ∙ ap suc (ap length (frames-nil o))
  left-count (suc (suc m)) h = round-begun (suc m) (omega arith) (omega arith) ∙ omega arith

  rounds-length : (k : ℕ) (l : List ℕ) → length (rounds o k l) ≡ 13 * k + length l
  rounds-length zero l = omega arith
  rounds-length (suc k) l = omega (arith, length-append (round o) (rounds o k l), bare-length, rounds-length k l)

  -- The fullest stream of n bytes has n elements,
  pub fullest-length : (n : ℕ) → length (fullest o n) ≡ n
  fullest-length n =
      omega (arith, rounds-length (n / 13) (take (n % 13) (round o)), length-take-le (n % 13) (round o) (omega (arith, bare-length)))

  round-bytes : Bytes (round o)
  round-bytes =
      let none : Bytes [] = λ i. record { fits = omega arith } in
      let size = append-bytes (bytes_of o 4 0) [] (number-bytes o 4 0) none in
      cons-bytes (chunk_bytes o 0 []) (record { fits = omega arith })
      (append-bytes (sync_bytes o) _ (number-bytes o 4 0xA1B2C3D4) (append-bytes (bytes_of o 4 0) _ (number-bytes o 4 0) size))

  rounds-bytes : (k : ℕ) (l : List ℕ) → Bytes l → Bytes (rounds o k l)
  rounds-bytes zero l h = h
  rounds-bytes (suc k) l h = append-bytes (round o) (rounds o k l) round-bytes (rounds-bytes k l h)

  -- each of them a byte.
  pub fullest-bytes : (n : ℕ) → Bytes (fullest o n)
  fullest-bytes n = rounds-bytes (n / 13) (take (n % 13) (round o)) (take-bytes (n % 13) (round o) round-bytes)

  -- It has as many items as most_items says.
  pub fullest-items : (n : ℕ) → length (items o (fullest o n)) ≡ most_items n
  fullest-items n =
      let l = take (n % 13) (round o) in
      items-length o 0 false no_state (frames o (fullest o n)) ∙ rounds-two (n / 13) l ∙ ap (λ (m : ℕ). 2 * (n / 13) + m) (left-count (n % 13) (omega arith))

  -- No stream, in either order, has more items than most_items says for its length.
  pub never-more : (s : List ℕ) → length (items o s) ≤ most_items (length s)
  never-more s =
      let n = length s in
      let r = item-rows o s in
      omega (arith, r.none ((n + 12) / 13) (omega arith), r.one ((n + 11) / 13) (omega arith), r.more (n / 13) (omega arith))

  -- Where the division of n by 13 leaves 2 or more, the fullest stream has an item for each row of a table for n bytes.
  pub bound-met : (n : ℕ) → 2 ≤ n % 13 → length (items o (fullest o n)) ≡ rows_for n
  bound-met n h = fullest-items n ∙ omega arith

-- The fullest stream of fifteen bytes in big order, worked out: as many items as its table has rows.
pub fifteen : map (λ (g : Given). g.item) (items Big (fullest Big 15)) ≡ skipped 0 1 Searching ∷ chunk 1 0 0 unknown ∷ skipped 13 1 NoSync ∷ unfinished 14 1 ∷ []
unfolding items_from frames_by gap shows starts kind_of kind_in known effect
fifteen = refl
