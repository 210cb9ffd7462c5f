-- The samples of a typed data record, read back ready, are the samples given: once over the order and the width.
use Prim.Native.Nat.{ℕ, ◌+◌, ◌-◌, ◌*◌, ◌^◌, ◌≤◌, ◌<◌}
use mathlib.Core.Path.{◌≡◌, refl, sym, ◌∙◌}
use mathlib.Core.Bool.{Bool, true}
use mathlib.Core.List.{List, ◌++◌, append_assoc}
use native.Mathlib.Omega.{arith}
use lib.IntN.{ℤ}
use lib.ListN.{length, get_or, drop, length-append, get_or-append}
use lib.Seq.{take_at, drop_at, drop-drop}
use mir.Syntax.{w64}
use mir.Val.{of_z}
use Rattle.num.specs.Answer.{Answer, gives, refuses}
use Rattle.num.specs.declared.Order.{Order}
use Rattle.num.proofs.Laws.{bytes-length}
use Rattle.frame.specs.Place.{shows}
use Rattle.frame.specs.Frames.{chunk_bytes}
use Rattle.frame.specs.declared.At.{At}
use Rattle.frame.specs.declared.At.TheVariants.{Complete}
use Rattle.frame.proofs.Frames.{chunk-shows}
use Rattle.body.specs.Kind.{kind_of}
use Rattle.body.specs.declared.sampled.Data.{Data}
use Rattle.copy.specs.Samples.{place_of, i_of, q_of, pairs_of, front_filled}
use Rattle.copy.proofs.Laws.{length-pairs}
use Rattle.effect.specs.Says.{Says, ready}
use Rattle.reader.specs.Item.{Item, chunk}
use Rattle.reader.specs.Step.{step_of}
use Rattle.reader.specs.declared.Cursor.{Cursor}
use Rattle.reader.proofs.Laws.{chunk-size, item-by, other-item}
use Rattle.state.specs.declared.State.{State}
use Rattle.body.specs.Table.{shaped}
use Rattle.samples.specs.Layout.{layout, numbers, values_of}
use Rattle.samples.specs.Copy.{layout_in, layout_by, layout_at, count_of, samples_at, filled}
use Rattle.samples.specs.Inner.Plan.{number_bytes, lies}
use Rattle.samples.specs.declared.Layout.{Layout}
use Rattle.samples.proofs.AtCursor.{stands}
use Rattle.samples.proofs.Plans.{step-lies}
use Rattle.samples.proofs.Ready.{bytes_in, effect-ready}
use Rattle.samples.proofs.Theorems.{count-given}
use Rattle.lay.specs.Numbers.{int64}
use Rattle.lay.specs.Runs.{run_of}
use Rattle.writer.specs.Write.{may_write, write_of, written_out}
use Rattle.writer.proofs.Laws.{taken-size, next-given}
use Rattle.writer.proofs.Bodies.{body-length}
use Rattle.writer.proofs.Theorems.{behind-header, ahead-of-laid}
use Rattle.roundtrip.proofs.Numbers.{Number, none, bytes_one, value_at, AllFit, body_of, one-length, numbers-back}
use Rattle.roundtrip.proofs.Values.{values-same, pair-at}

-- The record of a time and some numbers, one that may be written, stands at the cursor's place of a stream.
pub record Here (float : Bool) (o : Order) (s : List ℕ) (c : Cursor) (code : ℕ) (time : ℤ) (xs : List (Number float)) : Type 0 where
  pub rest : List ℕ
  pub ahead : drop c.place s ≡ chunk_bytes o code (body_of float o time xs) ++ rest
  pub typed : code < 2 ^ 32
  pub taken : may_write o code (body_of float o time xs) ≡ gives tt
  pub fit : AllFit float xs

-- It does where it was written.
pub written-here : (float : Bool) (o : Order) (code : ℕ) (time : ℤ) (xs : List (Number float)) (d : List ℕ) (next : ℕ) (c : Cursor) →
    code < 2 ^ 32 → AllFit float xs → write_of o code (body_of float o time xs) (length d) c.place ≡ gives next →
    Here float o (written_out o code (body_of float o time xs) d c.place) c code time xs
written-here float o code time xs d next c t f e =
    let g = next-given o code (body_of float o time xs) (length d) c.place next e in
    record {
      rest = drop (c.place + length (chunk_bytes o code (body_of float o time xs))) d;
      ahead = rw e (ahead-of-laid d c.place (chunk_bytes o code (body_of float o time xs)) (omega arith));
      typed = t;
      taken = g.0;
      fit = f;
    }

-- a layout is given only for a ready chunk
by-item : (float : Bool) (channel : ℕ) (shown : State) (a : Answer Item) (l : Layout) → layout_by float channel shown a ≡ gives l →
    (p : ℕ) × (code : ℕ) × (size : ℕ) × (says : Says) × (a ≡ gives (chunk p code size says)) × (layout_in float channel shown says code ≡ gives l)
by-item float channel shown (refuses n) l e = let z : ◌≡◌ {A = ℕ} 0 1 = cc in absurd (omega arith)
by-item float channel shown (gives i) l e =
    item-by
    (λ (j : Item). layout_by float channel shown (gives j) ≡ gives l →
    (p : ℕ) × (code : ℕ) × (size : ℕ) × (says : Says) × (gives j ≡ gives (chunk p code size says)) × (layout_in float channel shown says code ≡ gives l))
    (λ p code size says q. (p, code, size, says, refl, q))
    (λ j n q. let z : ◌≡◌ {A = ℕ} 0 1 = cc (other-item (refuses 35) (λ p code size says. layout_in float channel shown says code) j n) in absurd (omega arith))
    i e

-- what the slice holds after a copying call, where each number of the chunk is known by its place
abbrev pub left_with : (float : Bool) → Order → List ℕ → Cursor → ℕ → (ℕ → Number float) → List (Number float) → List (Number float)
left_with float o s c channel value out = filled (count_of float o s c channel (length out)) (layout_at float o s c channel) value out

-- as the call promises it: the numbers are those of the sample bytes
abbrev pub left_by : (float : Bool) → Order → List ℕ → Cursor → ℕ → List (Number float) → List (Number float)
left_by float o s c channel out = left_with float o s c channel (value_at float o (samples_at o s c)) out

module _ (float : Bool) (o : Order) (s : List ℕ) (c : Cursor) (code : ℕ) (time : ℤ) (xs : List (Number float)) (h : Here float o s c code time xs) where
  -- the chunk that a step gives has the record's type and size
  chunk-is : (p k size : ℕ) (says : Says) → (step_of o s c).item ≡ gives (chunk p k size says) → (k ≡ code) × (size ≡ length (body_of float o time xs))
  chunk-is p k size says e =
      let body = body_of float o time xs in
      let t = (stands o c p k size says s e).here in
      let q : shows o (drop c.place s) ≡ Complete code (length body) = rw h.ahead (chunk-shows o code body h.rest (omega (arith, h.typed)) (taken-size o code body h.taken)) in
      let z : ◌≡◌ {A = At} (Complete k size) (Complete code (length body)) = sym t ∙ q in
      (cc, cc)

  -- The sample bytes are those of the numbers.
  pub samples-back : (p k size : ℕ) (says : Says) → (step_of o s c).item ≡ gives (chunk p k size says) → samples_at o s c ≡ run_of (bytes_one float o) xs
  samples-back p k size says e =
      let ys = run_of (bytes_one float o) xs in
      let n : length (int64 o time) ≡ 8 = bytes-length o 8 (of_z w64 time) in
      let m : size - 8 ≡ length ys = omega (arith, (chunk-is p k size says e).1, length-append (int64 o time) ys) in
      let q : drop 20 (drop c.place s) ≡ ys ++ h.rest = rw (h.ahead, ← drop-drop 8 12 (chunk_bytes o code (body_of float o time xs) ++ h.rest), behind-header o code (body_of float o time xs) h.rest, append_assoc (int64 o time) ys h.rest) (drop_at (int64 o time) (ys ++ h.rest) 8 n) in
      rw (e, q, m) (take_at ys h.rest (length ys) refl)

  lie : (channel : ℕ) (l : Layout) → layout_at float o s c channel ≡ gives l →
      (samples_at o s c ≡ run_of (bytes_one float o) xs) × (lies (number_bytes float) (length xs * number_bytes float) l ≡ true)
  unfolding layout_at
  lie channel l e =
      let i = by-item float channel (step_of o s c).shown (step_of o s c).item l e in
      let b = chunk-is i.0 i.1 i.2 i.3 i.4 in
      let n : i.2 - 8 ≡ length xs * number_bytes float = omega (arith, b.1, body-length (bytes_one float o) (number_bytes float) (one-length float o) o time xs) in
      let k = step-lies float o s c channel i.0 i.1 i.2 i.3 i.4 l i.5 in
      (samples-back i.0 i.1 i.2 i.3 i.4, rw n at k)

  -- the values of a layout are numbers of the record
  values-back : (channel : ℕ) (l : Layout) → layout_at float o s c channel ≡ gives l → values_of (value_at float o (samples_at o s c)) l ≡ values_of (λ k. get_or xs k (none float)) l
  values-back channel l e =
      let i = lie channel l e in
      rw i.0 (values-same (value_at float o (run_of (bytes_one float o) xs)) (λ k. get_or xs k (none float)) (length xs) (numbers-back float o xs h.fit) float l i.1)

  filled-by : (channel : ℕ) (out : List (Number float)) (n : Answer ℕ) (a : Answer Layout) → layout_at float o s c channel ≡ a →
      filled n a (value_at float o (samples_at o s c)) out ≡ filled n a (λ k. get_or xs k (none float)) out
  filled-by channel out (gives n) (gives l) e = rw (values-back channel l e)
  filled-by channel out (gives n) (refuses k) e = refl
  filled-by channel out (refuses k) a e = refl

  -- What a copying call leaves in its slice is what it would leave with the given numbers in place of the bytes.
  pub copied-back : (channel : ℕ) (out : List (Number float)) → left_by float o s c channel out ≡ left_with float o s c channel (λ k. get_or xs k (none float)) out
  copied-back channel out = filled-by channel out (count_of float o s c channel (length out)) (layout_at float o s c channel) refl

  -- where a layout is given and the slice has room, its numbers are copied
  pub filled-back : (channel : ℕ) (out : List (Number float)) (l : Layout) → layout_at float o s c channel ≡ gives l → numbers l ≤ length out →
      (count_of float o s c channel (length out) ≡ gives (numbers l))
      × (left_by float o s c channel out ≡ front_filled (values_of (λ k. get_or xs k (none float)) l) out)
  filled-back channel out l e r =
      let n : count_of float o s c channel (length out) ≡ gives (numbers l) = count-given float o s c channel (length out) l e r in
      (n, copied-back channel out ∙ rw (n, e))

  -- and where they are pairs, pair j is its I, then its Q
  pub pairs-laid : (channel : ℕ) (out : List (Number float)) (l : Layout) → layout_at float o s c channel ≡ gives l → l.pairs ≡ true → 2 * l.count ≤ length out →
      (count_of float o s c channel (length out) ≡ gives (2 * l.count))
      × ((j : ℕ) → j < l.count →
      (get_or (left_by float o s c channel out) (2 * j) (none float) ≡ get_or xs (i_of l.iq (place_of l.first l.step j)) (none float))
      × (get_or (left_by float o s c channel out) (2 * j + 1) (none float) ≡ get_or xs (q_of l.iq (place_of l.first l.step j)) (none float)))
  pairs-laid channel out l e q r =
      let value : ℕ → Number float = λ k. get_or xs k (none float) in
      let ys = pairs_of value l.iq l.first l.step l.count in
      let n : length ys ≡ 2 * l.count = length-pairs value l.iq l.first l.step l.count in
      let b = rw q at (filled-back channel out l e (rw q r)) in (
        b.0,
        λ j i.
            let v = pair-at value l.iq l.first l.step (none float) l.count j i in (
              rw (b.1, get_or-append ys (drop (length ys) out) (none float) (2 * j) (omega arith)) v.0,
              rw (b.1, get_or-append ys (drop (length ys) out) (none float) (2 * j + 1) (omega arith)) v.1,
            ),
      )

  -- a ready chunk has the layout of its kind, and as many samples as the numbers make
  pub ready-layout : (p k size : ℕ) (d : Data) (channel : ℕ) → (step_of o s c).item ≡ gives (chunk p k size (ready d)) →
      layout_at float o s c channel ≡ layout float (shaped (kind_of code)) channel (step_of o s c).shown d
  unfolding layout_at
  ready-layout p k size d channel e = let q = (chunk-is p k size (ready d) e).0 in rw (e, q)

  pub ready-count : (p k size : ℕ) (d : Data) → (step_of o s c).item ≡ gives (chunk p k size (ready d)) → length xs * number_bytes float ≡ d.samples * bytes_in (shaped (kind_of code))
  ready-count p k size d e =
      let t = stands o c p k size (ready d) s e in
      let q = chunk-is p k size (ready d) e in
      let r = rw q.0 at (effect-ready o _ _ d (kind_of k) t.said).size in
      omega (arith, q.1, r, chunk-size o s c.place k size t.here, body-length (bytes_one float o) (number_bytes float) (one-length float o) o time xs)
