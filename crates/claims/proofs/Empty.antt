-- Programs that do not do what is asked do not meet the promises: said of every stream, and worked out for a chunk of each width.
use Prim.Native.Nat.{ℕ, ◌+◌, ◌*◌, ◌≤◌, ◌<◌}
use mathlib.Core.Path.{◌≡◌, refl, ap, sym, ◌∙◌}
use mathlib.Core.Bool.{true, false}
use mathlib.Core.List.{List, [], ◌∷◌}
use native.Mathlib.Omega.{arith}
use contract.Lifetimes.{Lfts}
use lib.Ieee.{binary32, of_bits, to_bits, lt}
use lib.IntN.{pos, negsuc}
use lib.ListN.{length, drop}
use lib.Seq.{drop-drop}
use Rattle.std.specs.Prelude.{Result, Ok, Err}
use Rattle.num.specs.Answer.{gives}
use Rattle.num.specs.Choice.{each}
use Rattle.num.specs.declared.Order.{Order}
use Rattle.num.specs.declared.Order.TheVariants.{Big}
use Rattle.frame.specs.Frames.{frames}
use Rattle.frame.specs.Place.{sync_bytes, starts, shows}
use Rattle.frame.specs.declared.At.TheVariants.{Complete}
use Rattle.frame.specs.declared.NoSyncWord.{NoSyncWord}
use Rattle.frame.proofs.Theorems.{order-refused}
use Rattle.frame.proofs.find_order.Reads as find_order
use Rattle.body.specs.Kind.{known, kind_in, kind_of}
use Rattle.body.specs.Lists.{upto}
use Rattle.body.specs.Table.{shaped, none}
use Rattle.body.specs.Table as Slot
use Rattle.body.specs.declared.sampled.Data.{Data}
use Rattle.copy.specs.Samples.{pairs_of, reals_of}
use Rattle.state.specs.Good.{good_from, good_numbers, good_held}
use Rattle.state.specs.State.{set_in, built, emptied, with_values}
use Rattle.effect.specs.Effect.{effect}
use Rattle.effect.specs.Says.{Says}
use Rattle.effect.specs.declared.Verdict.TheVariants.{Ready}
use Rattle.reader.specs.Item.{chunk, item_said}
use Rattle.reader.specs.Items.{items}
use Rattle.reader.specs.Step.{Step, cursor_at, new_cursor, step_of, unfit}
use Rattle.reader.specs.declared.Cursor.{Cursor}
use Rattle.reader.specs.declared.Item as declared
use Rattle.reader.specs.declared.Item.TheVariants.{PastEnd, BadState, End, Skipped, Unfinished, Chunk}
use Rattle.reader.specs.declared.Stepped.{Stepped}
use Rattle.reader.proofs.Cursor.step.Reads as step
use Rattle.reader.proofs.Laws.{step-accepts, chunk-size}
use Rattle.reader.proofs.Theorems.{goes}
use Rattle.reader.proofs.count.Reads as count
use Rattle.writer.specs.Write.{may_write}
use Rattle.writer.specs.declared.Unwritten.{Unwritten}
use Rattle.writer.proofs.Laws.{written}
use Rattle.writer.proofs.Theorems.{written-told}
use Rattle.writer.proofs.write.Reads as write
use Rattle.samples.specs.Copy.{layout_at, count_of}
use Rattle.samples.specs.Layout.{numbers}
use Rattle.samples.specs.declared.Layout.{Layout}
use Rattle.samples.specs.declared.Uncopied.{Uncopied}
use Rattle.samples.proofs.Ready.{bytes_in, effect-ready}
use Rattle.samples.proofs.Theorems.{copied-told, count-given}
use Rattle.samples.proofs.patterns.patterns_at.Reads as patterns
use Rattle.samples.proofs.shorts.shorts_at.Reads as shorts
use Rattle.filecheck.specs.Due.{GoodFile}
use Rattle.filecheck.specs.declared.BadFile.{BadFile}
use Rattle.filecheck.proofs.Theorems.{good-exactly}
use Rattle.filecheck.proofs.check.Reads as check
use Rattle.ending.proofs.Calls.{StepCall, StepOn}
use Rattle.reading.proofs.Answers.{end-exactly, chunk-exactly}
use Rattle.reading.proofs.Next.{new-sound}
use Rattle.claims.specs.Marked.{whole}
use Rattle.claims.proofs.Promise.{Allows, lent, lent_to_fill}

-- ---- one that skips or refuses everything

-- a stretch that was skipped, or a refusal
abbrev pub Idle : declared.Item → Type 0
Idle PastEnd = Unit {0}
Idle BadState = Unit {0}
Idle End = ⊥
Idle (Skipped place length cause) = Unit {0}
Idle (Unfinished place length) = ⊥
Idle (Chunk place code size v) = ⊥

idle-said : (i : declared.Item) {p code size : ℕ} {says : Says} → Idle i → item_said i ≡ gives (chunk p code size says) → ⊥
idle-said PastEnd h e = let z : ◌≡◌ {A = ℕ} 0 1 = cc in absurd (omega arith)
idle-said BadState h e = let z : ◌≡◌ {A = ℕ} 0 1 = cc in absurd (omega arith)
idle-said End h e = h
idle-said (Skipped place length cause) h e = let z : ◌≡◌ {A = ℕ} 0 1 = cc in absurd (omega arith)
idle-said (Unfinished place length) h e = h
idle-said (Chunk place code size v) h e = h

-- No complete chunk of any stream is skipped or refused, where number 3 is not due.
pub no-lost-chunk : (κs : Lfts 1) (a : _) (r : Stepped) (code size : ℕ) → Allows step.Post κs a r → a.0.place < length a.1.1.0.now → unfit a.0 ≡ false →
    shows a.1.0 (drop a.0.place a.1.1.0.now) ≡ Complete code size → Idle r.item → ⊥
no-lost-chunk κs a r code size h l f e i =
    let t = step-accepts a.1.0 a.1.1.0.now a.0 code size l f e in
    idle-said r.item i (h.1.item ∙ ap (λ (x : Step). x.item) t)

-- No stream in which a sync word stands is refused an order.
pub no-refused-order : (κs : Lfts 1) (a : _) (e : NoSyncWord) → Allows find_order.Post κs a (Err e) → (o : Order) (p : ℕ) → p < length a.0.now → starts (sync_bytes o) (drop p a.0.now) ≡ true → ⊥
no-refused-order κs a e h o p l t =
    let w : true ≡ false = sym t ∙ (order-refused a.0.now 1 (sym h.1)).1 p o l in
    let z : ◌≡◌ {A = ℕ} 0 1 = cc in absurd (omega arith)

-- No record that may be written, and for which there is room, is refused.
pub no-refused-record : (κs : Lfts 2) (a : _) (r : Result ℕ Unwritten) → Allows write.Post κs a r → may_write a.0 a.1.0 a.1.1.0.now ≡ gives tt →
    a.1.1.1.1.0 + 12 + length a.1.1.0.now ≤ length a.1.1.1.0.now → r ≡ Ok (a.1.1.1.1.0 + 12 + length a.1.1.0.now)
no-refused-record κs a r h e l = written-told r _ (h.1.0 ∙ written a.0 a.1.0 a.1.1.0.now (length a.1.1.1.0.now) a.1.1.1.1.0 e l)

-- No good file is refused.
pub no-refused-file : (κs : Lfts 1) (a : _) (r : Result ℕ BadFile) → Allows check.Post κs a r → GoodFile a.0 (frames a.0 a.1.0.now) → r ≡ Ok (length (items a.0 a.1.0.now))
no-refused-file κs a r h g = (good-exactly κs a r h.0 h.1 (length (items a.0 a.1.0.now))).1 (g, refl)

-- ---- one and the same item for every stream

-- The first item of a stream that has a byte is not that of the empty stream.
pub no-constant-item : (o : Order) (x : ℕ) (l : List ℕ) (a b : StepCall) → StepOn o [] new_cursor a → StepOn o (x ∷ l) new_cursor b → a.result.item ≡ b.result.item → ⊥
no-constant-item o x l a b on on' e =
    let h : a.result.item ≡ End = (end-exactly o [] new_cursor a on).1 (record { sound = new-sound []; place = refl }) in
    let d = (end-exactly o (x ∷ l) new_cursor b on').0 (sym e ∙ h) in
    absurd (omega (arith, d.place))

-- ---- a cursor that stays where it is, and samples that are not copied

-- Before the end of every stream the cursor moves on, where number 3 is not due.
pub no-resting-cursor : (κs : Lfts 1) (a : _) (r : Stepped) → Allows step.Post κs a r → a.0.place < length a.1.1.0.now → unfit a.0 ≡ false → a.0.place < r.cursor.place
no-resting-cursor κs a r h l f = rw h.1.cursor (goes a.1.0 a.1.1.0.now a.0 f l).on

-- Where a channel's numbers lie in the chunk at the cursor and the slice has room for them, all of them are counted.
pub no-lost-shorts : (κs : Lfts 2) (a : _) (r : Result ℕ Uncopied) (l : Layout) → Allows shorts.Post κs a r → layout_at false a.0 a.1.0.now a.1.1.0 a.1.1.1.0 ≡ gives l →
    numbers l ≤ length a.1.1.1.1.0.now → r ≡ Ok (numbers l)
no-lost-shorts κs a r l h e m = copied-told r (Ok (numbers l)) (h.1.0 ∙ count-given false a.0 a.1.0.now a.1.1.0 a.1.1.1.0 (length a.1.1.1.1.0.now) l e m)

pub no-lost-patterns : (κs : Lfts 2) (a : _) (r : Result ℕ Uncopied) (l : Layout) → Allows patterns.Post κs a r → layout_at true a.0 a.1.0.now a.1.1.0 a.1.1.1.0 ≡ gives l →
    numbers l ≤ length a.1.1.1.1.0.now → r ≡ Ok (numbers l)
no-lost-patterns κs a r l h e m = copied-told r (Ok (numbers l)) (h.1.0 ∙ count-given true a.0 a.1.0.now a.1.1.0 a.1.1.1.0 (length a.1.1.1.1.0.now) l e m)

-- ---- an invented item or sample count

-- No stream has one item more than it has.
pub no-extra-item : (κs : Lfts 1) (a : _) → Allows count.Post κs a (1 + length (items a.0 a.1.0.now)) → ⊥
no-extra-item κs a h = absurd (omega (arith, h.1))

-- The size of every ready chunk is that of its time, 8 bytes, and of as many samples as are told.
pub no-invented-count : (o : Order) (s : List ℕ) (c : Cursor) (a : StepCall) → StepOn o s c a → (p code size : ℕ) (d : Data) → a.result.item ≡ Chunk p code size (Ready d) →
    size ≡ 8 + d.samples * bytes_in (shaped (kind_of code))
no-invented-count o s c a on p code size d e =
    let t = (chunk-exactly o s c a on p code size (Ready d)).0 e in
    let n = chunk-size o s p code size t.here in
    let q = (effect-ready o _ _ d (kind_of code) (sym t.said)).size in
    sym (rw (drop-drop 12 p s) at n) ∙ q

-- ---- worked out: a chunk of each width

-- an SSNC chunk with the time 5 and the pair 1, -1, and a cursor before it that knows packing and sample rate
abbrev pub pair : List ℕ
pair = whole 0x53 0x53 0x4E 0x43 (0 ∷ 0 ∷ 0 ∷ 0 ∷ 0 ∷ 0 ∷ 0 ∷ 5 ∷ 0 ∷ 1 ∷ 0xFF ∷ 0xFF ∷ [])

abbrev pub knowing : Cursor
knowing = cursor_at 0 true (with_values (emptied false) (set_in Slot.rate (record { present = true; value = pos 1 }) (set_in Slot.packing (record { present = true; value = pos 1 }) (built none))))

-- a copy of channel 0 into a slice of two numbers may give this answer
abbrev pub Copies : Lfts 2 → Result ℕ Uncopied → Type 0
Copies κs r = Allows shorts.Post κs (Big, (lent pair, (knowing, (0, (lent_to_fill (pos 0 ∷ pos 0 ∷ []), tt))))) r

-- the count is 2, not 0 and no other, and the two numbers are copied
pub no-other-count : (κs : Lfts 2) (r : Result ℕ Uncopied) → Copies κs r → r ≡ Ok 2
unfolding count_of layout_at shaped step_of good_held good_numbers good_from each upto of_bits to_bits shows starts kind_of kind_in known effect
no-other-count κs r h = copied-told r (Ok 2) h.1.0

pub no-other-samples : (κs : Lfts 2) (r : Result ℕ Uncopied) (h : Copies κs r) → h.0.1.1.1.1.0.now ≡ pos 1 ∷ negsuc 0 ∷ []
unfolding count_of layout_at pairs_of shaped step_of good_held good_numbers good_from each upto of_bits to_bits shows starts kind_of kind_in known effect
no-other-samples κs r h = h.1.1

-- an SFNR chunk with the time 5 and one pattern, which is a NaN, and a cursor that knows sample rate and float full scale
abbrev pub float : List ℕ
float = whole 0x53 0x46 0x4E 0x52 (0 ∷ 0 ∷ 0 ∷ 0 ∷ 0 ∷ 0 ∷ 0 ∷ 5 ∷ 0x7F ∷ 0xC0 ∷ 0 ∷ 1 ∷ [])

abbrev pub scaled : Cursor
scaled = cursor_at 0 true (with_values (emptied false) (set_in Slot.float_scale (record { present = true; value = of_bits binary32 0x3F800000 }) (set_in Slot.rate (record { present = true; value = pos 1 }) (built none))))

pub no-lost-pattern : (κs : Lfts 2) (r : Result ℕ Uncopied) (h : Allows patterns.Post κs (Big, (lent float, (scaled, (0, (lent_to_fill (0 ∷ []), tt))))) r) →
    (r ≡ Ok 1) × (h.0.1.1.1.1.0.now ≡ 0x7FC00001 ∷ [])
unfolding count_of layout_at reals_of shaped step_of good_held good_numbers good_from each upto of_bits to_bits lt shows starts kind_of kind_in known effect
no-lost-pattern κs r h = (copied-told r (Ok 1) h.1.0, h.1.1)
