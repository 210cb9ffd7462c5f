-- What is written is read back, and what is read is written back, once over the order; and the answer's cases are told apart.
use Prim.Native.Nat.{ℕ, zero, suc, ◌+◌, ◌^◌, ◌≤◌, ◌<◌}
use mathlib.Core.Path.{◌≡◌, refl, sym, ap, ◌∙◌}
use mathlib.Core.Bool.{true}
use mathlib.Core.List.{List, [], ◌∷◌, ◌++◌, map, flatten, append_assoc}
use native.Mathlib.Omega.{arith}
use native.Mathlib.Nat.{add-zero, zero-add}
use lib.Dec.{eqb}
use lib.ListN.{length, take, drop, length-append}
use lib.Seq.{take_at, drop_at, length-take-le}
use Rattle.std.specs.Prelude.{Result, Ok, Err}
use Rattle.std.specs.Result.{result_unwrap_or}
use Rattle.num.specs.Answer.{Answer, gives, refuses}
use Rattle.num.specs.Choice.{pick}
use Rattle.num.specs.Number.{bytes_of}
use Rattle.num.specs.declared.Order.{Order}
use Rattle.num.specs.declared.Order.TheVariants.{Big, Little}
use Rattle.num.proofs.Laws.{Bytes, bytes-length}
use Rattle.lay.specs.Splice.{splice}
use Rattle.lay.proofs.Splice.{splice-nothing, length-splice, splice-splice}
use Rattle.frame.specs.Place.{sync_bytes, starts, good_size, order_of}
use Rattle.frame.specs.Frames.{Frame, of_chunk, is_chunk, chunk, chunk_bytes, frame_bytes, width, first, frames_by, frames}
use Rattle.frame.proofs.Laws.{starts-self, order-big, order-little}
use Rattle.frame.proofs.Looks.{frame-by, other-made}
use Rattle.frame.proofs.Frames.{chunk-shows, frames-nil, moves, first-sized}
use Rattle.frame.proofs.Theorems.{bytes-whole}
use Rattle.body.specs.declared.faults.Fault.TheVariants as F
use Rattle.writer.specs.Inner.Write.{header_bytes}
use Rattle.writer.specs.Write.{write_of, written_said, written_reply}
use Rattle.writer.specs.Records.{Record, chunk_of, records_of, Each, IsChunk, Taken, WellFormed, Typed, written_all, write_all}
use Rattle.writer.specs.declared.Unwritten.{Unwritten}
use Rattle.writer.specs.declared.Unwritten.TheVariants.{PastEnd, BadSize, Malformed, NoRoom}
use Rattle.writer.proofs.Laws.{header-length, taken-size, written}

-- ---- records are read back

pub chunk-length : (o : Order) (code : ℕ) (body : List ℕ) → length (chunk_bytes o code body) ≡ 12 + length body
chunk-length o code body = simp (length-append, bytes-length) (omega arith)

pub behind-header : (o : Order) (code : ℕ) (body ys : List ℕ) → drop 12 (chunk_bytes o code body ++ ys) ≡ body ++ ys
behind-header o code body ys =
    let h = header_bytes o code (length body) in
    let e : chunk_bytes o code body ++ ys ≡ h ++ (body ++ ys) = simp append_assoc in
    rw e (drop_at h (body ++ ys) 12 (header-length o code (length body)))

body-back : (o : Order) (code : ℕ) (body ys : List ℕ) → take (length body) (drop 12 (chunk_bytes o code body ++ ys)) ≡ body
body-back o code body ys = rw (behind-header o code body ys) (take_at body ys (length body) refl)

-- what is ahead of the place of a chunk that was laid
pub ahead-of-laid : (d : List ℕ) (place : ℕ) (vs : List ℕ) → place ≤ length d → drop place (splice d place vs) ≡ vs ++ drop (place + length vs) d
ahead-of-laid d place vs h = drop_at (take place d) (vs ++ drop (place + length vs) d) place (length-take-le place d h)

-- a chunk at the front is the first frame, and the others are those of the rest
front-back : (o : Order) (code : ℕ) (body ys : List ℕ) → code < 2 ^ 32 → good_size (length body) ≡ true →
    frames o (chunk_bytes o code body ++ ys) ≡ chunk code body ∷ frames o ys
front-back o code body ys h g =
    let s = chunk_bytes o code body ++ ys in
    let n : length s ≡ 12 + length body + length ys = omega (arith, length-append (chunk_bytes o code body) ys, chunk-length o code body) in
    let e : first o s ≡ chunk code body = rw (chunk-shows o code body ys (omega arith) g) (ap (chunk code) (body-back o code body ys)) in
    let d : drop (12 + length body) s ≡ ys = drop_at (chunk_bytes o code body) ys (12 + length body) (chunk-length o code body) in
    let m = moves o s 0 (omega arith) in
    rw (e, zero-add, d) at m.rest

-- The frames of the bytes of some records are their chunks, in order, and nothing else.
pub read-back : (o : Order) (rs : List Record) → Each (Taken o) rs → Each Typed rs → frames o (written_all o rs) ≡ map chunk_of rs
unfolding written_all
read-back o [] h t = frames-nil o
read-back o (r ∷ rs) h t =
    front-back o r.code r.body (written_all o rs) t.0 (taken-size o r.code r.body h.0)
    ∙ ap (λ (fs : List Frame). chunk_of r ∷ fs) (read-back o rs h.1 t.1)

order-front : (o : Order) (ys : List ℕ) → order_of (sync_bytes o ++ ys) ≡ gives o
unfolding starts
order-front Big ys = order-big (sync_bytes Big ++ ys) 0 (omega arith) (starts-self (sync_bytes Big) ys)
order-front Little ys = order-little (sync_bytes Little ++ ys) 0 (omega arith) refl (starts-self (sync_bytes Little) ys)

-- The order is found from what is written: its sync word stands at place 0, and that of the other order does not.
pub order-back : (o : Order) (r : Record) (rs : List Record) → order_of (written_all o (r ∷ rs)) ≡ gives o
unfolding written_all
order-back o r rs =
    let y = bytes_of o 4 r.code ++ (bytes_of o 4 (length r.body) ++ r.body) in
    ap order_of (append_assoc (sync_bytes o) y (written_all o rs)) ∙ order-front o (y ++ written_all o rs)

-- ---- records are written one by one

one-by-one : (o : Order) (rs : List Record) (d : List ℕ) (place : ℕ) → Each (Taken o) rs → place + length (written_all o rs) ≤ length d →
    write_all o rs d place ≡ record { slice = splice d place (written_all o rs); place = gives (place + length (written_all o rs)) }
unfolding written_all write_all
one-by-one o [] d place h f = rw (splice-nothing d place, add-zero place)
one-by-one o (r ∷ rs) d place h f =
    let c = chunk_bytes o r.code r.body in
    let w = written_all o rs in
    let q = place + 12 + length r.body in
    let n : length c ≡ 12 + length r.body = chunk-length o r.code r.body in
    let m : length (c ++ w) ≡ length c + length w = length-append c w in
    let e : write_of o r.code r.body (length d) place ≡ gives q = written o r.code r.body (length d) place h.0 (omega arith) in
    let l : length (splice d place c) ≡ length d = length-splice d place c (omega arith) in
    let k : q + length w ≡ place + length (c ++ w) = omega arith in
    let j : splice (splice d place c) q w ≡ splice d place (c ++ w) = splice-splice d place c w q (omega arith) (omega arith) in
    rw e (one-by-one o rs (splice d place c) q h.1 (omega arith) ∙ rw (j, k))

-- Records written from place 0 on, into a slice with room for them, are laid over its beginning, and the last place is past them.
pub written-one-by-one : (o : Order) (rs : List Record) (d : List ℕ) → Each (Taken o) rs → length (written_all o rs) ≤ length d →
    write_all o rs d 0 ≡ record { slice = splice d 0 (written_all o rs); place = gives (length (written_all o rs)) }
written-one-by-one o rs d h f =
    let z : 0 + length (written_all o rs) ≡ length (written_all o rs) = omega arith in
    one-by-one o rs d 0 h (omega arith) ∙ rw z

-- ---- a stream is written back

chunks-back : (o : Order) (fs : List Frame) → Each IsChunk fs → written_all o (records_of fs) ≡ flatten (map (frame_bytes o) fs)
unfolding written_all records_of flatten
chunks-back o [] h = refl
chunks-back o (f ∷ fs) h =
    frame-by (λ (g : Frame). is_chunk g ≡ true → written_all o (records_of (g ∷ fs)) ≡ flatten (map (frame_bytes o) (g ∷ fs)))
    (λ code body i. ap (λ (l : List ℕ). chunk_bytes o code body ++ l) (chunks-back o fs h.1))
    (λ g n i. let z : ◌≡◌ {A = ℕ} 0 1 = cc in absurd (omega arith))
    f h.0

-- The bytes of the records of a stream of complete chunks are the stream.
pub write-back : (o : Order) (s : List ℕ) → Bytes s → Each IsChunk (frames o s) → written_all o (records_of (frames o s)) ≡ s
write-back o s g h = chunks-back o (frames o s) h ∙ bytes-whole o s g

-- a chunk that was read has a good size
abbrev GoodSized : Record → Type 0
GoodSized r = good_size (length r.body) ≡ true

sized-by : (f : Frame) (fs : List Frame) → of_chunk (Unit {0}) (λ code body. good_size (length body) ≡ true) f → Each GoodSized (records_of fs) → Each GoodSized (records_of (f ∷ fs))
unfolding records_of
sized-by f fs g h =
    frame-by (λ (k : Frame). of_chunk (Unit {0}) (λ code body. good_size (length body) ≡ true) k → Each GoodSized (records_of (k ∷ fs)))
    (λ code body i. (i, h))
    (λ k n i. rw (other-made (records_of fs) (λ code body. record { code = code; body = body } ∷ records_of fs) k n) h)
    f g

sized : (f : ℕ) (o : Order) (l : List ℕ) → Each GoodSized (records_of (frames_by f o l))
unfolding frames_by records_of
sized zero o l = tt
sized (suc f) o [] = tt
sized (suc f) o (x ∷ l) =
    let r = drop (width (first o (x ∷ l))) (x ∷ l) in
    sized-by (first o (x ∷ l)) (frames_by f o r) (first-sized o (x ∷ l)) (sized f o r)

all-taken : (o : Order) (rs : List Record) → Each GoodSized rs → Each (WellFormed o) rs → Each (Taken o) rs
all-taken o [] g h = tt
all-taken o (r ∷ rs) g h = (rw g.0 h.0, all-taken o rs g.1 h.1)

-- A stream that is nothing but complete and well-formed chunks is written back, each byte as it was, into a slice with room for it.
pub stream-written-back : (o : Order) (s d : List ℕ) → Bytes s → Each IsChunk (frames o s) → Each (WellFormed o) (records_of (frames o s)) → length s ≤ length d →
    write_all o (records_of (frames o s)) d 0 ≡ record { slice = splice d 0 s; place = gives (length s) }
stream-written-back o s d g h v f =
    let e : written_all o (records_of (frames o s)) ≡ s = write-back o s g h in
    rw e at (written-one-by-one o (records_of (frames o s)) d (all-taken o (records_of (frames o s)) (sized (length s) o s) v) (rw e f))

-- ---- the answer's cases say different things, so the promise fixes the case

-- the refusal that says a number
abbrev refusal : ℕ → Unwritten
refusal n =
    pick (eqb n 2) PastEnd
    (pick (eqb n 32) BadSize
    (pick (eqb n 31) NoRoom
    (pick (eqb n 11) (Malformed F.Size)
    (pick (eqb n 12) (Malformed F.Value)
    (pick (eqb n 13) (Malformed F.Count)
    (pick (eqb n 14) (Malformed F.Padding)
    (Malformed F.Text)))))))

abbrev unsaid : Answer ℕ → Result ℕ Unwritten
unsaid (gives place) = Ok place
unsaid (refuses n) = Err (refusal n)

unsaid-said : (a : Result ℕ Unwritten) → unsaid (written_said a) ≡ a
unsaid-said (Ok place) = refl
unsaid-said (Err PastEnd) = refl
unsaid-said (Err BadSize) = refl
unsaid-said (Err (Malformed F.Size)) = refl
unsaid-said (Err (Malformed F.Value)) = refl
unsaid-said (Err (Malformed F.Count)) = refl
unsaid-said (Err (Malformed F.Padding)) = refl
unsaid-said (Err (Malformed F.Text)) = refl
unsaid-said (Err NoRoom) = refl

pub written-told : (a b : Result ℕ Unwritten) → written_said a ≡ written_said b → a ≡ b
written-told a b e = sym (unsaid-said a) ∙ ap unsaid e ∙ unsaid-said b

-- Where the next record goes is std's unwrap_or: past the one that was written; with a refusal, the place of the refused call.
pub next-place : (from : ℕ) (a : Result ℕ Unwritten) → result_unwrap_or a from ≡ (written_reply from a).value
next-place from (Ok place) = refl
next-place from (Err refused) = refl
