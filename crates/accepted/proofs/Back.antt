-- A stream is written back as the same bytes where its items are complete chunks and the reader gives none of them a number of 11 to 15.
use Prim.Native.Nat.{ℕ, ◌+◌, ◌≤◌}
use mathlib.Core.Path.{◌≡◌, refl}
use mathlib.Core.Bool.{Bool, true, false, not}
use mathlib.Core.List.{List, [], ◌∷◌}
use native.Mathlib.Omega.{arith}
use borrow.Author.Tests.{le-leb}
use lib.ListN.{length}
use Rattle.num.specs.Answer.{Answer, gives, refuses}
use Rattle.num.specs.declared.Order.{Order}
use Rattle.num.proofs.Laws.{Bytes}
use Rattle.lay.specs.Splice.{splice}
use Rattle.frame.specs.Frames.{Frame, frames}
use Rattle.frame.specs.Frames as Frames
use Rattle.body.specs.Kind.{kind_of}
use Rattle.body.specs.Verdict.{verdict}
use Rattle.state.specs.declared.State.{State}
use Rattle.effect.specs.Effect.{effect}
use Rattle.effect.specs.Says.{says_number}
use Rattle.effect.proofs.Verdicts.{refused-alike}
use Rattle.reader.specs.Items.{items_from, items}
use Rattle.reader.specs.Step.{before}
use Rattle.writer.specs.Records.{records_of, Each, IsChunk, WellFormed, write_all}
use Rattle.writer.proofs.Theorems.{stream-written-back}
use Rattle.accepted.specs.Sound.{malformed, SoundItem}

-- a chunk of which no number of 11 to 15 is said is well-formed, whatever the state
formed-by : (o : Order) (code : ℕ) (body : List ℕ) (st : State) (v : Answer (Unit {0})) → verdict o (kind_of code) body ≡ v →
    not (malformed (says_number (effect o (kind_of code) body st).says)) ≡ true → verdict o (kind_of code) body ≡ gives tt
formed-by o code body st (gives u) e h = e
formed-by o code body st (refuses n) e h =
    let r = (refused-alike o body st n (kind_of code)).1 e in
    let z : false ≡ true = rw (r.2, le-leb 11 n r.0, le-leb n 15 r.1) at h in
    let q : ◌≡◌ {A = ℕ} 0 1 = cc in absurd (omega arith)

-- where all items are sound, the frames are chunks and their records are well-formed
sound-frames : (o : Order) (p : ℕ) (step : Bool) (st : State) (fs : List Frame) → Each SoundItem (items_from o p step st fs) → Each IsChunk fs × Each (WellFormed o) (records_of fs)
unfolding items_from records_of
sound-frames o p step st [] h = (tt, tt)
sound-frames o p step st (Frames.chunk code body ∷ fs) h =
    let t = sound-frames o (p + 12 + length body) true (effect o (kind_of code) body (before step st)).after fs h.1 in
    ((refl, t.0), (formed-by o code body (before step st) (verdict o (kind_of code) body) refl h.0, t.1))
sound-frames o p step st (Frames.skipped stray bytes ∷ fs) h = let z : ◌≡◌ {A = ℕ} 0 1 = cc h.0 in absurd (omega arith)
sound-frames o p step st (Frames.unfinished bytes ∷ fs) h = let z : ◌≡◌ {A = ℕ} 0 1 = cc h.0 in absurd (omega arith)

-- Where every item of a stream is a chunk that the reader refuses with none of 11 to 15, the stream's records, written one after the
-- other from place 0 on into a slice with room for it, are all accepted, the last place is behind the stream, and the slice holds the
-- stream and then what stood there.
pub sound-written-back : (o : Order) (s d : List ℕ) → Bytes s → Each SoundItem (items o s) → length s ≤ length d →
    write_all o (records_of (frames o s)) d 0 ≡ record { slice = splice d 0 s; place = gives (length s) }
sound-written-back o s d g h f =
    let t = sound-frames o 0 false _ (frames o s) h in
    stream-written-back o s d g t.0 t.1 f
