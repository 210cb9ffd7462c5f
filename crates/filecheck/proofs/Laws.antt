-- Laws of the check, one item at a time, and of the arms of every other case.
use Prim.Native.Nat.{ℕ, ◌+◌, ◌≤◌, ◌<◌}
use mathlib.Core.Path.{◌≡◌, refl, ap, ◌∙◌}
use mathlib.Core.Bool.{Bool, false}
use mathlib.Core.List.{List, [], ◌∷◌}
use native.Mathlib.Omega.{arith}
use lib.ListN.{length, take, drop, drop_of_length-le}
use Rattle.num.specs.Choice.{pick}
use Rattle.num.specs.declared.Order.{Order}
use Rattle.frame.specs.Place.{shows}
use Rattle.frame.specs.Frames.{frames}
use Rattle.frame.specs.Ahead.{ahead_of, is_chunk}
use Rattle.frame.specs.declared.At.TheVariants.{Complete}
use Rattle.frame.specs.declared.Ahead.{Ahead}
use Rattle.frame.specs.declared.Ahead.TheVariants.{End, Stretch, Cut, Chunk}
use Rattle.frame.proofs.Looks.{other-made}
use Rattle.frame.proofs.Frames.{frames-nil, frames-chunk, no-chunk}
use Rattle.body.specs.Kind.{kind_of}
use Rattle.reader.proofs.Laws.{chunk-size}
use Rattle.filecheck.specs.File.{good, refused, part_of, well_formed, begins, passes, then_rest, file_from, file_ahead, file_by, file_of}
use Rattle.filecheck.specs.declared.Part.{Part}
use Rattle.filecheck.specs.declared.Part.TheVariants.{Data, Header, HeaderEnd, Other}

-- the arm of every other case says only that the case is not the one
pub not-chunk : (a : Ahead) → ((code size : ℕ) → a ≡ Chunk code size → ⊥) → is_chunk a ≡ false
not-chunk End h = refl
not-chunk (Stretch stray) h = refl
not-chunk Cut h = refl
not-chunk (Chunk code size) h = absurd (h code size refl)

pub not-header : (p : Part) (well : Bool) → (p ≡ Header → ⊥) → begins p well ≡ false
not-header Data well h = refl
not-header Header well h = absurd (h refl)
not-header HeaderEnd well h = refl
not-header Other well h = refl

-- a file that shows no chunk at its start
pub file-not : (o : Order) (s : List ℕ) → is_chunk (ahead_of o s) ≡ false → file_of o s ≡ refused 41 0
file-not o [] h = ap (file_by o) (frames-nil o)
file-not o (x ∷ l) h = no-chunk o (x ∷ l) 0 (omega arith) (file_by o) (refused 41 0) (λ f rest e. other-made _ _ f e) (ahead_of o (x ∷ l)) refl h

-- a place after the first that shows none
pub ahead-not : (o : Order) (s : List ℕ) (n place : ℕ) (ended : Bool) → place < length s → is_chunk (ahead_of o (drop place s)) ≡ false → file_ahead o s n place ended ≡ refused 44 place
unfolding file_from
ahead-not o s n place ended h k = no-chunk o s place h (file_from o n place ended) (refused 44 place) (λ f rest e. other-made _ _ f e) (ahead_of o (drop place s)) refl k

-- ---- a chunk

-- the first
pub file-chunk : (o : Order) (s : List ℕ) (code size : ℕ) → 0 < length s → shows o s ≡ Complete code size →
    file_of o s ≡ pick (begins (part_of (kind_of code)) (well_formed o code (take size (drop 12 s)))) (file_ahead o s 1 (12 + size) false) (refused 41 0)
file-chunk o s code size h e = ap (file_by o) (frames-chunk o s 0 h code size e) ∙ simp (chunk-size o s 0 code size e)

-- and one after it
pub ahead-chunk : (o : Order) (s : List ℕ) (n place : ℕ) (ended : Bool) (code size : ℕ) → place < length s → shows o (drop place s) ≡ Complete code size →
    file_ahead o s n place ended
    ≡ then_rest place (passes (part_of (kind_of code)) ended (well_formed o code (take size (drop 12 (drop place s)))))
    (file_ahead o s (n + 1) (place + 12 + size))
unfolding file_from
ahead-chunk o s n place ended code size h e = ap (file_from o n place ended) (frames-chunk o s place h code size e) ∙ simp (chunk-size o s place code size e)

-- the end of the file
pub ahead-end : (o : Order) (s : List ℕ) (n place : ℕ) (ended : Bool) → length s ≤ place → file_ahead o s n place ended ≡ pick ended (good n) (refused 42 place)
unfolding file_from
ahead-end o s n place ended h =
    let d : drop place s ≡ [] = drop_of_length-le s {i = place} h in
    ap (λ (l : List ℕ). file_from o n place ended (frames o l)) d ∙ ap (file_from o n place ended) (frames-nil o)
