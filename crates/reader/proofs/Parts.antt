-- The body of a chunk as a part of the stream: what it is, and that a step judges just these bytes.
use Prim.Native.Nat.{ℕ, ◌+◌, ◌≤◌, ◌<◌}
use mathlib.Core.Path.{◌≡◌, refl}
use mathlib.Core.Bool.{Bool, true, false}
use mathlib.Core.List.{List, [], ◌∷◌}
use native.Mathlib.Omega.{arith}
use denote.Enum.Declared.{tag_of}
use types.Run.{OneOf, miss}
use lib.Dec.{ltb}
use lib.ListN.{length, take, drop}
use lib.Seq.{drop-drop}
use borrow.Author.Tests.{le-leb, lt-leb}
use Rattle.num.specs.Answer.{gives}
use Rattle.num.specs.Choice.{pick}
use Rattle.num.specs.declared.Order.{Order}
use Rattle.frame.specs.Ahead.{ahead_of}
use Rattle.frame.specs.declared.Ahead.{Ahead}
use Rattle.frame.specs.declared.Ahead.TheVariants.{End, Stretch, Cut, Chunk}
use Rattle.frame.proofs.Looks.{is-chunk}
use Rattle.body.specs.Kind.{kind_of}
use Rattle.effect.specs.Effect.{effect}
use Rattle.effect.specs.Says.{Says}
use Rattle.reader.specs.Item.{chunk, item_said}
use Rattle.reader.specs.Part.{body_at, body_in}
use Rattle.reader.specs.Step.{before, refused, step_by, step_of, unfit}
use Rattle.reader.specs.declared.Cursor.{Cursor}
use Rattle.reader.specs.declared.Item as declared
use Rattle.reader.specs.declared.Item.TheVariants as items
use Rattle.reader.specs.contracts.Item.{the_type}
use Rattle.reader.proofs.Laws.{chunk-ends, chunk-size}

module _ (s : List ℕ) (place size : ℕ) where
  -- a body that does not lie within the stream is shown as none
  pub body-outside : length s < place + 12 + size → body_at s place size ≡ []
  body-outside h = rw (lt-leb (place + 12 + size) (length s) h)

  -- and one that does is shown whole
  pub body-within : place + 12 + size ≤ length s → body_at s place size ≡ take size (drop (place + 12) s)
  body-within h = rw (le-leb (place + 12 + size) (length s) h)

-- the numbers of the variants that are no chunk
abbrev pub others : List ℕ
others = 0 ∷ 1 ∷ 2 ∷ 3 ∷ 4 ∷ []

-- each of them has no body
pub no-body : (s : List ℕ) (i : declared.Item) → OneOf others (tag_of the_type i) → body_in s (item_said i) ≡ []
no-body s items.PastEnd e = refl
no-body s items.BadState e = refl
no-body s items.End e = refl
no-body s (items.Skipped place length cause) e = refl
no-body s (items.Unfinished place length) e = refl
no-body s (items.Chunk place code size v) e = absurd (miss others 5 tt e)

-- ---- the chunk that a step gives

-- its body is the stream's bytes after its header, whole, and what is said of it is said of just these bytes
pub record Judged (o : Order) (s : List ℕ) (c : Cursor) (place code size : ℕ) (says : Says) (body : List ℕ) : Type 0 where
  pub part : body ≡ take size (drop (place + 12) s)
  pub whole : length body ≡ size
  pub said : says ≡ (effect o (kind_of code) body (before c.in_step c.state)).says

module _ (o : Order) (s : List ℕ) (c : Cursor) where
  judged-at : (code size : ℕ) → ahead_of o (drop c.place s) ≡ Chunk code size →
      Judged o s c c.place code size (effect o (kind_of code) (take size (drop 12 (drop c.place s))) (before c.in_step c.state)).says (body_at s c.place size)
  judged-at code size e =
      let k = is-chunk o (drop c.place s) code size e in
      let q : take size (drop 12 (drop c.place s)) ≡ take size (drop (c.place + 12) s) = rw (drop-drop 12 c.place s) in
      let n : length (take size (drop (c.place + 12) s)) ≡ size = rw q at (chunk-size o s c.place code size k) in
      let w = body-within s c.place size (chunk-ends o s c.place code size k) in
      record { part = w; whole = rw (w) n; said = rw (w, q) }

  module _ (place code size : ℕ) (says : Says) where
    judged-by : (a : Ahead) → ahead_of o (drop c.place s) ≡ a → (step_by o (drop c.place s) c a).item ≡ gives (chunk place code size says) →
        Judged o s c place code size says (body_at s place size)
    judged-by (Chunk k n) e q =
        let p : c.place ≡ place = cc in
        let i : k ≡ code = cc in
        let j : n ≡ size = cc in
        let t : (effect o (kind_of k) (take n (drop 12 (drop c.place s))) (before c.in_step c.state)).says ≡ says = cc in
        rw (← t, ← p, ← i, ← j) (judged-at k n e)
    judged-by End e q = let z : ◌≡◌ {A = ℕ} 0 1 = cc in absurd (omega arith)
    judged-by Cut e q = let z : ◌≡◌ {A = ℕ} 0 1 = cc in absurd (omega arith)
    judged-by (Stretch stray) e q = let z : ◌≡◌ {A = ℕ} 0 1 = cc in absurd (omega arith)

    judged-past : (past unready : Bool) →
        (pick past (refused 2 c) (pick unready (refused 3 c) (step_by o (drop c.place s) c (ahead_of o (drop c.place s))))).item ≡ gives (chunk place code size says) →
        Judged o s c place code size says (body_at s place size)
    judged-past true u q = let z : ◌≡◌ {A = ℕ} 0 1 = cc in absurd (omega arith)
    judged-past false true q = let z : ◌≡◌ {A = ℕ} 0 1 = cc in absurd (omega arith)
    judged-past false false q = judged-by (ahead_of o (drop c.place s)) refl q

    -- the body of the chunk that a step gives is the one that was judged
    pub step-body : (step_of o s c).item ≡ gives (chunk place code size says) → Judged o s c place code size says (body_in s (step_of o s c).item)
    unfolding step_of
    step-body q = rw q (judged-past (ltb (length s) c.place) (unfit c) q)
