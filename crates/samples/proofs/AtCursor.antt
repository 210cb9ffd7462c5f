-- The chunk that a step gives stands at the cursor.
use Prim.Native.Nat.{ℕ}
use mathlib.Core.Path.{◌≡◌, refl, sym, ap, ◌∙◌}
use mathlib.Core.Bool.{Bool, true, false, not}
use mathlib.Core.List.{List}
use native.Mathlib.Omega.{arith}
use lib.Dec.{ltb}
use lib.ListN.{length, take, drop}
use Rattle.num.specs.Answer.{gives}
use Rattle.num.specs.Choice.{pick, both}
use Rattle.num.specs.declared.Order.{Order}
use Rattle.frame.specs.Place.{shows}
use Rattle.frame.specs.Ahead.{ahead_of}
use Rattle.frame.specs.declared.Ahead.{Ahead}
use Rattle.frame.specs.declared.Ahead.TheVariants.{Chunk}
use Rattle.frame.proofs.Looks.{is-chunk, ahead-by}
use Rattle.frame.specs.declared.At.TheVariants.{Complete}
use Rattle.body.specs.Kind.{kind_of}
use Rattle.effect.specs.Says.{Says}
use Rattle.effect.specs.Effect.{Effect, effect}
use Rattle.state.specs.Good.{good_state}
use Rattle.state.specs.declared.State.{State}
use Rattle.reader.specs.Item.{chunk, is_chunk}
use Rattle.reader.proofs.Laws.{gives-other}
use Rattle.reader.specs.Step.{Step, before, refused, accepts, step_by, step_of}
use Rattle.reader.specs.declared.Cursor.{Cursor}

-- the effect on a state of the chunk that l begins with
abbrev pub effect_in : Order → List ℕ → ℕ → ℕ → State → Effect
effect_in o l code size state = effect o (kind_of code) (take size (drop 12 l)) state

-- and where l is ahead of the cursor
abbrev pub effect_of : Order → List ℕ → Cursor → ℕ → ℕ → Effect
effect_of o l c code size = effect_in o l code size (before c.in_step c.state)

pub record Stands (o : Order) (l : List ℕ) (c : Cursor) (t : Step) (code size : ℕ) (says : Says) : Type 0 where
  pub here : shows o l ≡ Complete code size
  pub ahead : ahead_of o l ≡ Chunk code size
  pub step : t ≡ accepts c code size (effect_of o l c code size)
  pub said : (effect_of o l c code size).says ≡ says

module _ (o : Order) (c : Cursor) (p code size : ℕ) (says : Says) where
  stands-by : (l : List ℕ) (a : Ahead) → ahead_of o l ≡ a → (step_by o l c a).item ≡ gives (chunk p code size says) → Stands o l c (step_by o l c a) code size says
  stands-by l a =
      ahead-by (λ (b : Ahead). ahead_of o l ≡ b → (step_by o l c b).item ≡ gives (chunk p code size says) → Stands o l c (step_by o l c b) code size says)
      (λ k n h e.
      let i : k ≡ code = cc in
      let j : n ≡ size = cc in
      let q : (effect_of o l c k n).says ≡ says = cc in
      record { here = is-chunk o l k n h ∙ rw (i, j); ahead = h ∙ rw (i, j); step = rw (i, j); said = rw (← i, ← j) q })
      (λ b n h e.
      let g = gives-other o l c b n in
      let t : g.0 ≡ chunk p code size says = cc g.1 in
      let z : ◌≡◌ {A = Bool} true false = sym (ap is_chunk t) ∙ g.2 in
      let y : ◌≡◌ {A = ℕ} 0 1 = cc in
      absurd (omega arith))
      a

  tests-by : (l : List ℕ) (a b : Bool) →
      let t : Step = pick a (refused 2 c) (pick b (refused 3 c) (step_by o l c (ahead_of o l))) in
      t.item ≡ gives (chunk p code size says) → Stands o l c t code size says
  tests-by l true b e = let z : ◌≡◌ {A = ℕ} 0 1 = cc in absurd (omega arith)
  tests-by l false true e = let z : ◌≡◌ {A = ℕ} 0 1 = cc in absurd (omega arith)
  tests-by l false false e = stands-by l (ahead_of o l) refl e

  pub stands : (s : List ℕ) → (step_of o s c).item ≡ gives (chunk p code size says) → Stands o (drop c.place s) c (step_of o s c) code size says
  unfolding step_of
  stands s e = tests-by (drop c.place s) (ltb (length s) c.place) (both c.in_step (not (good_state c.state))) e
