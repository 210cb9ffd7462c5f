-- The numbers of a channel lie inside the sample bytes of its chunk.
use Prim.Native.Nat.{ℕ, ◌+◌, ◌-◌, ◌*◌, ◌/◌, ◌≤◌, ◌<◌}
use mathlib.Core.Path.{◌≡◌, refl}
use mathlib.Core.Bool.{Bool, true, false}
use mathlib.Core.List.{List}
use native.Mathlib.Nat.{mul-le-mul_right}
use native.Mathlib.Omega.{arith}
use lib.Dec.{eqb, ltb}
use lib.ListN.{length, get_or}
use borrow.Author.Tests.{le-leb, ltb-true}
use Rattle.num.specs.Answer.{gives, refuses}
use Rattle.num.specs.Choice.{pick}
use Rattle.num.proofs.Tests.{each-all}
use Rattle.body.specs.declared.sampled.Data.{Data}
use Rattle.copy.specs.Samples.{inside, place_of}
use Rattle.cover.proofs.Theorems.{group-says}
use Rattle.state.specs.declared.State.{State}
use Rattle.samples.specs.Inner.Plan.{number_bytes, lies}
use Rattle.samples.specs.Layout.{alone, paired, real, member, one_of, layout}
use Rattle.samples.specs.declared.Layout.{Layout}
use Rattle.body.specs.declared.sampled.Shape.TheVariants.{ShortPairs, ShortReals, ShortGroup, FloatPairs, FloatReals, FloatGroup}
use Rattle.std.specs.Prelude.{Option, Some, None}
use Rattle.body.specs.declared.sampled.Shape.{Shape}
use Rattle.samples.proofs.Ready.{IsReady, Covered}

inside-of : (w size place samples : ℕ) → size ≡ samples * (2 * w) → place < samples → inside w size place ≡ true
inside-of w size place samples e h =
    let q : place + 1 ≤ samples = omega arith in
    le-leb ((place + 1) * (2 * w)) size (rw e (mul-le-mul_right (2 * w) q))

alone-gives : (channel : ℕ) (b : Bool) (x l : Layout) → pick b (gives x) (refuses 34) ≡ gives l → (b ≡ true) × (x ≡ l)
alone-gives channel true x l e = (refl, cc)
alone-gives channel false x l e = let z : ◌≡◌ {A = ℕ} 0 1 = cc in absurd (omega arith)

module _ (channel : ℕ) (body : List ℕ) (s : State) (d : Data) (l : Layout) where
  pairs-lie : (w : ℕ) → length body ≡ 8 + d.samples * (2 * w) → alone channel (paired s d) ≡ gives l → lies w (length body - 8) l ≡ true
  pairs-lie w n e =
      let h = alone-gives channel (eqb channel 0) (paired s d) l e in
      rw (← h.1) (each-all (λ (j : ℕ). inside w (length body - 8) (place_of 0 1 j)) d.samples (λ j q. inside-of w (length body - 8) (place_of 0 1 j) d.samples (omega arith) (omega arith)))

  reals-lie : (w : ℕ) → length body ≡ 8 + d.samples * w → alone channel (real d) ≡ gives l → lies w (length body - 8) l ≡ true
  reals-lie w n e =
      let h = alone-gives channel (eqb channel 0) (real d) l e in
      rw (← h.1) (le-leb (d.samples * w) (length body - 8) (omega arith))

  group-lies : (w : ℕ) → length body ≡ 8 + d.samples * (2 * w) → Covered (Some ShortGroup) d s.values.group → one_of channel s d ≡ gives l → lies w (length body - 8) l ≡ true
  group-lies w n k e =
      let h = alone-gives channel (ltb channel s.values.group.n) (member channel s d) l e in
      let g = group-says d.samples s.values.group.n s.values.group.increment s.values.group.offsets k in
      rw (← h.1) (each-all (λ (j : ℕ). inside w (length body - 8) (place_of (get_or s.values.group.offsets channel 0) s.values.group.increment j)) (d.samples / s.values.group.n) (λ j q. inside-of w (length body - 8) (place_of (get_or s.values.group.offsets channel 0) s.values.group.increment j) d.samples (omega arith) (g.cover.each.inside channel j (ltb-true channel s.values.group.n h.0) q)))

  pub layout-lies : {was : State} (float : Bool) (shaped : Option Shape) → IsReady shaped body d was s → layout float shaped channel s d ≡ gives l → lies (number_bytes float) (length body - 8) l ≡ true
  layout-lies false (Some ShortPairs) r e = pairs-lie 2 r.size e
  layout-lies false (Some ShortReals) r e = reals-lie 2 r.size e
  layout-lies false (Some ShortGroup) r e = group-lies 2 r.size r.cover e
  layout-lies true (Some FloatPairs) r e = pairs-lie 4 r.size e
  layout-lies true (Some FloatReals) r e = reals-lie 4 r.size e
  layout-lies true (Some FloatGroup) r e = group-lies 4 r.size r.cover e
  layout-lies true (Some ShortPairs) r e = let z : ◌≡◌ {A = ℕ} 0 1 = cc in absurd (omega arith)
  layout-lies true (Some ShortReals) r e = let z : ◌≡◌ {A = ℕ} 0 1 = cc in absurd (omega arith)
  layout-lies true (Some ShortGroup) r e = let z : ◌≡◌ {A = ℕ} 0 1 = cc in absurd (omega arith)
  layout-lies false (Some FloatPairs) r e = let z : ◌≡◌ {A = ℕ} 0 1 = cc in absurd (omega arith)
  layout-lies false (Some FloatReals) r e = let z : ◌≡◌ {A = ℕ} 0 1 = cc in absurd (omega arith)
  layout-lies false (Some FloatGroup) r e = let z : ◌≡◌ {A = ℕ} 0 1 = cc in absurd (omega arith)
  layout-lies float None r e = let z : ◌≡◌ {A = ℕ} 0 1 = cc in absurd (omega arith)
