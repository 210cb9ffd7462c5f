-- What a copy answers and leaves, where the numbers lie inside the bytes: only the room decides.
use Prim.Native.Nat.{ℕ, ◌*◌, ◌≤◌}
use mathlib.Core.Path.{◌≡◌, sym, ◌∙◌}
use mathlib.Core.Bool.{true, false}
use mathlib.Core.List.{List}
use lib.Dec.{leb}
use borrow.Author.Tests.{leb-true}
use Rattle.num.specs.Choice.{each}
use Rattle.num.specs.Answer.{gives, refuses}
use Rattle.copy.specs.Samples.{inside, place_of, pairs_of, reals_of, front_filled, pairs_fit, reals_fit}
use Rattle.samples.specs.Copy.{count_within, filled}
use Rattle.samples.specs.Inner.Plan.{lies}
use Rattle.samples.specs.declared.Layout.{Layout}

module _ {A : Type 0} (value : ℕ → A) (w size room : ℕ) (l : Layout) (out : List A) (k : lies w size l ≡ true) where
  pairs-room : l.pairs ≡ true → pairs_fit w size l.first l.step l.count room ≡ leb (2 * l.count) room
  pairs-room p = let q : each (λ j. inside w size (place_of l.first l.step j)) l.count ≡ true = rw p at k in rw q

  pub pairs-fits : l.pairs ≡ true → pairs_fit w size l.first l.step l.count room ≡ true → 2 * l.count ≤ room
  pairs-fits p f = leb-true (2 * l.count) room (sym (pairs-room p) ∙ f)

  pub pairs-done : l.pairs ≡ true → pairs_fit w size l.first l.step l.count room ≡ true →
      (gives (2 * l.count) ≡ count_within room l) × (front_filled (pairs_of value l.iq l.first l.step l.count) out ≡ filled (count_within room l) (gives l) value out)
  pairs-done p f = let q = sym (pairs-room p) ∙ f in (rw (p, q), rw (p, q))

  pub pairs-short : l.pairs ≡ true → pairs_fit w size l.first l.step l.count room ≡ false →
      (refuses 33 ≡ count_within room l) × (out ≡ filled (count_within room l) (gives l) value out)
  pairs-short p f = let q = sym (pairs-room p) ∙ f in (rw (p, q), rw (p, q))

  reals-room : l.pairs ≡ false → reals_fit w size l.count room ≡ leb l.count room
  reals-room p = let q : leb (l.count * w) size ≡ true = rw p at k in rw q

  pub reals-done : l.pairs ≡ false → reals_fit w size l.count room ≡ true →
      (gives l.count ≡ count_within room l) × (front_filled (reals_of value l.count) out ≡ filled (count_within room l) (gives l) value out)
  reals-done p f = let q = sym (reals-room p) ∙ f in (rw (p, q), rw (p, q))

  pub reals-short : l.pairs ≡ false → reals_fit w size l.count room ≡ false →
      (refuses 33 ≡ count_within room l) × (out ≡ filled (count_within room l) (gives l) value out)
  reals-short p f = let q = sym (reals-room p) ∙ f in (rw (p, q), rw (p, q))
