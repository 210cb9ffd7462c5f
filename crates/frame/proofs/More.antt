-- More bytes behind a stream: what a place shows stays, unless it is an unfinished end, so no stretch that a search passes over
-- gets shorter.
use Prim.Native.Nat.{ℕ, suc, ◌+◌, ◌-◌, ◌≤◌, ◌<◌}
use mathlib.Core.Path.{◌≡◌, refl, ap, sym, ◌∙◌}
use mathlib.Core.List.{List, [], ◌∷◌, ◌++◌}
use mathlib.Core.Bool.{Bool, true, false}
use native.Mathlib.Omega.{arith}
use lib.ListN.{length, drop, take, length-append, length-drop}
use lib.Seq.{drop-append-le, take-append-le}
use lib.Dec.{eqb, ltb}
use borrow.Author.Tests.{eq-eqb, ne_eqb, eqb-true, ltb-true, ltb-false, le-leb}
use Rattle.num.specs.Answer.{gives}
use Rattle.num.specs.Choice.{pick}
use Rattle.num.specs.declared.Order.{Order}
use Rattle.num.specs.declared.Order.TheVariants.{Big, Little}
use Rattle.num.proofs.Tests.{both-true}
use Rattle.frame.specs.declared.At.{At}
use Rattle.frame.specs.declared.At.TheVariants.{Unfinished, Complete}
use Rattle.frame.specs.declared.Ahead.TheVariants.{Stretch, Chunk}
use Rattle.frame.specs.declared.Stray.{Stray}
use Rattle.frame.specs.Place.{sync_bytes, starts, word, type_in, size_in, shows, stops, gap, order_of}
use Rattle.frame.specs.Ahead.{ahead_by, ahead_of}
use Rattle.frame.proofs.Laws.{sync-length, headed, begun-is, shows-begun, shows-headed, shows-by, gap-stop, gap-pass, order-short}
use Rattle.frame.proofs.Looks.{is-chunk, is-stretch, ahead-at}
use Rattle.frame.proofs.Frames.{complete}

-- ---- what a place shows

pub starts-more : (w l t : List ℕ) → starts w l ≡ true → starts w (l ++ t) ≡ true
unfolding starts
starts-more [] l t h = refl
starts-more (x ∷ w) [] t h = absurd cc
starts-more (x ∷ w) (y ∷ l) t h =
    let b = both-true (eqb y x) (starts w l) h in
    rw b.0 (starts-more w l t b.1)

-- neither of two lists starts with the other: they differ at a byte that both have, and so they do with more bytes behind
record Apart (w l : List ℕ) : Type 0 where
  here : starts w l ≡ false
  back : starts l w ≡ false

apart-cons : (x y : ℕ) (w l t : List ℕ) (b : Bool) → eqb y x ≡ b → Apart (x ∷ w) (y ∷ l) → (Apart w l → Apart w (l ++ t)) → Apart (x ∷ w) (y ∷ (l ++ t))
unfolding starts
apart-cons x y w l t true e h r =
    let q = eq-eqb x y (sym (eqb-true y x e)) in
    let m = r (record { here = rw e at h.here; back = rw q at h.back }) in
    record { here = rw e m.here; back = rw q m.back }
apart-cons x y w l t false e h r =
    let q : eqb x y ≡ false = ne_eqb x y (λ i. let j = eq-eqb y x (sym i) in cc) in
    record { here = rw e; back = rw q }

apart-more : (w l t : List ℕ) → Apart w l → Apart w (l ++ t)
unfolding starts
apart-more [] l t h = let n = h.here in absurd cc
apart-more (x ∷ w) [] t h = let n = h.back in absurd cc
apart-more (x ∷ w) (y ∷ l) t h = apart-cons x y w l t (eqb y x) refl h (apart-more w l t)

word-more : (o : Order) (l t : List ℕ) (k : ℕ) → k + 4 ≤ length l → word o (drop k (l ++ t)) ≡ word o (drop k l)
word-more o l t k h =
    rw (drop-append-le k l t (omega arith), take-append-le 4 (drop k l) t (simp length-drop (omega arith)))

module _ (o : Order) (l t : List ℕ) (some : 0 < length l) where
  long : length (l ++ t) ≡ length l + length t
  long = length-append l t

  -- the header is the same, and more bytes follow it
  headed-more : starts (sync_bytes o) l ≡ true → 12 ≤ length l → shows o (l ++ t) ≡ headed (type_in o l) (size_in o l) (length (l ++ t) - 12)
  headed-more b h =
      let m = long in
      shows-headed o (l ++ t) (type_in o l) (size_in o l) (starts-more (sync_bytes o) l t b) (omega arith)
      (sym (word-more o l t 4 (omega arith))) (sym (word-more o l t 8 (omega arith)))

  -- where no unfinished end is shown, the same is
  pub shows-more : (shows o l ≡ Unfinished → ⊥) → shows o (l ++ t) ≡ shows o l
  shows-more =
      shows-by (λ (a : At). (a ≡ Unfinished → ⊥) → shows o (l ++ t) ≡ a) o l record {
        none = λ b g k.
            let m = apart-more (sync_bytes o) l t (record { here = b; back = sym (begun-is o l some) ∙ g }) in
            shows-begun o (l ++ t) m.here ∙ rw (begun-is o (l ++ t) (omega (arith, long)), m.back);
        begins = λ b g k. absurd (k refl);
        short = λ b h k. absurd (k refl);
        bad = λ b h g k. headed-more b h ∙ rw g;
        cut = λ b h g m k. absurd (k refl);
        whole = λ b h g m k. headed-more b h ∙ rw (g, le-leb (size_in o l) (length (l ++ t) - 12) (omega (arith, long)));
      }

  -- a place that a search passes over, it passes over
  pub passes-more : stops (shows o l) ≡ false → shows o (l ++ t) ≡ shows o l
  passes-more h = shows-more (λ e. let n = rw e at h in cc)

  -- a complete chunk is the same
  pub complete-more : (code size : ℕ) → shows o l ≡ Complete code size → shows o (l ++ t) ≡ Complete code size
  complete-more code size e = shows-more (λ u. cc) ∙ e

  -- and so is a stretch, with what stands where it begins
  pub stretch-more : (stray : Stray) → ahead_of o l ≡ Stretch stray → ahead_of o (l ++ t) ≡ Stretch stray
  stretch-more stray e =
      ahead-at o (l ++ t) (omega (arith, long)) ∙ ap ahead_by (passes-more (is-stretch o l stray e)) ∙ sym (ahead-at o l some) ∙ e

  pub chunk-more : (code size : ℕ) → ahead_of o l ≡ Chunk code size → ahead_of o (l ++ t) ≡ Chunk code size
  chunk-more code size e = ahead-at o (l ++ t) (omega (arith, long)) ∙ rw (complete-more code size (is-chunk o l code size e))

-- the body of a complete chunk
pub body-more : (o : Order) (l t : List ℕ) (code size : ℕ) → shows o l ≡ Complete code size → take size (drop 12 (l ++ t)) ≡ take size (drop 12 l)
body-more o l t code size e =
    let h = (complete o l code size e).fits in
    rw (drop-append-le 12 l t (omega arith)) (take-append-le size (drop 12 l) t (simp length-drop (omega arith)))

-- ---- the gap

gap-by : (o : Order) (x : ℕ) (l t : List ℕ) (b : Bool) → stops (shows o (x ∷ l)) ≡ b → gap o (l ++ t) ≡ gap o l + gap o (drop (gap o l) l ++ t) →
    gap o (x ∷ (l ++ t)) ≡ gap o (x ∷ l) + gap o (drop (gap o (x ∷ l)) (x ∷ l) ++ t)
gap-by o x l t true e r = let g = gap-stop o (x ∷ l) e in rw g (omega arith)
gap-by o x l t false e r =
    let g : gap o (x ∷ l) ≡ suc (gap o l) = gap-pass o x l e ∙ omega arith in
    let n : stops (shows o (x ∷ (l ++ t))) ≡ false = rw (passes-more o (x ∷ l) t (omega arith) e) e in
    rw g (gap-pass o x (l ++ t) n ∙ omega (arith, r))

-- the places that were passed over still are, and the search goes on from where it stopped
pub gap-on : (o : Order) (l t : List ℕ) → gap o (l ++ t) ≡ gap o l + gap o (drop (gap o l) l ++ t)
unfolding gap
gap-on o [] t = omega arith
gap-on o (x ∷ l) t = gap-by o x l t (stops (shows o (x ∷ l))) refl (gap-on o l t)

-- so no stretch gets shorter
pub gap-more : (o : Order) (l t : List ℕ) → gap o l ≤ gap o (l ++ t)
gap-more o l t = omega (arith, gap-on o l t)

-- and one that a complete chunk ends is as long as it was
pub gap-same : (o : Order) (l t : List ℕ) (code size : ℕ) → shows o (drop (gap o l) l) ≡ Complete code size → gap o (l ++ t) ≡ gap o l
gap-same o l t code size e =
    let r = drop (gap o l) l in
    let f = (complete o r code size e).fits in
    let k : stops (shows o (r ++ t)) ≡ true = rw (complete-more o r t (omega arith) code size e) in
    gap-on o l t ∙ omega (arith, gap-stop o (r ++ t) k)

-- ---- the order

starts-same : (w l t : List ℕ) → length w ≤ length l → starts w (l ++ t) ≡ starts w l
unfolding starts
starts-same [] l t h = refl
starts-same (x ∷ w) [] t h = absurd (omega arith)
starts-same (x ∷ w) (y ∷ l) t h = rw (starts-same w l t (omega arith))

order-by : (l t : List ℕ) (o : Order) (b s : Bool) → pick b (gives Big) (pick s (gives Little) (order_of l)) ≡ gives o →
    (order_of l ≡ gives o → order_of (l ++ t) ≡ gives o) → pick b (gives Big) (pick s (gives Little) (order_of (l ++ t))) ≡ gives o
order-by l t o true s e r = e
order-by l t o false true e r = e
order-by l t o false false e r = r e

order-on : (x : ℕ) (l t : List ℕ) (o : Order) (b : Bool) → ltb (length (x ∷ l)) 4 ≡ b → order_of (x ∷ l) ≡ gives o →
    (order_of l ≡ gives o → order_of (l ++ t) ≡ gives o) → order_of (x ∷ (l ++ t)) ≡ gives o
unfolding order_of
order-on x l t o true h e r =
    let w = sym (order-short (x ∷ l) (ltb-true (length (x ∷ l)) 4 h)) ∙ e in
    absurd cc
order-on x l t o false h e r =
    let n = ltb-false (length (x ∷ l)) 4 h in
    let b = starts-same (sync_bytes Big) (x ∷ l) t (omega (arith, sync-length Big)) in
    let s = starts-same (sync_bytes Little) (x ∷ l) t (omega (arith, sync-length Little)) in
    rw (b, s) (order-by l t o (starts (sync_bytes Big) (x ∷ l)) (starts (sync_bytes Little) (x ∷ l)) e r)

-- an order that was found is found
pub order-more : (s t : List ℕ) (o : Order) → order_of s ≡ gives o → order_of (s ++ t) ≡ gives o
unfolding order_of
order-more [] t o e = absurd cc
order-more (x ∷ l) t o e = order-on x l t o (ltb (length (x ∷ l)) 4) refl e (order-more l t o)
