-- Laws of places that a search passes over by two bytes alone.
use Prim.Native.Nat.{ℕ, zero, suc, ◌+◌, ◌-◌, ◌<◌}
use mathlib.Core.Path.{◌≡◌, refl, ap, sym, ◌∙◌}
use mathlib.Core.List.{List}
use mathlib.Core.Bool.{true, false}
use native.Mathlib.Nat.{add-zero}
use native.Mathlib.Omega.{arith}
use lib.ListN.{length, get_or, drop, length-drop, get_or-append}
use lib.Seq.{get_or-drop}
use Rattle.std.proofs.Common.{Bor}
use Rattle.num.specs.declared.Order.{Order}
use Rattle.num.specs.declared.Order.TheVariants.{Big, Little}
use Rattle.frame.specs.declared.BadSize.{BadSize}
use Rattle.std.specs.Prelude.{Some}
use mathlib.Core.Logic.{◌⊎◌}
use Rattle.frame.specs.declared.At.{At}
use Rattle.frame.specs.declared.At.TheVariants.{NoSync, Bad, Unfinished, Complete}
use Rattle.frame.specs.declared.Front.{Front}
use Rattle.frame.specs.Inner.Passes.{Passes}
use Rattle.frame.specs.Place.{sync_bytes, starts, begun, shows, stops, gap, search_from}
use Rattle.frame.proofs.Laws.{never-true, sync-length, starts-split, begun-starts, none-passes, gap-step, search-here, stop-told}
use Rattle.frame.proofs.Bad.{bad-only}

-- where the sync word stands, each of its bytes does
starts-at : (w s : List ℕ) (p k : ℕ) → k < length w → starts w (drop p s) ≡ true → get_or s (p + k) 0 ≡ get_or w k 0
starts-at w s p k h t =
    sym (get_or-drop p s k 0) ∙ ap (λ (l : List ℕ). get_or l k 0) (starts-split w (drop p s) t) ∙ get_or-append w (drop (length w) (drop p s)) 0 k h

-- where the stream's end begins it, each byte of the end is the word's
begun-at : (o : Order) (s : List ℕ) (p k : ℕ) → p + k < length s → begun o (drop p s) ≡ true → get_or s (p + k) 0 ≡ get_or (sync_bytes o) k 0
begun-at o s p k h t =
    let l = drop p s in
    sym (ap (λ (w : List ℕ). get_or w k 0) (starts-split l (sync_bytes o) (begun-starts o l t))
    ∙ get_or-append l (drop (length l) (sync_bytes o)) 0 k (omega (arith, length-drop p s))
    ∙ get_or-drop p s k 0)

-- a search does not stop at such a place, where a byte follows it
passes-at : (o : Order) (s : List ℕ) (p : ℕ) → p + 1 < length s → (get_or s p 0 ≡ get_or (sync_bytes o) 0 0 → get_or s (p + 1) 0 ≡ get_or (sync_bytes o) 1 0 → ⊥) →
    stops (shows o (drop p s)) ≡ false
passes-at o s p q h =
    let n = sync-length o in
    none-passes o (drop p s)
    (never-true (starts (sync_bytes o) (drop p s)) (λ t.
    h (rw add-zero at (starts-at (sync_bytes o) s p 0 (omega arith) t)) (starts-at (sync_bytes o) s p 1 (omega arith) t)))
    (never-true (begun o (drop p s)) (λ t.
    h (rw add-zero at (begun-at o s p 0 (omega arith) t)) (begun-at o s p 1 (omega arith) t)))

-- so it stops where it does from behind them, w being the sync word
module _ (o : Order) (s : Bor (List ℕ)) (w : List ℕ) (e : w ≡ sync_bytes o) where
  abbrev front : Front
  front = record { s = s; first = get_or w 0 0; second = get_or w 1 0 }

  gap-by : (from n : ℕ) → Passes front from (from + n) → from + n + gap o (drop (from + n) s.now) ≡ from + gap o (drop from s.now)
  gap-by from zero h = rw add-zero
  gap-by from (suc n) h =
      let q : from + suc n ≡ from + n + 1 = omega arith in
      let b = h.high in
      let g = gap-by from n record { low = omega arith; high = omega arith; free = λ k l. h.free k (omega arith) } in
      let t = gap-step o s.now (from + n) (omega arith) (passes-at o s.now (from + n) (omega arith) (rw e at (h.free (from + n) (omega arith) (omega arith)))) in
      rw q (omega (arith, g, t))

  pub passes-gap : (from to : ℕ) → Passes front from to → to + gap o (drop to s.now) ≡ from + gap o (drop from s.now)
  passes-gap from to h =
      let l = h.low in
      let q : from + (to - from) ≡ to = omega arith in
      rw q at (gap-by from (to - from) (rw q h))

-- ---- past a sync word

-- it begins with a byte that it has nowhere else
first-once : (o : Order) (j : ℕ) → 0 < j → j < 4 → get_or (sync_bytes o) j 0 ≡ get_or (sync_bytes o) 0 0 → ⊥
first-once Big zero h l e = absurd (omega arith)
first-once Big (suc zero) h l e = let z : ◌≡◌ {A = ℕ} 178 161 = e in absurd (omega arith)
first-once Big (suc (suc zero)) h l e = let z : ◌≡◌ {A = ℕ} 195 161 = e in absurd (omega arith)
first-once Big (suc (suc (suc zero))) h l e = let z : ◌≡◌ {A = ℕ} 212 161 = e in absurd (omega arith)
first-once Big (suc (suc (suc (suc j)))) h l e = absurd (omega arith)
first-once Little zero h l e = absurd (omega arith)
first-once Little (suc zero) h l e = let z : ◌≡◌ {A = ℕ} 195 212 = e in absurd (omega arith)
first-once Little (suc (suc zero)) h l e = let z : ◌≡◌ {A = ℕ} 178 212 = e in absurd (omega arith)
first-once Little (suc (suc (suc zero))) h l e = let z : ◌≡◌ {A = ℕ} 161 212 = e in absurd (omega arith)
first-once Little (suc (suc (suc (suc j)))) h l e = absurd (omega arith)

-- so none begins within one, and a search goes on behind that of a bad header
pub bad-gap : (o : Order) (s : Bor (List ℕ)) (p : ℕ) (w : BadSize) → p < length s.now → shows o (drop p s.now) ≡ Bad w →
    p + 4 + gap o (drop (p + 4) s.now) ≡ p + gap o (drop p s.now)
bad-gap o s p w h e =
    let t = (bad-only o (drop p s.now) w e).0 in
    let n = length-drop p s.now in
    let v = t.whole in
    let r : Passes (front o s (sync_bytes o) refl) (p + 1) (p + 4) = record {
      low = omega arith;
      high = omega arith;
      free = λ k l m a b.
          let q : p + (k - p) ≡ k = omega arith in
          let c = rw q at (starts-at (sync_bytes o) s.now p (k - p) (omega (arith, sync-length o)) t.sync) in
          first-once o (k - p) (omega arith) (omega arith) (sym c ∙ a);
    } in
    omega (arith, passes-gap o s (sync_bytes o) refl (p + 1) (p + 4) r, gap-step o s.now p h (rw e))

-- ---- the search

module _ (o : Order) (s : Bor (List ℕ)) (w : List ℕ) (e : w ≡ sync_bytes o) (p q : ℕ) (r : Passes (front o s w e) p q) where
  pub search-stop : (a : At) (from : ℕ) → a ≡ shows o (drop q s.now) → ((code : ℕ) × (size : ℕ) × (a ≡ Complete code size)) ⊎ (a ≡ Unfinished) →
      p + gap o (drop p s.now) ≡ from + gap o (drop from s.now) → search_from o s.now from ≡ Some q
  search-stop a from h k g = search-here o s.now from q r.high (rw h at (stop-told a k)) (passes-gap o s w e p q r ∙ g)

  pub search-pass : (a : At) → a ≡ shows o (drop q s.now) → a ≡ NoSync → q + 1 + gap o (drop (q + 1) s.now) ≡ p + gap o (drop p s.now)
  search-pass a h k = omega (arith, passes-gap o s w e p q r, gap-step o s.now q r.high (rw h at (ap stops k)))

  pub search-bad : (a : At) (size : BadSize) → a ≡ shows o (drop q s.now) → a ≡ Bad size → q + 4 + gap o (drop (q + 4) s.now) ≡ p + gap o (drop p s.now)
  search-bad a size h k = bad-gap o s q size r.high (sym h ∙ k) ∙ passes-gap o s w e p q r

pub ruleset search_read = (search-stop, search-pass, search-bad)
