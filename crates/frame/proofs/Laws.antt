-- Laws of what a stream shows at a place, of the gap before a search stops, and of the order.
use Prim.Native.Nat.{ℕ, zero, suc, ◌+◌, ◌-◌, ◌^◌, ◌≤◌, ◌<◌}
use mathlib.Core.Path.{◌≡◌, refl, ap, sym, ◌∙◌}
use mathlib.Core.List.{List, [], ◌∷◌, ◌++◌}
use mathlib.Core.Bool.{Bool, true, false, ◌&&◌, ◌||◌}
use native.Mathlib.Numerals.{add-one}
use native.Mathlib.Omega.{arith}
use lib.ListN.{length, get_or, drop, take, take-append-drop, drop_of_length-le, length-drop}
use lib.Seq.{take-length, drop-cons, drop-drop, get_or-drop, length-take-le, take-append_seam}
use lib.Dec.{eqb, leb, ltb}
use borrow.Author.Tests.{lt-leb, le-leb, eq-eqb, ne_eqb, eqb-true, lt-ltb, le-ltb, ltb-true, ltb-false, leb-true, leb-false, eqb-false}
use mathlib.Core.Logic.{◌⊎◌, inl, inr}
use Rattle.std.specs.Prelude.{Option, Some, None}
use Rattle.std.specs.List.{starts_with}
use Rattle.num.specs.Answer.{gives, refuses}
use Rattle.num.specs.Choice.{pick, both}
use Rattle.num.specs.Number.{unsigned, unsigned_at, bytes_of}
use Rattle.num.specs.declared.Order.{Order}
use Rattle.num.specs.declared.Order.TheVariants.{Big, Little}
use Rattle.num.proofs.Laws.{Bytes, at-none, at-some, bytes-length, read-written, written-read}
use Rattle.num.proofs.Tests.{both-true, both-false}
use Rattle.frame.specs.declared.At.{At}
use Rattle.frame.specs.declared.At.TheVariants.{NoSync, Bad, Unfinished, Complete}
use Rattle.frame.specs.Place.{sync_bytes, starts, begun, word, type_in, size_in, good_size, bad_size, shows, stops, gap, search_from, order_of}

-- ---- the front of a list

pub never-true : (b : Bool) → (b ≡ true → ⊥) → b ≡ false
never-true true h = absurd (h refl)
never-true false h = refl

-- a list that is too short does not start with w
pub starts-short : (w l : List ℕ) → length l < length w → starts w l ≡ false
unfolding starts
starts-short [] l h = absurd (omega arith)
starts-short (x ∷ w) [] h = refl
starts-short (x ∷ w) (y ∷ l) h = rw (starts-short w l (omega arith)) (both-false (eqb y x))

pub starts-split : (w l : List ℕ) → starts w l ≡ true → l ≡ w ++ drop (length w) l
unfolding starts
starts-split [] l h = refl
starts-split (x ∷ w) [] h = absurd cc
starts-split (x ∷ w) (y ∷ l) h =
    let t = both-true (eqb y x) (starts w l) h in
    rw (eqb-true y x t.0, ← starts-split w l t.1)

pub starts-self : (w l : List ℕ) → starts w (w ++ l) ≡ true
unfolding starts
starts-self [] l = refl
starts-self (x ∷ w) l = rw (eq-eqb x x refl) (starts-self w l)

-- a list that is as long starts with w where w starts with it
starts-back : (w l : List ℕ) → length w ≤ length l → starts l w ≡ true → starts w l ≡ true
unfolding starts
starts-back [] l h t = refl
starts-back (x ∷ w) [] h t = absurd (omega arith)
starts-back (x ∷ w) (y ∷ l) h t =
    let b = both-true (eqb x y) (starts l w) t in
    rw (eq-eqb y x (sym (eqb-true x y b.0))) (starts-back w l (omega arith) b.1)

-- the test of slices, l.starts_with(w)
with-by : (x y : ℕ) (b c : Bool) (t : Bool) → eqb x y ≡ t → b ≡ c → t && b ≡ both (eqb y x) c
with-by x y b c true e h = rw (eq-eqb y x (sym (eqb-true x y e))) h
with-by x y b c false e h = rw (ne_eqb y x (λ q. eqb-false x y e (sym q)))

pub starts-with : (w l : List ℕ) → starts_with eqb l w ≡ starts w l
unfolding starts
starts-with [] l = refl
starts-with (x ∷ w) [] = refl
starts-with (x ∷ w) (y ∷ l) = with-by x y (starts_with eqb l w) (starts w l) (eqb x y) refl (starts-with w l)

-- ---- the sync word, as bytes and as a number

pub sync-length : (o : Order) → length (sync_bytes o) ≡ 4
sync-length o = bytes-length o 4 0xA1B2C3D4

pub take-bytes : (k : ℕ) (l : List ℕ) → Bytes l → Bytes (take k l)
take-bytes zero l g i = record { fits = omega arith }
take-bytes (suc k) [] g i = g i
take-bytes (suc k) (x ∷ l) g zero = g 0
take-bytes (suc k) (x ∷ l) g (suc i) = take-bytes k l (λ j. g (suc j)) i

pub drop-bytes : (k : ℕ) (l : List ℕ) → Bytes l → Bytes (drop k l)
drop-bytes k l g i = rw (get_or-drop k l i 0) (g (k + i))

-- a list of bytes starts with a number's bytes where the number stands at its front, and nowhere else
pub front-is : (o : Order) (n : ℕ) (l : List ℕ) → Bytes l → 4 ≤ length l → word o l ≡ n → starts (bytes_of o 4 n) l ≡ true
front-is o n l g q h =
    let e : take 4 l ≡ bytes_of o 4 n =
    sym (written-read o (take 4 l) (take-bytes 4 l g)) ∙ rw (length-take-le 4 l q, h) in
    rw (← take-append-drop 4 l, e) (starts-self (bytes_of o 4 n) (drop 4 l))

pub front-not : (o : Order) (n : ℕ) (l : List ℕ) → n < 256 ^ 4 → (word o l ≡ n → ⊥) → starts (bytes_of o 4 n) l ≡ false
front-not o n l q h =
    never-true (starts (bytes_of o 4 n) l) (λ b.
    let e : take 4 l ≡ bytes_of o 4 n =
    ap (take 4) (starts-split (bytes_of o 4 n) l b)
    ∙ rw (← bytes-length o 4 n) (take-append_seam (bytes_of o 4 n) (drop (length (bytes_of o 4 n)) l)) in
    h (ap (unsigned o) e ∙ read-written o 4 n q))

-- a number of the header, read at a place of the stream
pub word-at : (o : Order) (s : List ℕ) (p k : ℕ) → p + k + 4 ≤ length s → unsigned_at 4 o s (p + k) ≡ word o (drop k (drop p s))
word-at o s p k h = at-some 4 o s (p + k) h ∙ ap (word o) (sym (drop-drop k p s))

pub first-word : (o : Order) (s : List ℕ) (p : ℕ) → p + 4 ≤ length s → unsigned_at 4 o s p ≡ word o (drop p s)
first-word o s p h = at-some 4 o s p h

-- ---- what a list shows

-- the answer where the sync word and a whole header stand, by the type, the size and how many bytes follow
abbrev pub headed : ℕ → ℕ → ℕ → At
headed t n left = pick (good_size n) (pick (leb n left) (Complete t n) Unfinished) (Bad (bad_size n))

-- the bytes that begin the sync word are the word's, and four bytes that are not the word do not begin it
pub begun-is : (o : Order) (l : List ℕ) → 0 < length l → begun o l ≡ starts l (sync_bytes o)
begun-is o [] h = absurd (omega arith)
begun-is o (x ∷ l) h = refl

pub begun-starts : (o : Order) (l : List ℕ) → begun o l ≡ true → starts l (sync_bytes o) ≡ true
begun-starts o [] h = absurd cc
begun-starts o (x ∷ l) h = h

pub begun-not : (o : Order) (l : List ℕ) → 4 ≤ length l → starts (sync_bytes o) l ≡ false → begun o l ≡ false
begun-not o l h b =
    never-true (begun o l) (λ t.
    let q = starts-back (sync_bytes o) l (omega (arith, sync-length o)) (begun-starts o l t) in
    cc)

module _ (o : Order) (l : List ℕ) where
  pub shows-begun : starts (sync_bytes o) l ≡ false → shows o l ≡ pick (begun o l) Unfinished NoSync
  unfolding shows
  shows-begun b = rw b

  pub shows-none : 4 ≤ length l → starts (sync_bytes o) l ≡ false → shows o l ≡ NoSync
  shows-none h b = shows-begun b ∙ rw (begun-not o l h b)

  pub shows-cut : starts (sync_bytes o) l ≡ true → length l < 12 → shows o l ≡ Unfinished
  unfolding shows
  shows-cut b h = rw (b, lt-ltb (length l) 12 h)

  pub shows-headed : (t n : ℕ) → starts (sync_bytes o) l ≡ true → 12 ≤ length l → t ≡ type_in o l → n ≡ size_in o l → shows o l ≡ headed t n (length l - 12)
  unfolding shows
  shows-headed t n b h e q = rw (b, le-ltb (length l) 12 h, ← e, ← q)

-- Fewer bytes than a header's, one at least, are unfinished where they begin with the word or it begins with them.
few-by : (o : Order) (l : List ℕ) (a b : Bool) → starts (sync_bytes o) l ≡ a → starts l (sync_bytes o) ≡ b → 0 < length l → length l < 12 → shows o l ≡ pick (a || b) Unfinished NoSync
few-by o l true b e f h q = shows-cut o l e q
few-by o l false b e f h q = shows-begun o l e ∙ rw (begun-is o l h, f)

-- the tests of slices at a place of the stream
pub few-told : (o : Order) (s w : List ℕ) (p : ℕ) (a b : Bool) → w ≡ sync_bytes o → p < length s → length s < p + 12 →
    a ≡ starts_with eqb (take (length s - p) (drop p s)) w → b ≡ starts_with eqb w (take (length s - p) (drop p s)) →
    shows o (drop p s) ≡ pick (a || b) Unfinished NoSync
few-told o s w p a b e h q f g =
    let l = drop p s in
    let n : length l ≡ length s - p = length-drop p s in
    let r : take (length s - p) l ≡ l = rw (← n) (take-length l) in
    few-by o l a b (sym (rw (r, e, starts-with (sync_bytes o) l) at f)) (sym (rw (r, e, starts-with l (sync_bytes o)) at g)) (omega arith) (omega arith)

pub ruleset end_read = (few-told)

-- a header that is read at a place of the stream tells the answer by its type, its size and what is left
pub header-told : (o : Order) (s : List ℕ) (p t n : ℕ) → starts (sync_bytes o) (drop p s) ≡ true → p + 12 ≤ length s → t ≡ unsigned_at 4 o s (p + 4) → n ≡ unsigned_at 4 o s (p + 8) →
    shows o (drop p s) ≡ headed t n (length s - p - 12)
header-told o s p t n b h e q =
    rw (← length-drop p s)
    (shows-headed o (drop p s) t n b (omega (arith, length-drop p s)) (e ∙ word-at o s p 4 (omega arith)) (q ∙ word-at o s p 8 (omega arith)))

pub ruleset header_read = (header-told, lt-leb, le-leb)

-- the number of the sync word's bytes, read in little order
pub word-none : (o : Order) (s : List ℕ) (p n : ℕ) → bytes_of Little 4 n ≡ sync_bytes o → n < 256 ^ 4 → p + 4 ≤ length s → (unsigned_at 4 Little s p ≡ n → ⊥) → shows o (drop p s) ≡ NoSync
word-none o s p n w q h d =
    shows-none o (drop p s) (omega (arith, length-drop p s)) (rw w at (front-not Little n (drop p s) q (λ f. d (first-word Little s p h ∙ f))))

pub word-there : (o : Order) (s : List ℕ) (p n : ℕ) → bytes_of Little 4 n ≡ sync_bytes o → Bytes s → p + 4 ≤ length s → unsigned_at 4 Little s p ≡ n → starts (sync_bytes o) (drop p s) ≡ true
word-there o s p n w g h e =
    rw w at (front-is Little n (drop p s) (drop-bytes p s g) (omega (arith, length-drop p s)) (sym (first-word Little s p h) ∙ e))

pub shows-end : (o : Order) (s : List ℕ) (p : ℕ) → length s ≤ p → shows o (drop p s) ≡ NoSync
shows-end o s p h = rw (drop_of_length-le s {i = p} h) (shows-begun o [] (starts-short (sync_bytes o) [] (omega (arith, sync-length o))))

pub ruleset word_read = (word-none, word-there, shows-end)

-- Each way through the tests: what holds of each answer, where its tests came out so, holds of what is shown.
pub record Ways (P : At → Type 0) (o : Order) (l : List ℕ) : Type 0 where
  pub none : starts (sync_bytes o) l ≡ false → begun o l ≡ false → P NoSync
  pub begins : starts (sync_bytes o) l ≡ false → begun o l ≡ true → P Unfinished
  pub short : starts (sync_bytes o) l ≡ true → length l < 12 → P Unfinished
  pub bad : starts (sync_bytes o) l ≡ true → 12 ≤ length l → good_size (size_in o l) ≡ false → P (Bad (bad_size (size_in o l)))
  pub cut : starts (sync_bytes o) l ≡ true → 12 ≤ length l → good_size (size_in o l) ≡ true → length l - 12 < size_in o l → P Unfinished
  pub whole : starts (sync_bytes o) l ≡ true → 12 ≤ length l → good_size (size_in o l) ≡ true → size_in o l ≤ length l - 12 → P (Complete (type_in o l) (size_in o l))

module _ (P : At → Type 0) (o : Order) (l : List ℕ) (w : Ways P o l) where
  ways-by : (a b c d r : Bool) → starts (sync_bytes o) l ≡ a → ltb (length l) 12 ≡ b → good_size (size_in o l) ≡ c → leb (size_in o l) (length l - 12) ≡ d → begun o l ≡ r →
      P (pick a (pick b Unfinished (pick c (pick d (Complete (type_in o l) (size_in o l)) Unfinished) (Bad (bad_size (size_in o l))))) (pick r Unfinished NoSync))
  ways-by false b c d false e f g h i = w.none e i
  ways-by false b c d true e f g h i = w.begins e i
  ways-by true true c d r e f g h i = w.short e (ltb-true (length l) 12 f)
  ways-by true false false d r e f g h i = w.bad e (ltb-false (length l) 12 f) g
  ways-by true false true false r e f g h i = w.cut e (ltb-false (length l) 12 f) g (leb-false (size_in o l) (length l - 12) h)
  ways-by true false true true r e f g h i = w.whole e (ltb-false (length l) 12 f) g (leb-true (size_in o l) (length l - 12) h)

  pub shows-by : P (shows o l)
  unfolding shows
  shows-by = ways-by _ _ _ _ _ refl refl refl refl refl

-- ---- the gap

-- one place more, and the place where a search stops
pub gap-step : (o : Order) (s : List ℕ) (p : ℕ) → p < length s → stops (shows o (drop p s)) ≡ false →
    gap o (drop p s) ≡ 1 + gap o (drop (p + 1) s)
unfolding gap
gap-step o s p h n =
    let n' : stops (shows o (get_or s p 0 ∷ drop (suc p) s)) ≡ false = rw (drop-cons s p 0 h) at n in
    rw (drop-cons s p 0 h, n', add-one p)

pub gap-stop : (o : Order) (l : List ℕ) → stops (shows o l) ≡ true → gap o l ≡ 0
unfolding gap
gap-stop o [] h = refl
gap-stop o (x ∷ l) h = rw h

pub gap-pass : (o : Order) (x : ℕ) (l : List ℕ) → stops (shows o (x ∷ l)) ≡ false → gap o (x ∷ l) ≡ 1 + gap o l
unfolding gap
gap-pass o x l h = rw h

pub none-passes : (o : Order) (l : List ℕ) → starts (sync_bytes o) l ≡ false → begun o l ≡ false → stops (shows o l) ≡ false
none-passes o l b g = rw (shows-begun o l b, g)

-- ---- the search: p is where it stands, having begun at from

pub search-here : (o : Order) (s : List ℕ) (from p : ℕ) → p < length s → stops (shows o (drop p s)) ≡ true → p + gap o (drop p s) ≡ from + gap o (drop from s) → search_from o s from ≡ Some p
search-here o s from p h q e =
    let g : from + gap o (drop from s) ≡ p = omega (arith, gap-stop o (drop p s) q) in
    rw (g, lt-ltb p (length s) h)

place-by : (a p n : ℕ) (b : Bool) → ltb a n ≡ b → pick b (Some a) None ≡ Some p → (a ≡ p) × (p < n)
place-by a p n true t e = let q : a ≡ p = cc in (q, omega (arith, ltb-true a n t))
place-by a p n false t e = absurd cc

-- and what its answers say
pub search-at : (o : Order) (s : List ℕ) (from p : ℕ) → search_from o s from ≡ Some p → (from + gap o (drop from s) ≡ p) × (p < length s)
search-at o s from p e = let a = from + gap o (drop from s) in place-by a p (length s) (ltb a (length s)) refl e

nothing-by : (a n : ℕ) (b : Bool) → ltb a n ≡ b → ◌≡◌ {A = Option ℕ} (pick b (Some a) None) None → n ≤ a
nothing-by a n true t e = absurd cc
nothing-by a n false t e = ltb-false a n t

pub search-end : (o : Order) (s : List ℕ) (from : ℕ) → search_from o s from ≡ None → length s ≤ from + gap o (drop from s)
search-end o s from e = let a = from + gap o (drop from s) in nothing-by a (length s) (ltb a (length s)) refl e

-- an arm of a `match` on what stands at a place that stops a search
pub stop-told : (a : At) → ((code : ℕ) × (size : ℕ) × (a ≡ Complete code size)) ⊎ (a ≡ Unfinished) → stops a ≡ true
stop-told a (inl w) = ap stops w.2
stop-told a (inr e) = ap stops e

-- ---- the order, one place at a time

order-at : (s : List ℕ) (p : ℕ) → p < length s →
    order_of (drop p s) ≡ pick (starts (sync_bytes Big) (drop p s)) (gives Big) (pick (starts (sync_bytes Little) (drop p s)) (gives Little) (order_of (drop (p + 1) s)))
unfolding order_of
order-at s p h = rw (add-one p, drop-cons s p 0 h)

pub order-step : (s : List ℕ) (p : ℕ) → p < length s → starts (sync_bytes Big) (drop p s) ≡ false → starts (sync_bytes Little) (drop p s) ≡ false → order_of (drop p s) ≡ order_of (drop (p + 1) s)
order-step s p h b l = order-at s p h ∙ rw (b, l)

pub order-big : (s : List ℕ) (p : ℕ) → p < length s → starts (sync_bytes Big) (drop p s) ≡ true → order_of (drop p s) ≡ gives Big
order-big s p h b = order-at s p h ∙ rw b

pub order-little : (s : List ℕ) (p : ℕ) → p < length s → starts (sync_bytes Big) (drop p s) ≡ false → starts (sync_bytes Little) (drop p s) ≡ true → order_of (drop p s) ≡ gives Little
order-little s p h b l = order-at s p h ∙ rw (b, l)

-- by the number that is read there in big order, which is 0 where fewer than four bytes are left
module _ (s : List ℕ) (p : ℕ) (h : p < length s) where
  other-by : (n : ℕ) (b : Bool) → leb (p + 4) (length s) ≡ b → n < 256 ^ 4 → (unsigned_at 4 Big s p ≡ n → ⊥) → starts (bytes_of Big 4 n) (drop p s) ≡ false
  other-by n true e q d = front-not Big n (drop p s) q (λ f. d (first-word Big s p (leb-true (p + 4) (length s) e) ∙ f))
  other-by n false e q d =
      starts-short (bytes_of Big 4 n) (drop p s) (omega (arith, leb-false (p + 4) (length s) e, length-drop p s, bytes-length Big 4 n))

  same-by : (n : ℕ) (b : Bool) → leb (p + 4) (length s) ≡ b → Bytes s → 0 < n → unsigned_at 4 Big s p ≡ n → starts (bytes_of Big 4 n) (drop p s) ≡ true
  same-by n true e g q f =
      let l = leb-true (p + 4) (length s) e in
      front-is Big n (drop p s) (drop-bytes p s g) (omega (arith, length-drop p s)) (sym (first-word Big s p l) ∙ f)
  same-by n false e g q f = absurd (omega (arith, f, at-none 4 Big s p (leb-false (p + 4) (length s) e)))

  pub read-other : (unsigned_at 4 Big s p ≡ 0xA1B2C3D4 → ⊥) → (unsigned_at 4 Big s p ≡ 0xD4C3B2A1 → ⊥) → order_of (drop p s) ≡ order_of (drop (p + 1) s)
  read-other b l = order-step s p h (other-by 0xA1B2C3D4 _ refl (omega arith) b) (other-by 0xD4C3B2A1 _ refl (omega arith) l)

  pub read-big : Bytes s → unsigned_at 4 Big s p ≡ 0xA1B2C3D4 → order_of (drop p s) ≡ gives Big
  read-big g e = order-big s p h (same-by 0xA1B2C3D4 _ refl g (omega arith) e)

  pub read-little : Bytes s → unsigned_at 4 Big s p ≡ 0xD4C3B2A1 → order_of (drop p s) ≡ gives Little
  read-little g e =
      order-little s p h (other-by 0xA1B2C3D4 _ refl (omega arith) (λ f. omega (arith, f, e))) (same-by 0xD4C3B2A1 _ refl g (omega arith) e)

pub order-short : (l : List ℕ) → length l < 4 → order_of l ≡ refuses 1
unfolding order_of
order-short [] h = refl
order-short (x ∷ l) h =
    rw (starts-short (sync_bytes Big) (x ∷ l) (omega (arith, sync-length Big)), starts-short (sync_bytes Little) (x ∷ l) (omega (arith, sync-length Little)))
    (order-short l (omega arith))

-- the last places, where no word can stand
pub order-end : (s : List ℕ) (p : ℕ) → length s ≤ p → order_of (drop p s) ≡ refuses 1
order-end s p h = order-short (drop p s) (omega (arith, length-drop p s))

pub ruleset order_read = (read-other, read-big, read-little, order-end)
