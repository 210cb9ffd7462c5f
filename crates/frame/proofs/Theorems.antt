-- What the rules say of every stream.
use Prim.Native.Nat.{ℕ, zero, suc, ◌+◌, ◌-◌, ◌≤◌, ◌<◌}
use mathlib.Core.Path.{◌≡◌, refl, ap, sym, ◌∙◌}
use mathlib.Core.List.Memᴰ
use mathlib.Core.List.{List, [], ◌∷◌, ◌++◌, map, flatten, append-nil, Memᴰ}
use mathlib.Core.Bool.{Bool, true, false}
use mathlib.Core.Logic.{⊎_elim}
use native.Mathlib.Omega.{arith}
use lib.ListN.{length, drop, take, length-append, length-drop, take-append-drop}
use lib.Seq.{drop-drop, drop-length, drop-append-le, drop-append_seam, length-take-le}
use Rattle.std.specs.Prelude.{Some, None, Result, Ok, Err}
use Rattle.num.specs.Answer.{gives, refuses}
use Rattle.num.specs.Choice.{pick}
use Rattle.num.specs.declared.Order.{Order}
use Rattle.num.specs.declared.Order.TheVariants.{Big, Little}
use Rattle.num.proofs.Laws.{Bytes}
use Rattle.frame.specs.declared.At.{At}
use Rattle.frame.specs.declared.At.TheVariants.{NoSync, Bad, Unfinished, Complete}
use Rattle.frame.specs.declared.NoSyncWord.{NoSyncWord}
use Rattle.frame.specs.Place.{sync_bytes, starts, shows, stops, gap, search_from, order_of, order_said}
use Rattle.frame.specs.Frames.{Frame, frame_bytes, width, frame_at, first, frames_by, frames, covered}
use Rattle.frame.proofs.Laws.{drop-bytes, shows-none, gap-stop, gap-pass, search-here, search-at, search-end}
use Rattle.frame.proofs.Frames.{complete, chunk-back, gap-le, first-takes, fuel}

-- ---- every byte belongs to exactly one frame

front-by : (o : Order) (l : List ℕ) (a : At) → shows o l ≡ a → Bytes l →
    let f = frame_at a (gap o l) l in
    frame_bytes o f ++ drop (width f) l ≡ l
front-by o l (Complete t n) e g =
    let h = complete o l t n e in
    let m : length (take n (drop 12 l)) ≡ n = length-take-le n (drop 12 l) (simp length-drop (omega (arith, h.fits))) in
    rw m (rw m at (chunk-back o l t n g h))
front-by o l Unfinished e g = rw (drop-length l) (append-nil l)
front-by o l NoSync e g = rw (length-take-le (gap o l) l (gap-le o l)) (take-append-drop (gap o l) l)
front-by o l (Bad b) e g = rw (length-take-le (gap o l) l (gap-le o l)) (take-append-drop (gap o l) l)

whole-by : (f : ℕ) (o : Order) (l : List ℕ) → length l ≤ f → Bytes l → flatten (map (frame_bytes o) (frames_by f o l)) ≡ l
unfolding frames_by flatten
whole-by zero o [] h g = refl
whole-by zero o (x ∷ l) h g = absurd (omega arith)
whole-by (suc f) o [] h g = refl
whole-by (suc f) o (x ∷ l) h g =
    let a = first o (x ∷ l) in
    let s = (first-takes o x l).some in
    let n : length (drop (width a) (x ∷ l)) ≡ length (x ∷ l) - width a = length-drop (width a) (x ∷ l) in
    ap (λ (r : List ℕ). frame_bytes o a ++ r) (whole-by f o (drop (width a) (x ∷ l)) (omega arith) (drop-bytes (width a) (x ∷ l) g))
    ∙ front-by o (x ∷ l) (shows o (x ∷ l)) refl g

-- the frames' bytes, in order, are the stream
pub bytes-whole : (o : Order) (s : List ℕ) → Bytes s → flatten (map (frame_bytes o) (frames o s)) ≡ s
bytes-whole o s g = whole-by (length s) o s (omega arith) g

some-by : (f : ℕ) (o : Order) (l : List ℕ) (a : Frame) → length l ≤ f → Memᴰ a (frames_by f o l) → 1 ≤ width a
unfolding frames_by
some-by zero o l a h m = absurd (Memᴰ.not-nil m)
some-by (suc f) o [] a h m = absurd (Memᴰ.not-nil m)
some-by (suc f) o (x ∷ l) a h m =
    let w = width (first o (x ∷ l)) in
    let s = (first-takes o x l).some in
    let n : length (drop w (x ∷ l)) ≡ length (x ∷ l) - w = length-drop w (x ∷ l) in
    ⊎_elim (λ e. rw e s) (λ q. some-by f o (drop w (x ∷ l)) a (omega arith) q) (Memᴰ.cases_cons m)

-- and none is empty
pub none-empty : (o : Order) (s : List ℕ) (a : Frame) → Memᴰ a (frames o s) → 1 ≤ width a
none-empty o s a m = some-by (length s) o s a (omega arith) m

covered-by : (f : ℕ) (o : Order) (l : List ℕ) → length l ≤ f → covered (frames_by f o l) ≡ length l
unfolding frames_by
covered-by zero o [] h = refl
covered-by zero o (x ∷ l) h = absurd (omega arith)
covered-by (suc f) o [] h = refl
covered-by (suc f) o (x ∷ l) h =
    let w = width (first o (x ∷ l)) in
    let t = first-takes o x l in
    let n : length (drop w (x ∷ l)) ≡ length (x ∷ l) - w = length-drop w (x ∷ l) in
    omega (arith, t.most, t.some, covered-by f o (drop w (x ∷ l)) (omega (arith, t.some)))

-- the frames of a stream take all of its bytes
pub covered-whole : (o : Order) (s : List ℕ) → covered (frames o s) ≡ length s
covered-whole o s = covered-by (length s) o s (omega arith)

ahead-by : (k f : ℕ) (o : Order) (l : List ℕ) → length l ≤ f → drop k (frames_by f o l) ≡ frames o (drop (covered (take k (frames_by f o l))) l)
unfolding frames_by
ahead-by zero f o l h = fuel f (length l) o l h (omega arith)
ahead-by (suc k) zero o [] h = refl
ahead-by (suc k) zero o (x ∷ l) h = absurd (omega arith)
ahead-by (suc k) (suc f) o [] h = refl
ahead-by (suc k) (suc f) o (x ∷ l) h =
    let w = width (first o (x ∷ l)) in
    let s = (first-takes o x l).some in
    let n : length (drop w (x ∷ l)) ≡ length (x ∷ l) - w = length-drop w (x ∷ l) in
    let c = covered (take k (frames_by f o (drop w (x ∷ l)))) in
    ahead-by k f o (drop w (x ∷ l)) (omega arith) ∙ ap (frames o) (drop-drop c w (x ∷ l))

-- Which frames come depends on the bytes ahead alone: after the first k, the others are the frames of what they leave.
pub ahead : (o : Order) (s : List ℕ) (k : ℕ) → drop k (frames o s) ≡ frames o (drop (covered (take k (frames o s))) s)
ahead o s k = ahead-by k (length s) o s (omega arith)

-- So two streams whose first frames leave one ending have the same frames from there on.
pub same-ending : (o : Order) (s t : List ℕ) (j k : ℕ) →
    drop (covered (take j (frames o s))) s ≡ drop (covered (take k (frames o t))) t →
    drop j (frames o s) ≡ drop k (frames o t)
same-ending o s t j k e = ahead o s j ∙ ap (frames o) e ∙ sym (ahead o t k)

-- ---- the search stops at the first place that is complete or unfinished

before-by : (o : Order) (x : ℕ) (l : List ℕ) (k : ℕ) (b : Bool) → stops (shows o (x ∷ l)) ≡ b → k < gap o (x ∷ l) →
    ((j : ℕ) → j < gap o l → stops (shows o (drop j l)) ≡ false) → stops (shows o (drop k (x ∷ l))) ≡ false
before-by o x l k true e h r = absurd (omega (arith, gap-stop o (x ∷ l) e))
before-by o x l zero false e h r = e
before-by o x l (suc k) false e h r = r k (omega (arith, gap-pass o x l e))

gap-before : (o : Order) (l : List ℕ) (k : ℕ) → k < gap o l → stops (shows o (drop k l)) ≡ false
unfolding gap
gap-before o [] k h = absurd (omega arith)
gap-before o (x ∷ l) k h = before-by o x l k (stops (shows o (x ∷ l))) refl h (gap-before o l)

at-by : (o : Order) (x : ℕ) (l : List ℕ) (b : Bool) → stops (shows o (x ∷ l)) ≡ b → gap o (x ∷ l) < length (x ∷ l) →
    (gap o l < length l → stops (shows o (drop (gap o l) l)) ≡ true) → stops (shows o (drop (gap o (x ∷ l)) (x ∷ l))) ≡ true
at-by o x l true e h r = rw (gap-stop o (x ∷ l) e) e
at-by o x l false e h r = let g : gap o (x ∷ l) ≡ suc (gap o l) = gap-pass o x l e ∙ omega arith in rw g (r (omega arith))

gap-at : (o : Order) (l : List ℕ) → gap o l < length l → stops (shows o (drop (gap o l) l)) ≡ true
unfolding gap
gap-at o [] h = absurd (omega arith)
gap-at o (x ∷ l) h = at-by o x l (stops (shows o (x ∷ l))) refl h (gap-at o l)

-- the search stopped at p, having begun at from
pub record Stopped (o : Order) (s : List ℕ) (from p : ℕ) : Type 0 where
  pub low : from ≤ p
  pub high : p < length s
  pub here : stops (shows o (drop p s)) ≡ true
  pub before : (q : ℕ) → from ≤ q → q < p → stops (shows o (drop q s)) ≡ false

pub search-stopped : (o : Order) (s : List ℕ) (from p : ℕ) → search_from o s from ≡ Some p → Stopped o s from p
search-stopped o s from p e =
    let h = search-at o s from p e in
    let n : length (drop from s) ≡ length s - from = length-drop from s in
    let i = h.0 in
    record {
      low = omega arith;
      high = h.1;
      here = rw (← i, ← drop-drop (gap o (drop from s)) from s) (gap-at o (drop from s) (omega (arith, h.1)));
      before = λ q l u.
          let k : q ≡ from + (q - from) = omega arith in
          rw (k, ← drop-drop (q - from) from s) (gap-before o (drop from s) (q - from) (omega arith));
    }

-- and where it found none, there is none
pub search-nothing : (o : Order) (s : List ℕ) (from q : ℕ) → search_from o s from ≡ None → from ≤ q → q < length s → stops (shows o (drop q s)) ≡ false
search-nothing o s from q e l u =
    let h = search-end o s from e in
    let k : q ≡ from + (q - from) = omega arith in
    rw (k, ← drop-drop (q - from) from s) (gap-before o (drop from s) (q - from) (omega arith))

-- ---- a clean beginning

-- no sync word starts in xs, where ys follows it
abbrev pub Clean : Order → List ℕ → List ℕ → Type 0
Clean o xs ys = (k : ℕ) → k < length xs → starts (sync_bytes o) (drop k (xs ++ ys)) ≡ false

gap-clean : (o : Order) (xs ys : List ℕ) → 4 ≤ length ys → Clean o xs ys → gap o (xs ++ ys) ≡ length xs + gap o ys
gap-clean o [] ys f h = omega arith
gap-clean o (x ∷ xs) ys f h =
    let n : stops (shows o (x ∷ (xs ++ ys))) ≡ false = rw (shows-none o (x ∷ (xs ++ ys)) (omega (arith, length-append xs ys)) (h 0 (omega arith))) in
    gap-pass o x (xs ++ ys) n ∙ omega (arith, gap-clean o xs ys f (λ k q. h (suc k) (omega arith)))

-- From any place of a clean beginning, the search stops at the complete chunk that the ending starts with.
pub clean-beginning : (o : Order) (xs ys : List ℕ) (t n k : ℕ) → Clean o xs ys → shows o ys ≡ Complete t n → k ≤ length xs → search_from o (xs ++ ys) k ≡ Some (length xs)
clean-beginning o xs ys t n k h e q =
    let d : drop (length xs) (xs ++ ys) ≡ ys = drop-append_seam xs ys in
    let st : stops (shows o ys) ≡ true = rw e in
    let f = (complete o ys t n e).fits in
    let m : length (xs ++ ys) ≡ length xs + length ys = length-append xs ys in
    let w : drop k (xs ++ ys) ≡ drop k xs ++ ys = drop-append-le k xs ys q in
    let c : Clean o (drop k xs) ys = λ j u. rw (← w, drop-drop j k (xs ++ ys)) (h (k + j) (omega (arith, length-drop k xs))) in
    let g = gap-clean o (drop k xs) ys (omega arith) c in
    search-here o (xs ++ ys) k (length xs) (omega arith) (rw d st) (rw (d, w) (omega (arith, g, gap-stop o ys st, length-drop k xs)))

-- ---- the order is that of the lowest sync word of either

-- neither word starts below p
abbrev pub NoneBelow : List ℕ → ℕ → Type 0
NoneBelow s p = (q : ℕ) (o : Order) → q < p → starts (sync_bytes o) (drop q s) ≡ false

below-cons : (x : ℕ) (l : List ℕ) (p : ℕ) → starts (sync_bytes Big) (x ∷ l) ≡ false → starts (sync_bytes Little) (x ∷ l) ≡ false → NoneBelow l p → NoneBelow (x ∷ l) (suc p)
below-cons x l p b s r zero Big h = b
below-cons x l p b s r zero Little h = s
below-cons x l p b s r (suc q) o h = r q o (omega arith)

lowest-by : (x : ℕ) (l : List ℕ) (o : Order) (b s : Bool) → starts (sync_bytes Big) (x ∷ l) ≡ b → starts (sync_bytes Little) (x ∷ l) ≡ s →
    pick b (gives Big) (pick s (gives Little) (order_of l)) ≡ gives o →
    (order_of l ≡ gives o → (p : ℕ) × (starts (sync_bytes o) (drop p l) ≡ true) × NoneBelow l p) →
    (p : ℕ) × (starts (sync_bytes o) (drop p (x ∷ l)) ≡ true) × NoneBelow (x ∷ l) p
lowest-by x l o true s eb es e r = let q : Big ≡ o = cc in (0, rw (← q) eb, λ i j h. absurd (omega arith))
lowest-by x l o false true eb es e r = let q : Little ≡ o = cc in (0, rw (← q) es, λ i j h. absurd (omega arith))
lowest-by x l o false false eb es e r =
    let w = r e in
    (suc w.0, w.1, below-cons x l w.0 eb es w.2)

-- where an order is found, its word stands at a place below which neither word starts
pub order-lowest : (s : List ℕ) (o : Order) → order_of s ≡ gives o → (p : ℕ) × (starts (sync_bytes o) (drop p s) ≡ true) × NoneBelow s p
unfolding order_of
order-lowest [] o e = absurd cc
order-lowest (x ∷ l) o e = lowest-by x l o (starts (sync_bytes Big) (x ∷ l)) (starts (sync_bytes Little) (x ∷ l)) refl refl e (order-lowest l o)

refused-by : (x : ℕ) (l : List ℕ) (n : ℕ) (b s : Bool) → starts (sync_bytes Big) (x ∷ l) ≡ b → starts (sync_bytes Little) (x ∷ l) ≡ s →
    pick b (gives Big) (pick s (gives Little) (order_of l)) ≡ refuses n →
    (order_of l ≡ refuses n → (n ≡ 1) × NoneBelow l (length l)) → (n ≡ 1) × NoneBelow (x ∷ l) (length (x ∷ l))
refused-by x l n true s eb es e r = absurd cc
refused-by x l n false true eb es e r = absurd cc
refused-by x l n false false eb es e r = let w = r e in (w.0, below-cons x l (length l) eb es w.1)

-- a refusal is number 1, and then neither word starts anywhere
pub order-refused : (s : List ℕ) (n : ℕ) → order_of s ≡ refuses n → (n ≡ 1) × NoneBelow s (length s)
unfolding order_of
order-refused [] n e = (cc, λ q o h. absurd (omega arith))
order-refused (x ∷ l) n e = refused-by x l n (starts (sync_bytes Big) (x ∷ l)) (starts (sync_bytes Little) (x ∷ l)) refl refl e (order-refused l n)

-- the answer's cases say different things, so the promise fixes the case
pub order-told : (a b : Result Order NoSyncWord) → order_said a ≡ order_said b → a ≡ b
order-told (Ok o) (Ok q) e = let h : o ≡ q = cc in rw h
order-told (Ok o) (Err n) e = absurd cc
order-told (Err n) (Ok o) e = absurd cc
order-told (Err n) (Err m) e = refl
