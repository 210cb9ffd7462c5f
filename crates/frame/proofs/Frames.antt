-- Laws of the frames: each is part of the list and takes a byte at least, so one frame comes, and then the frames of the rest.
use Prim.Native.Nat.{ℕ, zero, suc, ◌+◌, ◌-◌, ◌%◌, ◌^◌, ◌≤◌, ◌<◌}
use mathlib.Core.Path.{◌≡◌, refl, ap, sym, ◌∙◌}
use mathlib.Core.List.{List, [], ◌∷◌, ◌++◌, append_assoc}
use mathlib.Core.Bool.{Bool, true, false}
use native.Mathlib.Omega.{arith}
use lib.ListN.{length, get_or, drop, take, length-append, length-drop, take-append-drop}
use lib.Seq.{drop-cons, drop-drop, drop_at, take_at, length-take-le}
use lib.Dec.{leb, eqb}
use borrow.Author.Tests.{leb-true, le-leb}
use Rattle.num.specs.Choice.{pick}
use Rattle.num.specs.Number.{unsigned, bytes_of}
use Rattle.num.specs.declared.Order.{Order}
use Rattle.num.proofs.Laws.{Bytes, bytes-length, read-written, written-read}
use Rattle.num.proofs.Tests.{both-true}
use Rattle.frame.specs.declared.At.{At}
use Rattle.frame.specs.declared.At.TheVariants.{NoSync, Bad, Unfinished, Complete}
use Rattle.frame.specs.Place.{sync_bytes, starts, word, type_in, size_in, good_size, shows, stops, gap}
use Rattle.frame.specs.declared.Stray.{Stray}
use Rattle.frame.specs.declared.Ahead.{Ahead}
use Rattle.frame.specs.declared.Ahead.TheVariants.{End, Stretch, Cut, Chunk}
use Rattle.frame.specs.Ahead.{ahead_by, ahead_of}
use Rattle.frame.specs.Ahead as Ahead
use Rattle.frame.specs.Frames.{Frame, chunk, skipped, unfinished, of_chunk, is_chunk, chunk_bytes, width, frame_at, first, frames_by, frames}
use Rattle.frame.proofs.Looks.{is-cut, is-stretch, is-end, ahead-at}
use Rattle.frame.proofs.Laws.{sync-length, starts-split, starts-self, take-bytes, drop-bytes, shows-headed, shows-by, gap-pass}

-- ---- a complete chunk

-- what stands where a chunk is complete
pub record Header (o : Order) (l : List ℕ) (t n : ℕ) : Type 0 where
  pub sync : starts (sync_bytes o) l ≡ true
  pub type : type_in o l ≡ t
  pub size : size_in o l ≡ n
  pub good : good_size n ≡ true
  pub fits : 12 + n ≤ length l

pub complete : (o : Order) (l : List ℕ) (t n : ℕ) → shows o l ≡ Complete t n → Header o l t n
complete o l t n =
    shows-by (λ (a : At). a ≡ Complete t n → Header o l t n) o l record {
      none = λ b g e. absurd cc;
      begins = λ b g e. absurd cc;
      short = λ b h e. absurd cc;
      bad = λ b h g e. absurd cc;
      cut = λ b h g m e. absurd cc;
      whole = λ b h g m e.
          let q : size_in o l ≡ n = cc in
          record { sync = b; type = cc; size = q; good = rw (← q) g; fits = omega arith };
    }

-- four bytes at the front are those of their number
word-back : (o : Order) (l : List ℕ) (n : ℕ) → Bytes l → 4 ≤ length l → word o l ≡ n → bytes_of o 4 n ++ drop 4 l ≡ l
word-back o l n g q e =
    let h : bytes_of o 4 n ≡ take 4 l = sym (sym (written-read o (take 4 l) (take-bytes 4 l g)) ∙ rw (length-take-le 4 l q, e)) in
    rw h (take-append-drop 4 l)

-- a chunk that is read has the bytes of its type and body
pub chunk-back : (o : Order) (l : List ℕ) (t n : ℕ) → Bytes l → Header o l t n → chunk_bytes o t (take n (drop 12 l)) ++ drop (12 + n) l ≡ l
chunk-back o l t n g h =
    let f = h.fits in
    let m : length (take n (drop 12 l)) ≡ n = length-take-le n (drop 12 l) (simp length-drop (omega arith)) in
    let b : take n (drop 12 l) ++ drop (12 + n) l ≡ drop 12 l = rw (← drop-drop n 12 l) (take-append-drop n (drop 12 l)) in
    let z : bytes_of o 4 n ++ drop 12 l ≡ drop 8 l = rw (drop-drop 4 8 l) at (word-back o (drop 8 l) n (drop-bytes 8 l g) (simp length-drop (omega arith)) h.size) in
    let y : bytes_of o 4 t ++ drop 8 l ≡ drop 4 l = rw (drop-drop 4 4 l) at (word-back o (drop 4 l) t (drop-bytes 4 l g) (simp length-drop (omega arith)) h.type) in
    let x : sync_bytes o ++ drop 4 l ≡ l = sym (rw (sync-length o) at (starts-split (sync_bytes o) l h.sync)) in
    simp append_assoc (rw (b, m, z, y) x)

laid-shows : (o : Order) (t : ℕ) (body ys : List ℕ) → t < 256 ^ 4 → good_size (length body) ≡ true →
    shows o (sync_bytes o ++ (bytes_of o 4 t ++ (bytes_of o 4 (length body) ++ (body ++ ys)))) ≡ Complete t (length body)
laid-shows o t body ys ht hb =
    let n = length body in
    let small = leb-true n 69632 (both-true (leb n 69632) (eqb (n % 4) 0) hb).0 in
    let z = bytes_of o 4 n ++ (body ++ ys) in
    let y = bytes_of o 4 t ++ z in
    let l = sync_bytes o ++ y in
    let m : length l ≡ 12 + length (body ++ ys) = simp (length-append, bytes-length) (omega arith) in
    let dy : drop 4 l ≡ y = drop_at (sync_bytes o) y 4 (sync-length o) in
    let dz : drop 8 l ≡ z = sym (drop-drop 4 4 l) ∙ ap (drop 4) dy ∙ drop_at (bytes_of o 4 t) z 4 (bytes-length o 4 t) in
    let wt : t ≡ type_in o l = sym (ap (word o) dy ∙ ap (unsigned o) (take_at (bytes_of o 4 t) z 4 (bytes-length o 4 t)) ∙ read-written o 4 t ht) in
    let wn : n ≡ size_in o l = sym (ap (word o) dz ∙ ap (unsigned o) (take_at (bytes_of o 4 n) (body ++ ys) 4 (bytes-length o 4 n)) ∙ read-written o 4 n (omega arith)) in
    shows-headed o l t n (starts-self (sync_bytes o) y) (omega arith) wt wn
    ∙ rw (hb, le-leb n (length l - 12) (omega (arith, length-append body ys)))

-- a chunk that is written is complete where it stands, whatever follows it
pub chunk-shows : (o : Order) (t : ℕ) (body ys : List ℕ) → t < 256 ^ 4 → good_size (length body) ≡ true → shows o (chunk_bytes o t body ++ ys) ≡ Complete t (length body)
chunk-shows o t body ys ht hb =
    let e : chunk_bytes o t body ++ ys ≡ sync_bytes o ++ (bytes_of o 4 t ++ (bytes_of o 4 (length body) ++ (body ++ ys))) = simp append_assoc in
    rw e (laid-shows o t body ys ht hb)

-- ---- one frame

pick-le : (b : Bool) (m n : ℕ) → m ≤ n → pick b 0 m ≤ n
pick-le true m n h = omega arith
pick-le false m n h = h

pub gap-le : (o : Order) (l : List ℕ) → gap o l ≤ length l
unfolding gap
gap-le o [] = omega arith
gap-le o (x ∷ l) = pick-le (stops (shows o (x ∷ l))) (1 + gap o l) (length (x ∷ l)) (omega (arith, gap-le o l))

-- the first frame takes a byte at least and no more than there are
pub record Takes (w n : ℕ) : Type 0 where
  pub some : 1 ≤ w
  pub most : w ≤ n

passed-takes : (o : Order) (x : ℕ) (l : List ℕ) → stops (shows o (x ∷ l)) ≡ false → Takes (length (take (gap o (x ∷ l)) (x ∷ l))) (length (x ∷ l))
passed-takes o x l h =
    let g = gap-le o (x ∷ l) in
    let m : length (take (gap o (x ∷ l)) (x ∷ l)) ≡ gap o (x ∷ l) = length-take-le (gap o (x ∷ l)) (x ∷ l) g in
    record { some = omega (arith, gap-pass o x l h); most = omega arith }

takes-by : (o : Order) (x : ℕ) (l : List ℕ) (a : At) → shows o (x ∷ l) ≡ a → Takes (width (frame_at a (gap o (x ∷ l)) (x ∷ l))) (length (x ∷ l))
takes-by o x l (Complete t n) e =
    let h = complete o (x ∷ l) t n e in
    let m : length (take n (drop 12 (x ∷ l))) ≡ n = length-take-le n (drop 12 (x ∷ l)) (simp length-drop (omega (arith, h.fits))) in
    record { some = omega arith; most = omega (arith, h.fits) }
takes-by o x l Unfinished e = record { some = omega arith; most = omega arith }
takes-by o x l NoSync e = passed-takes o x l (rw e)
takes-by o x l (Bad b) e = passed-takes o x l (rw e)

pub first-takes : (o : Order) (x : ℕ) (l : List ℕ) → Takes (width (first o (x ∷ l))) (length (x ∷ l))
first-takes o x l = takes-by o x l (shows o (x ∷ l)) refl

-- ---- the frames, one after the other

-- more fuel than bytes changes nothing
pub fuel : (f g : ℕ) (o : Order) (l : List ℕ) → length l ≤ f → length l ≤ g → frames_by f o l ≡ frames_by g o l
unfolding frames_by
fuel zero zero o [] hf hg = refl
fuel zero (suc g) o [] hf hg = refl
fuel (suc f) zero o [] hf hg = refl
fuel (suc f) (suc g) o [] hf hg = refl
fuel zero g o (x ∷ l) hf hg = absurd (omega arith)
fuel (suc f) zero o (x ∷ l) hf hg = absurd (omega arith)
fuel (suc f) (suc g) o (x ∷ l) hf hg =
    let w = width (first o (x ∷ l)) in
    let s = (first-takes o x l).some in
    let n : length (drop w (x ∷ l)) ≡ length (x ∷ l) - w = length-drop w (x ∷ l) in
    ap (λ (r : List Frame). first o (x ∷ l) ∷ r) (fuel f g o (drop w (x ∷ l)) (omega arith) (omega arith))

-- one frame, then the frames of the rest
pub frames-cons : (o : Order) (x : ℕ) (l : List ℕ) → frames o (x ∷ l) ≡ first o (x ∷ l) ∷ frames o (drop (width (first o (x ∷ l))) (x ∷ l))
unfolding frames_by
frames-cons o x l =
    let w = width (first o (x ∷ l)) in
    let s = (first-takes o x l).some in
    let n : length (drop w (x ∷ l)) ≡ length (x ∷ l) - w = length-drop w (x ∷ l) in
    ap (λ (r : List Frame). first o (x ∷ l) ∷ r) (fuel (length l) (length (drop w (x ∷ l))) o (drop w (x ∷ l)) (omega arith) (omega arith))

pub frames-nil : (o : Order) → frames o [] ≡ []
unfolding frames_by
frames-nil o = refl

-- how many bytes the first frame takes, by what stands there
pub width-complete : (o : Order) (l : List ℕ) (t n : ℕ) → shows o l ≡ Complete t n → width (first o l) ≡ 12 + n
width-complete o l t n e =
    let h = complete o l t n e in
    rw e (omega (arith, length-take-le n (drop 12 l) (simp length-drop (omega (arith, h.fits)))))

pub width-cut : (o : Order) (l : List ℕ) → shows o l ≡ Unfinished → width (first o l) ≡ length l
width-cut o l e = rw e

skip-by : (o : Order) (l : List ℕ) (a : At) → stops a ≡ false → width (frame_at a (gap o l) l) ≡ gap o l
skip-by o l NoSync h = length-take-le (gap o l) l (gap-le o l)
skip-by o l (Bad b) h = length-take-le (gap o l) l (gap-le o l)
skip-by o l Unfinished h = absurd cc
skip-by o l (Complete t n) h = absurd cc

pub width-skip : (o : Order) (l : List ℕ) → stops (shows o l) ≡ false → width (first o l) ≡ gap o l
width-skip o l h = skip-by o l (shows o l) h

-- one frame more of a stream
pub record Moves (o : Order) (s : List ℕ) (p w : ℕ) : Type 0 where
  pub some : 1 ≤ w
  pub fits : p + w ≤ length s
  pub rest : frames o (drop p s) ≡ first o (drop p s) ∷ frames o (drop (p + w) s)

moves-by : (o : Order) (s : List ℕ) (p x : ℕ) (l : List ℕ) → drop p s ≡ x ∷ l → p < length s → Moves o s p (width (first o (drop p s)))
moves-by o s p x l e h =
    let w = width (first o (drop p s)) in
    let k = first-takes o x l in
    let m : w ≡ width (first o (x ∷ l)) = rw e in
    let n : length (x ∷ l) ≡ length s - p = sym (ap length e) ∙ length-drop p s in
    record {
      some = omega (arith, k.some);
      fits = omega (arith, k.most);
      rest = rw (← drop-drop w p s, e) (frames-cons o x l);
    }

pub moves : (o : Order) (s : List ℕ) (p : ℕ) → p < length s → Moves o s p (width (first o (drop p s)))
moves o s p h = moves-by o s p (get_or s p 0) (drop (suc p) s) (drop-cons s p 0 h) h

-- the frames from a place on, by what stands there
module _ (o : Order) (s : List ℕ) (p : ℕ) (h : p < length s) where
  pub frames-chunk : (t n : ℕ) → shows o (drop p s) ≡ Complete t n → frames o (drop p s) ≡ chunk t (take n (drop 12 (drop p s))) ∷ frames o (drop (p + 12 + n) s)
  frames-chunk t n e =
      let q : p + width (first o (drop p s)) ≡ p + 12 + n = omega (arith, width-complete o (drop p s) t n e) in
      (moves o s p h).rest ∙ rw (q, e)

  pub frames-cut : shows o (drop p s) ≡ Unfinished → frames o (drop p s) ≡ unfinished (drop p s) ∷ frames o (drop (p + length (drop p s)) s)
  frames-cut e = (moves o s p h).rest ∙ rw (width-cut o (drop p s) e, e)

  passed : (a : At) (stray : Stray) → shows o (drop p s) ≡ a → ahead_by a ≡ Stretch stray → first o (drop p s) ≡ skipped stray (take (gap o (drop p s)) (drop p s))
  passed NoSync stray e k = let q : Stray.NoSync ≡ stray = cc in rw (e, q)
  passed (Bad b) stray e k = let q : Stray.Bad b ≡ stray = cc in rw (e, q)
  passed Unfinished stray e k = absurd cc
  passed (Complete t n) stray e k = absurd cc

  pub frames-skip : (stray : Stray) → ahead_of o (drop p s) ≡ Stretch stray → frames o (drop p s) ≡ skipped stray (take (gap o (drop p s)) (drop p s)) ∷ frames o (drop (p + gap o (drop p s)) s)
  frames-skip stray k =
      let n : 0 < length (drop p s) = simp length-drop (omega arith) in
      (moves o s p h).rest
      ∙ rw (width-skip o (drop p s) (is-stretch o (drop p s) stray k), passed (shows o (drop p s)) stray refl (sym (ahead-at o (drop p s) n) ∙ k))

  -- where no chunk is ahead the first frame is none, and what is said of any such is said of the frames
  pub no-chunk : {X : Type 0} (said : List Frame → X) (x : X) → ((f : Frame) (rest : List Frame) → is_chunk f ≡ false → said (f ∷ rest) ≡ x) →
      (a : Ahead) → ahead_of o (drop p s) ≡ a → Ahead.is_chunk a ≡ false → said (frames o (drop p s)) ≡ x
  no-chunk said x k End e n = absurd (omega (arith, is-end o (drop p s) e, length-drop p s))
  no-chunk said x k Cut e n = ap said (frames-cut (is-cut o (drop p s) e)) ∙ k _ _ refl
  no-chunk said x k (Stretch stray) e n = ap said (frames-skip stray e) ∙ k _ _ refl
  no-chunk said x k (Chunk code size) e n = absurd cc

-- a chunk that was read has a good size
sized-by : (o : Order) (l : List ℕ) (a : At) → shows o l ≡ a → of_chunk (Unit {0}) (λ type body. good_size (length body) ≡ true) (frame_at a (gap o l) l)
sized-by o l (Complete t n) e =
    let k = complete o l t n e in
    let m : length (take n (drop 12 l)) ≡ n = length-take-le n (drop 12 l) (simp length-drop (omega (arith, k.fits))) in
    rw m k.good
sized-by o l Unfinished e = tt
sized-by o l NoSync e = tt
sized-by o l (Bad b) e = tt

pub first-sized : (o : Order) (l : List ℕ) → of_chunk (Unit {0}) (λ type body. good_size (length body) ≡ true) (first o l)
first-sized o l = sized-by o l (shows o l) refl
