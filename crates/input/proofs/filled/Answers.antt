-- A read puts its bytes behind those that came before, so both together stand at the front and are what the input has lost.
use Rattle.std.proofs.Common.{◌≡◌, ℕ, rules, ◌+◌, ◌-◌, ◌≤◌, List, ◌++◌, length, take, drop, sym, ap, ◌∙◌, subst, le_refl, drop_at, length-take-le}
use Rattle.std.proofs.lemmas.Slice.{take-put_mid_below}
use Rattle.std.specs.Io.KnownBytes.{Consumes}
use Rattle.std.proofs.KnownBytes.{Consumes-trans}
use borrow.Rule.Slice.PartMut.{put_mid, post_of}
use lib.Seq.{take-add, take-append-le}
use Rattle.input.proofs.filled.Goals as goal

-- the front of a slice into which ys came back behind its first a elements
front-put_mid : (a k n : ℕ) (xs ys : List ℕ) → a ≤ length xs → n ≤ length ys → take a xs ++ take n ys ≡ take (a + n) (put_mid a k xs ys)
front-put_mid a k n xs ys within fits =
    let after = post_of a k xs in
    let behind = ap (take n) (drop_at (take a xs) (ys ++ after) a (length-take-le a xs within)) ∙ take-append-le n ys after fits in
    let before : take a (put_mid a k xs ys) ≡ take a xs = take-put_mid_below _ _ _ _ _ (le_refl _) within in
    sym (take-add a n (put_mid a k xs ys) ∙ ap (λ l. l ++ take n (drop a (put_mid a k xs ys))) before ∙ ap (λ l. take a xs ++ l) behind)

pub loop-done-preserved : goal.loop-done-preserved
loop-done-preserved g c =
    let l = c.loop-done in
    let e = front-put_mid l.done (length l.out - l.done) c.in_ok-more.more l.out c.read.new.buf l.invariant.within c.in_ok-more.ensures.bound.0 in
    record {
      within = search rules;
      came = subst (Consumes _ _) e (Consumes-trans _ _ _ _ _ l.invariant.came c.in_ok-more.ensures.bytes.0);
    }
