-- What the definition of a listing says of every stream, and what the cases of the answer say.
use Prim.Native.Nat.{ℕ, ◌≤◌, ◌<◌}
use mathlib.Core.Path.{◌≡◌, refl, ap, sym, ◌∙◌}
use mathlib.Core.Bool.{Bool, true, false}
use mathlib.Core.List.{List}
use mathlib.Core.Logic.{◌↔◌}
use native.Mathlib.Omega.{arith}
use lib.Dec.{ltb, leb}
use lib.ListN.{length, get_or, drop, length-drop}
use borrow.Author.Tests.{ltb-true, ltb-false, leb-true, leb-false}
use Rattle.std.specs.Prelude.{Result, Ok, Err}
use Rattle.num.specs.Answer.{Answer, gives, refuses}
use Rattle.num.specs.Choice.{pick}
use Rattle.num.specs.declared.Order.{Order}
use Rattle.num.specs.declared.Order.TheVariants.{Big, Little}
use Rattle.frame.specs.Place.{sync_bytes, starts, order_of}
use Rattle.frame.proofs.Laws.{starts-short, sync-length}
use Rattle.frame.proofs.Theorems.{NoneBelow, order-lowest, order-refused}
use Rattle.reader.specs.Item.{Item}
use Rattle.lay.specs.Splice.{overlaid}
use Rattle.listing.specs.Lines.{count_line, long_line, none_line, listing}
use Rattle.lister.specs.Listed.{most, longest, items_of, listed, needs, laid_in}
use Rattle.lister.specs.declared.Needs.{Needs}
use Rattle.lister.proofs.Laws.{overlaid-length}
use Rattle.lister.proofs.Bound.{listing-length}
use Rattle.lister.proofs.Cases.{listed-long, listed-none, listed-by}

-- ---- how long a listing is

-- No stream has a listing of more than 352,968 bytes, which is what the code has as ROOM.
pub listed-room : (s : List ℕ) → length (listed s) ≤ longest
listed-room s = listed-by s (λ (l : List ℕ). length l ≤ longest) (λ h. omega arith) (λ o h e. listing-length o s h) (λ n h e. omega arith)

-- ---- when it is long, and when none

first-byte : (o : Order) (n : ℕ) (is : List Item) → get_or (listing o n is) 0 0 ≡ 0x70
unfolding count_line
first-byte Big n is = refl
first-byte Little n is = refl

-- The listing is `long` just where the stream has more than 65,536 bytes.
pub long-just : (s : List ℕ) → listed s ≡ long_line ↔ most < length s
long-just s = (
  listed-by s (λ (l : List ℕ). l ≡ long_line → most < length s) (λ h e. h)
      (λ o h q e. absurd (omega (arith, first-byte o (length s) (items_of o s), ap (λ (l : List ℕ). get_or l 0 0) e)))
      (λ n h q e. absurd (omega (arith, ap (λ (l : List ℕ). get_or l 0 0) e))),
  listed-long s,
)

-- So a stream of 65,536 bytes, whatever they are, is listed, and one of 65,537 is not.
pub long-edge : (s : List ℕ) → (length s ≡ 65536 → listed s ≡ long_line → ⊥) × (length s ≡ 65537 → listed s ≡ long_line)
long-edge s = (λ n e. omega (arith, (long-just s).0 e), λ n. listed-long s (omega arith))

-- a word that stands nowhere stands at no place
nowhere : (s : List ℕ) → NoneBelow s (length s) → (o : Order) (p : ℕ) (b : Bool) → ltb p (length s) ≡ b → starts (sync_bytes o) (drop p s) ≡ false
nowhere s h o p true t = h p o (ltb-true p (length s) t)
nowhere s h o p false t =
    starts-short (sync_bytes o) (drop p s) (omega (arith, sync-length o, length-drop p s, ltb-false p (length s) t))

-- so no order is found
no-order : (s : List ℕ) → NoneBelow s (length s) → (a : Answer Order) → order_of s ≡ a → order_of s ≡ refuses 1
no-order s h (refuses n) e = e ∙ ap refuses (order-refused s n e).0
no-order s h (gives o) e =
    let w = order-lowest s o e in
    let n = nowhere s h o w.0 (ltb w.0 (length s)) refl in
    let t = w.1 in
    let z : ◌≡◌ {A = ℕ} 0 1 = cc in absurd (omega arith)

-- The listing of a stream that is not too long is `none` just where no sync word of either order stands in it.
pub none-just : (s : List ℕ) → length s ≤ most → listed s ≡ none_line ↔ NoneBelow s (length s)
none-just s m = (
  listed-by s (λ (l : List ℕ). l ≡ none_line → NoneBelow s (length s)) (λ h e. absurd (omega arith))
      (λ o h q e. absurd (omega (arith, first-byte o (length s) (items_of o s), ap (λ (l : List ℕ). get_or l 0 0) e)))
      (λ n h q e. (order-refused s n q).1),
  λ h. listed-none s 1 m (no-order s h (order_of s) refl),
)

-- ---- the cases of the answer

-- the number in an answer
abbrev number_in : Result ℕ Needs → ℕ
number_in (Ok n) = n
number_in (Err e) = e.0

-- Ok says how many bytes the listing has, and that they fit; Needs says the same number, and that they do not.
module _ (n room k : ℕ) where
  laid-by : (b : Bool) → leb n room ≡ b → pick b (Ok n) (needs n) ≡ Ok k → (k ≡ n) × (n ≤ room)
  laid-by true t e = (cc, leb-true n room t)
  laid-by false t e = let z : ◌≡◌ {A = ℕ} 0 1 = cc in absurd (omega arith)

  needs-by : (b : Bool) → leb n room ≡ b → pick b (Ok n) (needs n) ≡ needs k → (k ≡ n) × (room < n)
  needs-by true t e = let z : ◌≡◌ {A = ℕ} 0 1 = cc in absurd (omega arith)
  needs-by false t e = (sym (ap number_in e), leb-false n room t)

  pub laid-told : laid_in n room ≡ Ok k → (k ≡ n) × (n ≤ room)
  laid-told e = laid-by (leb n room) refl e

  pub needs-told : laid_in n room ≡ needs k → (k ≡ n) × (room < n)
  needs-told e = needs-by (leb n room) refl e

-- Ok with a number says that the slice, as the call leaves it, has at least so many bytes.
pub laid-within : (d e vs : List ℕ) (r : Result ℕ Needs) (k : ℕ) → r ≡ laid_in (length vs) (length d) → e ≡ overlaid d 0 vs → r ≡ Ok k → k ≤ length e
laid-within d e vs r k p q h =
    let t = laid-told (length vs) (length d) k (sym p ∙ h) in
    omega (arith, t.0, t.1, ap length q, overlaid-length d 0 vs)
