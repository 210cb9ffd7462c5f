-- What holds of every call that meets the promise of `lay`. Its arguments are the stream and the slice.
use Prim.Native.Nat.{ℕ, ◌+◌, ◌≤◌, ◌<◌}
use mathlib.Core.Path.{◌≡◌, refl, ap, sym, ◌∙◌}
use mathlib.Core.List.{◌++◌}
use native.Mathlib.Omega.{arith}
use lib.ListN.{length, take, drop}
use lib.Seq.{take_at, drop_at}
use borrow.Author.Tests.{le-leb, lt-leb}
use Rattle.std.specs.Prelude.{Ok}
use Rattle.num.specs.Answer.{gives}
use Rattle.num.specs.declared.Order.{Order}
use Rattle.lay.proofs.Splice.{laid-first}
use Rattle.frame.specs.Place.{order_of}
use Rattle.reader.specs.Items.{items}
use Rattle.listing.specs.Read.{last_number}
use Rattle.lister.specs.Listed.{most, longest, needs, listed}
use Rattle.lister.proofs.Printed.{printed-count}
use Rattle.lister.proofs.Theorems.{listed-room, laid-told}
use Rattle.lister.proofs.lay.Reads as lay

-- Where the slice has room for the listing, the answer is its length, the slice begins with it, and the rest is as it was.
pub lay-room : (κs : _) (a : _) (r : _) (t : _) → lay.Post κs a r t → length (listed a.0.now) ≤ length a.1.0.now →
    let n = length (listed a.0.now) in
    (r ≡ Ok n) × (take n t.1.0.now ≡ listed a.0.now) × (drop n t.1.0.now ≡ drop n a.1.0.now)
lay-room κs a r t p h =
    let d = a.1.0.now in
    let v = listed a.0.now in
    let n = length v in
    let z : 0 + n ≡ n = omega arith in
    let e : t.1.0.now ≡ v ++ drop n d = laid-first d t.1.0.now 0 v (omega arith) p.1 ∙ rw z in
    (p.0 ∙ rw (le-leb n (length d) h), ap (take n) e ∙ take_at v (drop n d) n refl, ap (drop n) e ∙ drop_at v (drop n d) n refl)

-- Where it has not, the answer is the length that it needs, and the slice is as it was.
pub lay-no-room : (κs : _) (a : _) (r : _) (t : _) → lay.Post κs a r t → length a.1.0.now < length (listed a.0.now) →
    (r ≡ needs (length (listed a.0.now))) × (t.1.0.now ≡ a.1.0.now)
lay-no-room κs a r t p h =
    let d = a.1.0.now in
    let n = length (listed a.0.now) in
    let z : 0 + n ≡ n = omega arith in
    (p.0 ∙ rw (lt-leb n (length d) h), p.1 ∙ rw (z, lt-leb n (length d) h))

-- A slice of 352,968 bytes has room for the listing of every stream.
pub lay-always : (κs : _) (a : _) (r : _) (t : _) → lay.Post κs a r t → longest ≤ length a.1.0.now →
    let n = length (listed a.0.now) in
    (r ≡ Ok n) × (take n t.1.0.now ≡ listed a.0.now) × (drop n t.1.0.now ≡ drop n a.1.0.now)
lay-always κs a r t p h = lay-room κs a r t p (omega (arith, listed-room a.0.now))

-- Where the answer is Ok, of a stream that is not too long and in which an order is found, the number at the end of the bytes that
-- were laid is the length of its list of items.
pub lay-count : (κs : _) (a : _) (r : _) (t : _) → lay.Post κs a r t → (n : ℕ) → r ≡ Ok n →
    (o : Order) → length a.0.now ≤ most → order_of a.0.now ≡ gives o →
    last_number (take n t.1.0.now) ≡ length (items o a.0.now)
lay-count κs a r t p n e o h q =
    let l = laid-told (length (listed a.0.now)) (length a.1.0.now) n (sym p.0 ∙ e) in
    rw (l.0, (lay-room κs a r t p l.1).1) (printed-count a.0.now o h q)
