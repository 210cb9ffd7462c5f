-- Laws of numbers laid one after the other.
use Prim.Native.Nat.{ℕ, ◌+◌, ◌-◌, ◌*◌, ◌≤◌, ◌<◌}
use mathlib.Core.Path.{◌≡◌, ap, ◌∙◌}
use mathlib.Core.List.{List}
use native.Mathlib.Omega.{arith}
use native.Mathlib.Nat.{suc-mul, mul-le-mul_right}
use lib.ListN.{length, get_or, take}
use borrow.Rule.Slice.PartMut.{put_mid}
use Rattle.num.specs.Number.{bytes_of}
use Rattle.num.specs.declared.Order.{Order}
use Rattle.num.proofs.Laws.{bytes-length}
use Rattle.lay.specs.Numbers.{numbers_of}
use Rattle.lay.specs.Splice.{splice}
use Rattle.lay.proofs.Splice.{lent-back, length-splice}
use Rattle.lay.proofs.Values.{run-none, run-next, run-all, run_length}

module _ {A : Type 0} (o : Order) (k : ℕ) (bits : A → ℕ) (xs : List A) where
  abbrev one : A → List ℕ
  one x = bytes_of o k (bits x)

  wide : (x : A) → length (one x) ≡ k
  wide x = bytes-length o k (bits x)

  pub numbers_length : length (numbers_of o k bits xs) ≡ length xs * k
  numbers_length = run_length one k wide xs

  -- they are laid over all of d one by one, each into a part that is lent for it
  module _ (d : List ℕ) (n : length d ≡ length xs * k) where
    pub numbers_none : d ≡ splice d 0 (numbers_of o k bits (take 0 xs))
    numbers_none = run-none one xs d 0

    pub numbers_next : (j : ℕ) (z : A) (l part : List ℕ) → j < length xs → z ≡ get_or xs j z → part ≡ bytes_of o k (bits z) →
        length l ≡ length d → l ≡ splice d 0 (numbers_of o k bits (take j xs)) →
        (length (put_mid (j * k) (j * k + k - j * k) l part) ≡ length d)
        × (put_mid (j * k) (j * k + k - j * k) l part ≡ splice d 0 (numbers_of o k bits (take (j + 1) xs)))
    numbers_next j z l part h at e long laid =
        let inside : j * k + k ≤ length l = omega (arith, suc-mul j k, mul-le-mul_right k h, n, long) in
        let m : length part ≡ k = ap length e ∙ wide z in
        let put = lent-back l part (j * k) (j * k + k) (omega arith) (omega arith) in (
          ap length put ∙ length-splice l (j * k) part (omega arith) ∙ long,
          run-next one k wide xs d 0 z j l _ (j * k) h (omega arith) (omega arith) laid (put ∙ ap (splice l (j * k)) (e ∙ ap one at)),
        )

    pub numbers-all : (j : ℕ) (l : List ℕ) → j ≡ length xs → l ≡ splice d 0 (numbers_of o k bits (take j xs)) → l ≡ numbers_of o k bits xs
    numbers-all j l q e = run-all one k wide xs d l j n q e
