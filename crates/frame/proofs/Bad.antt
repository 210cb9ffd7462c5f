-- When a stream shows no sync, and when a bad header of the one sort or of the other.
use Prim.Native.Nat.{ℕ, ◌%◌, ◌≤◌, ◌<◌}
use mathlib.Core.Path.{◌≡◌, refl, ◌∙◌}
use mathlib.Core.Bool.{Bool, true, false}
use mathlib.Core.List.{List}
use mathlib.Core.Logic.{◌↔◌}
use lib.Dec.{leb, eqb}
use lib.ListN.{length}
use borrow.Author.Tests.{le-leb, lt-leb, leb-true, leb-false, ne_eqb, eqb-false}
use Rattle.num.specs.Choice.{pick, both}
use Rattle.num.specs.declared.Order.{Order}
use Rattle.frame.specs.declared.BadSize.{BadSize}
use Rattle.frame.specs.declared.BadSize.TheVariants.{Large, Uneven}
use Rattle.frame.specs.declared.At.{At}
use Rattle.frame.specs.declared.At.TheVariants.{NoSync, Bad}
use Rattle.frame.specs.Place.{header_size, size_limit, sync_bytes, starts, begun, type_in, size_in, good_size, bad_size, shows}
use Rattle.frame.proofs.Laws.{shows-begun, shows-headed, shows-by}

-- a whole header is at the front: the sync word, and twelve bytes at least
pub record Headed (o : Order) (l : List ℕ) : Type 0 where
  pub sync : starts (sync_bytes o) l ≡ true
  pub whole : header_size ≤ length l

large-by : (b : Bool) → pick b Uneven Large ≡ Large → b ≡ false
large-by false e = refl
large-by true e = absurd cc

uneven-by : (b c : Bool) → pick b Uneven Large ≡ Uneven → both b c ≡ false → (b ≡ true) × (c ≡ false)
uneven-by true c e h = (refl, h)
uneven-by false c e h = absurd cc

module _ (o : Order) (l : List ℕ) where
  -- no sync: the sync word does not stand there, nor do the bytes that are left begin it
  no-sync-only : shows o l ≡ NoSync → (starts (sync_bytes o) l ≡ false) × (begun o l ≡ false)
  no-sync-only =
      shows-by (λ (a : At). a ≡ NoSync → (starts (sync_bytes o) l ≡ false) × (begun o l ≡ false)) o l record {
        none = λ b g e. (b, g);
        begins = λ b g e. absurd cc;
        short = λ b h e. absurd cc;
        bad = λ b h g e. absurd cc;
        cut = λ b h g m e. absurd cc;
        whole = λ b h g m e. absurd cc;
      }

  pub no-sync-exactly : (shows o l ≡ NoSync) ↔ ((starts (sync_bytes o) l ≡ false) × (begun o l ≡ false))
  no-sync-exactly = (no-sync-only, λ h. shows-begun o l h.0 ∙ rw h.1)

  -- a bad header: a whole header with a size that is not good, of the sort that is named
  pub bad-only : (w : BadSize) → shows o l ≡ Bad w → Headed o l × (good_size (size_in o l) ≡ false) × (bad_size (size_in o l) ≡ w)
  bad-only w =
      shows-by (λ (a : At). a ≡ Bad w → Headed o l × (good_size (size_in o l) ≡ false) × (bad_size (size_in o l) ≡ w)) o l record {
        none = λ b g e. absurd cc;
        begins = λ b g e. absurd cc;
        short = λ b h e. absurd cc;
        bad = λ b h g e. (record { sync = b; whole = h }, g, cc);
        cut = λ b h g m e. absurd cc;
        whole = λ b h g m e. absurd cc;
      }

  bad-there : (w : BadSize) → Headed o l → good_size (size_in o l) ≡ false → bad_size (size_in o l) ≡ w → shows o l ≡ Bad w
  bad-there w h g e = shows-headed o l (type_in o l) (size_in o l) h.sync h.whole refl refl ∙ rw (g, e)

  -- large: its size is over the limit, whether 4 divides it or not
  large-only : shows o l ≡ Bad Large → Headed o l × (size_limit < size_in o l)
  large-only e = let h = bad-only Large e in (h.0, leb-false (size_in o l) size_limit (large-by (leb (size_in o l) size_limit) h.2))

  pub large-exactly : (shows o l ≡ Bad Large) ↔ (Headed o l × (size_limit < size_in o l))
  large-exactly = (large-only, λ h. let n = lt-leb (size_in o l) size_limit h.1 in bad-there Large h.0 (rw n) (rw n))

  -- uneven: its size is within the limit, and 4 does not divide it
  uneven-only : shows o l ≡ Bad Uneven → Headed o l × (size_in o l ≤ size_limit) × (size_in o l % 4 ≡ 0 → ⊥)
  uneven-only e =
      let m = size_in o l in
      let h = bad-only Uneven e in
      let n = uneven-by (leb m size_limit) (eqb (m % 4) 0) h.2 h.1 in
      (h.0, leb-true m size_limit n.0, eqb-false (m % 4) 0 n.1)

  pub uneven-exactly : (shows o l ≡ Bad Uneven) ↔ (Headed o l × (size_in o l ≤ size_limit) × (size_in o l % 4 ≡ 0 → ⊥))
  uneven-exactly = (
    uneven-only,
    λ h.
        let m = size_in o l in
        let n = le-leb m size_limit h.1 in
        bad-there Uneven h.0 (rw (n, ne_eqb (m % 4) 0 h.2)) (rw n),
  )
