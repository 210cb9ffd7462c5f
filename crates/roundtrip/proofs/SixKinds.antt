-- The samples of each of the six data kinds, read back ready, over the order and the width.
use Prim.Native.Nat.{ℕ, ◌+◌, ◌*◌, ◌/◌, ◌≤◌, ◌<◌}
use mathlib.Core.Path.{◌≡◌, refl, sym, ap, ◌∙◌}
use mathlib.Core.Bool.{Bool, true, false}
use mathlib.Core.List.{List}
use native.Mathlib.Omega.{arith}
use lib.IntN.{ℤ, pos}
use lib.ListN.{length, get_or, take}
use lib.Seq.{take-length}
use borrow.Author.Tests.{lt-ltb}
use Rattle.num.specs.Answer.{gives}
use Rattle.num.specs.declared.Order.{Order}
use Rattle.body.specs.Kind.{code_of, kind_of, kind_in, known}
use Rattle.body.specs.Groups.{is_number}
use Rattle.body.specs.declared.sampled.Data.{Data}
use Rattle.body.specs.declared.groups.GroupPacking.{GroupPacking}
use Rattle.body.specs.declared.kinds.Kind.{Kind}
use Rattle.body.specs.declared.kinds.Kind.TheVariants.{SSNC, SSNR, SFNC, SFNR, GSNC, GFNC}
use Rattle.copy.specs.Samples.{i_of, q_of, front_filled}
use Rattle.effect.specs.Says.{ready}
use Rattle.reader.specs.Item.{chunk}
use Rattle.reader.specs.Step.{step_of}
use Rattle.reader.specs.declared.Cursor.{Cursor}
use Rattle.state.specs.declared.State.{State}
use Rattle.body.specs.Table.{shaped}
use Rattle.samples.specs.Layout.{layout, paired, real, member, values_of}
use Rattle.samples.specs.Copy.{count_of}
use Rattle.samples.specs.Inner.Plan.{number_bytes}
use Rattle.samples.proofs.Ready.{bytes_in}
use Rattle.roundtrip.proofs.Numbers.{Number, none}
use Rattle.roundtrip.proofs.Values.{reals-list, pairs-list}
use Rattle.roundtrip.proofs.Theorems.{Here, left_by, filled-back, pairs-laid, ready-layout, ready-count}

abbrev pub real_kind : Bool → Kind
real_kind true = SFNR
real_kind false = SSNR

abbrev pub pair_kind : Bool → Kind
pair_kind true = SFNC
pair_kind false = SSNC

abbrev pub group_kind : Bool → Kind
group_kind true = GFNC
group_kind false = GSNC

-- their layouts, and how many numbers make so many samples
real-layout : (float : Bool) (s : State) (d : Data) → layout float (shaped (kind_of (code_of (real_kind float)))) 0 s d ≡ gives (real d)
unfolding shaped kind_of kind_in known
real-layout true s d = refl
real-layout false s d = refl

pair-layout : (float : Bool) (s : State) (d : Data) → layout float (shaped (kind_of (code_of (pair_kind float)))) 0 s d ≡ gives (paired s d)
unfolding shaped kind_of kind_in known
pair-layout true s d = refl
pair-layout false s d = refl

group-layout : (float : Bool) (channel : ℕ) (s : State) (d : Data) → channel < s.values.group.n →
    layout float (shaped (kind_of (code_of (group_kind float)))) channel s d ≡ gives (member channel s d)
unfolding shaped kind_of kind_in known
group-layout true channel s d h = rw (lt-ltb channel s.values.group.n h)
group-layout false channel s d h = rw (lt-ltb channel s.values.group.n h)

real-count : (float : Bool) (n m : ℕ) → n * number_bytes float ≡ m * bytes_in (shaped (kind_of (code_of (real_kind float)))) → n ≡ m
unfolding shaped kind_of kind_in known
real-count true n m e = omega arith
real-count false n m e = omega arith

pair-count : (float : Bool) (n m : ℕ) → n * number_bytes float ≡ m * bytes_in (shaped (kind_of (code_of (pair_kind float)))) → n ≡ 2 * m
unfolding shaped kind_of kind_in known
pair-count true n m e = omega arith
pair-count false n m e = omega arith

group-count : (float : Bool) (n m : ℕ) → n * number_bytes float ≡ m * bytes_in (shaped (kind_of (code_of (group_kind float)))) → n ≡ 2 * m
unfolding shaped kind_of kind_in known
group-count true n m e = omega arith
group-count false n m e = omega arith

module _ (float : Bool) (o : Order) (s : List ℕ) (c : Cursor) (time : ℤ) (xs out : List (Number float)) (p k size : ℕ) (d : Data)
    (e : (step_of o s c).item ≡ gives (chunk p k size (ready d))) where
  -- SSNR and SFNR: the numbers given are the numbers copied.
  pub reals-back : Here float o s c (code_of (real_kind float)) time xs → length xs ≤ length out →
      (count_of float o s c 0 (length out) ≡ gives (length xs)) × (left_by float o s c 0 out ≡ front_filled xs out)
  reals-back h r =
      let n : length xs ≡ d.samples = real-count float (length xs) d.samples (ready-count float o s c _ time xs h p k size d e) in
      let l = ready-layout float o s c _ time xs h p k size d 0 e ∙ real-layout float (step_of o s c).shown d in
      let b = filled-back float o s c _ time xs h 0 out (real d) l (omega arith) in
      let v : values_of (λ k. get_or xs k (none float)) (real d) ≡ xs = rw (← n) (reals-list xs (none float) (length xs) (omega arith) ∙ take-length xs) in
      (b.0 ∙ ap gives (sym n), b.1 ∙ ap (λ ys. front_filled ys out) v)

  -- SSNC and SFNC where I stands before Q: so too.
  pub pairs-back : Here float o s c (code_of (pair_kind float)) time xs → (step_of o s c).shown.values.packing.value ≡ pos 1 → length xs ≤ length out →
      (count_of float o s c 0 (length out) ≡ gives (length xs)) × (left_by float o s c 0 out ≡ front_filled xs out)
  pairs-back h iq r =
      let n : length xs ≡ 2 * d.samples = pair-count float (length xs) d.samples (ready-count float o s c _ time xs h p k size d e) in
      let l = ready-layout float o s c _ time xs h p k size d 0 e ∙ pair-layout float (step_of o s c).shown d in
      let b = filled-back float o s c _ time xs h 0 out (paired (step_of o s c).shown d) l (omega arith) in
      let t : take (2 * d.samples) xs ≡ xs = rw (← n) (take-length xs) in
      let v : values_of (λ k. get_or xs k (none float)) (paired (step_of o s c).shown d) ≡ xs = rw iq (pairs-list xs (none float) d.samples (omega arith) ∙ t) in
      (b.0 ∙ ap gives (sym n), b.1 ∙ ap (λ ys. front_filled ys out) v)

  -- SSNC and SFNC in any packing: pair j is given as its I, then its Q.
  pub pairs-packed-back : Here float o s c (code_of (pair_kind float)) time xs → length xs ≤ length out →
      let iq : Bool = is_number 1 (step_of o s c).shown.values.packing.value in
      (length xs ≡ 2 * d.samples)
      × (count_of float o s c 0 (length out) ≡ gives (2 * d.samples))
      × ((j : ℕ) → j < d.samples →
      (get_or (left_by float o s c 0 out) (2 * j) (none float) ≡ get_or xs (i_of iq j) (none float))
      × (get_or (left_by float o s c 0 out) (2 * j + 1) (none float) ≡ get_or xs (q_of iq j) (none float)))
  pairs-packed-back h r =
      let n : length xs ≡ 2 * d.samples = pair-count float (length xs) d.samples (ready-count float o s c _ time xs h p k size d e) in
      let l = ready-layout float o s c _ time xs h p k size d 0 e ∙ pair-layout float (step_of o s c).shown d in
      let b = pairs-laid float o s c _ time xs h 0 out (paired (step_of o s c).shown d) l refl (omega arith) in (
        n,
        b.0,
        λ j i.
            let z : 0 + j * 1 ≡ j = omega arith in
            rw z at (b.1 j i),
      )

  -- GSNC and GFNC: a channel below n has P/n pairs, and its pair j is the one at offset + j · increment.
  pub group-back : Here float o s c (code_of (group_kind float)) time xs → (channel : ℕ) →
      let g : GroupPacking = (step_of o s c).shown.values.group in
      let each : ℕ = d.samples / g.n in
      channel < g.n → 2 * each ≤ length out →
      (length xs ≡ 2 * d.samples)
      × (count_of float o s c channel (length out) ≡ gives (2 * each))
      × ((j : ℕ) → j < each →
      let pair : ℕ = get_or g.offsets channel 0 + j * g.increment in
      (get_or (left_by float o s c channel out) (2 * j) (none float) ≡ get_or xs (i_of g.iq pair) (none float))
      × (get_or (left_by float o s c channel out) (2 * j + 1) (none float) ≡ get_or xs (q_of g.iq pair) (none float)))
  group-back h channel m r =
      let n : length xs ≡ 2 * d.samples = group-count float (length xs) d.samples (ready-count float o s c _ time xs h p k size d e) in
      let l = ready-layout float o s c _ time xs h p k size d channel e ∙ group-layout float channel (step_of o s c).shown d m in
      let b = pairs-laid float o s c _ time xs h channel out (member channel (step_of o s c).shown d) l refl r in
      (n, b.0, b.1)
