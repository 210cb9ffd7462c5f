-- Which chunk is the last one, and what is shown of its value.
use Prim.Native.Nat.{ℕ}
use mathlib.Core.Path.{◌≡◌, refl, ap, ◌∙◌}
use mathlib.Core.Bool.{Bool, true, false}
use mathlib.Core.List.{List, [], ◌∷◌, foldl, foldl-append}
use native.Mathlib.Omega.{arith}
use lib.Dec.{eqb}
use Rattle.num.specs.Answer.{Answer, gives, refuses}
use Rattle.num.specs.Choice.{pick, both, either}
use Rattle.num.specs.declared.Order.{Order}
use Rattle.frame.specs.Frames.{Frame, chunk, is_chunk, of_chunk}
use Rattle.frame.proofs.Looks.{frame-by, other-made}
use Rattle.body.specs.Check.{or_else}
use Rattle.body.specs.Kind.{kind_of}
use Rattle.body.specs.Table.{Slot, packing, rate, band, group_band, centre, full_scale, total_gain, float_scale, group, frequencies, gains, Value, none, is_slot, Row, sets, marks, leaves, samples, unknown, row, set_by, shaped}
use Rattle.body.specs.Verdict.{seen, verdict_by, verdict}
use Rattle.body.specs.declared.kinds.Kind.{Kind}
use Rattle.state.specs.State.{value_in, built, Summed}
use Rattle.state.specs.Sums.{sums_of}
use Rattle.state.specs.declared.Values.{Values}
use Rattle.state.proofs.Slots.{in-built, set-other, in-set, sums-other, set-none}
use Rattle.effect.specs.Ready.{hertz_of, gains_of, in_group}
use Rattle.effect.proofs.Summed.{group-summed}
use Rattle.samples.proofs.There.{pick-same}
use Rattle.decides.specs.Last.{is_skipped, Last, nothing, set, last_after, last_of, Leaves, AllLeave, LastIs, NoneSince, value_by, value_of, last_value, last_values, group_shaped, shown_by, is_counted}

-- ---- which chunk it is

module _ (x : Slot) where
  other-leaves : (l : Last) (g : Frame) (t : Bool) → is_chunk g ≡ false → pick t ⊥ (of_chunk (Unit {0}) (λ code b. set_by (kind_of code) x ≡ false) g) →
      pick t nothing (of_chunk l (λ code b. pick (set_by (kind_of code) x) (set code b) l) g) ≡ l
  other-leaves l g true n h = absurd h
  other-leaves l g false n h = other-made l (λ code b. pick (set_by (kind_of code) x) (set code b) l) g n

  leaves-one : (l : Last) (f : Frame) → Leaves x f → last_after x l f ≡ l
  leaves-one l f = frame-by (λ (g : Frame). Leaves x g → last_after x l g ≡ l) (λ code b h. rw h) (λ g n h. other-leaves l g (is_skipped g) n h) f

  leaves-all : (l : Last) (gs : List Frame) → AllLeave x gs → foldl (last_after x) l gs ≡ l
  leaves-all l [] h = refl
  leaves-all l (g ∷ gs) h = rw (leaves-one l g h.0) (leaves-all l gs h.1)

  searching-by : (t : Bool) (l : Last) (fs : List Frame) → (t ≡ true → l ≡ nothing) → foldl (λ (before : Bool) (f : Frame). is_skipped f) t fs ≡ true →
      foldl (last_after x) l fs ≡ nothing
  searching-by t l [] h e = h e
  searching-by t l (f ∷ fs) h e = searching-by (is_skipped f) (last_after x l f) fs (λ q. rw q) e

  -- where no chunk has set the slot since the reader was searching, there is no last one
  pub none-since : (fs : List Frame) → NoneSince x fs → last_of x fs ≡ nothing
  none-since fs n =
      ap (last_of x) n.split
      ∙ foldl-append (last_after x) nothing n.earlier n.later
      ∙ rw (searching-by true nothing n.earlier (λ q. refl) n.searching) (leaves-all nothing n.later n.others)

  -- where one has, and neither a chunk that sets it nor a skipped stretch follows, that one is the last
  pub last-is : (fs : List Frame) (code : ℕ) (b : List ℕ) → LastIs x fs code b → last_of x fs ≡ set code b
  last-is fs code b n =
      ap (last_of x) n.split
      ∙ foldl-append (last_after x) nothing n.earlier (chunk code b ∷ n.later)
      ∙ rw n.setter (leaves-all (set code b) n.later n.others)

-- ---- the value that it leaves

refused-held : {A B : Type 0} (none : B) (hold : A → B) (a : Answer A) (n : ℕ) → seen a ≡ refuses n → or_else none hold a ≡ none
refused-held none hold (gives a) n e = let z : ◌≡◌ {A = ℕ} 0 1 = cc in absurd (omega arith)
refused-held none hold (refuses m) n e = refl

module _ (o : Order) (x : Slot) (b : List ℕ) where
  row-malformed : (r : Row) (n : ℕ) → verdict_by r o b ≡ refuses n → value_by r o b x ≡ none x
  row-malformed (sets y hold read) n e = rw (refused-held (none y) hold (read o b) n e, set-none y) (in-built none x)
  row-malformed (marks read) n e = refl
  row-malformed (leaves read) n e = refl
  row-malformed (samples shape) n e = refl
  row-malformed unknown n e = refl

  value-malformed : (code n : ℕ) → verdict o (kind_of code) b ≡ refuses n → value_of o x (set code b) ≡ none x
  unfolding verdict
  value-malformed code n e = row-malformed (row (kind_of code)) n e

  value-well : {A : Type 0} (hold : A → Value x) (read : Order → List ℕ → Answer A) (code : ℕ) (a : A) → row (kind_of code) ≡ sets x hold read → read o b ≡ gives a →
      value_of o x (set code b) ≡ hold a
  value-well hold read code a h e = rw (h, e) (in-set x (hold a) (built none))

-- ---- what is shown of it

group-none : (x : Slot) (v : Values) → value_in x v ≡ none x → value_in x (in_group v) ≡ none x
group-none packing v e = e
group-none rate v e = e
group-none band v e = e
group-none group_band v e = e
group-none centre v e = e
group-none full_scale v e = e
group-none total_gain v e = e
group-none float_scale v e = e
group-none group v e = e
group-none frequencies v e = rw e (pick-same (eqb 0 v.group.n) (none frequencies))
group-none gains v e = rw e (pick-same (eqb 0 v.group.n) (none gains))

either-false : (a b : Bool) → either a b ≡ false → (a ≡ false) × (b ≡ false)
either-false true b e = let z : ◌≡◌ {A = ℕ} 0 1 = cc in absurd (omega arith)
either-false false b e = (refl, e)

module _ (x : Slot) (v : Values) where
  none-by : (t : Bool) → value_in x v ≡ none x → value_in x (pick t (in_group v) v) ≡ none x
  none-by true e = group-none x v e
  none-by false e = e

  all-by : (t : Bool) → both t (is_counted x) ≡ false → value_in x (pick t (in_group v) v) ≡ value_in x v
  all-by true e =
      let h = either-false (is_slot frequencies x) (is_slot gains x) e in
      sums-other _ _ x ∙ set-other gains _ _ x h.1 ∙ set-other frequencies _ v x h.0
  all-by false e = refl

-- Values that are shown with a chunk of a kind, as those of the last chunks among some frames.
module _ (o : Order) (k : Kind) (fs : List Frame) (shown : Values) (e : shown ≡ shown_by k (last_values o fs)) where
  shown-summed : (t : Bool) → Summed (pick t (in_group (last_values o fs)) (last_values o fs))
  shown-summed true = group-summed (last_values o fs) refl
  shown-summed false = refl

  -- Every chunk shows the sums of the dBTG and the gains that it shows.
  pub last-sums : shown.sums ≡ sums_of shown.total_gain shown.gains
  last-sums = rw e (shown-summed (group_shaped (shaped k)))

  -- A group chunk shows the last frequencies and gains where their count is that of the last group packing, and else none.
  pub last-group : group_shaped (shaped k) ≡ true →
      (shown.frequencies ≡ hertz_of (last_value o fs group).n (last_value o fs frequencies)) × (shown.gains ≡ gains_of (last_value o fs group).n (last_value o fs gains))
  last-group h = rw (e, h) (refl, refl)

  module _ (x : Slot) where
    absent : last_value o fs x ≡ none x → value_in x shown ≡ none x
    absent h = rw e (none-by x (last_values o fs) (group_shaped (shaped k)) (in-built (last_value o fs) x ∙ h))

    -- No chunk has set the slot since the step was regained: the value is shown as absent.
    pub last-none : NoneSince x fs → value_in x shown ≡ none x
    last-none n = absent (ap (value_of o x) (none-since x fs n))

    module _ (code : ℕ) (b : List ℕ) (l : LastIs x fs code b) where
      -- The last chunk that sets it is malformed: the value is shown as absent.
      pub last-malformed : (n : ℕ) → verdict o (kind_of code) b ≡ refuses n → value_in x shown ≡ none x
      last-malformed n h = absent (ap (value_of o x) (last-is x fs code b l) ∙ value-malformed o x b code n h)

      -- It is well-formed: the value is that of its body, read and held as the row of its kind says. Of the frequencies and gains that a
      -- group chunk shows, last-group speaks.
      pub last-well : {A : Type 0} (hold : A → Value x) (read : Order → List ℕ → Answer A) (a : A) → row (kind_of code) ≡ sets x hold read → read o b ≡ gives a →
          both (group_shaped (shaped k)) (is_counted x) ≡ false → value_in x shown ≡ hold a
      last-well hold read a h q n =
          rw e
          (all-by x (last_values o fs) (group_shaped (shaped k)) n
          ∙ in-built (last_value o fs) x
          ∙ ap (value_of o x) (last-is x fs code b l)
          ∙ value-well o x b hold read code a h q)
