-- How long the lines of a listing are, where no place and no size has more than five digits.
use Prim.Native.Nat.{ℕ, ◌≤◌, ◌<◌}
use mathlib.Core.Path.{◌≡◌, refl}
use mathlib.Core.Bool.{Bool, true, false}
use mathlib.Core.List.{List, [], ◌∷◌}
use native.Mathlib.Omega.{arith}
use lib.Dec.{ltb}
use lib.ListN.{length, take, drop, length-drop}
use Rattle.num.specs.Answer.{Answer, gives, refuses}
use Rattle.num.specs.Choice.{pick}
use Rattle.num.specs.declared.Order.{Order}
use Rattle.num.specs.declared.Order.TheVariants.{Big, Little}
use Rattle.frame.specs.Place.{gap}
use Rattle.frame.specs.Ahead.{ahead_of}
use Rattle.frame.specs.declared.Ahead.{Ahead}
use Rattle.frame.specs.declared.Ahead.TheVariants.{End, Stretch, Cut, Chunk}
use Rattle.frame.proofs.Looks.{is-chunk}
use Rattle.frame.proofs.Frames.{gap-le}
use Rattle.body.specs.Kind.{kind_of}
use Rattle.body.specs.Samples.{data_of}
use Rattle.body.specs.Table.{Row, sets, marks, leaves, samples, unknown, row}
use Rattle.body.specs.Verdict.{seen, verdict_by, verdict}
use Rattle.body.specs.declared.sampled.Data.{Data}
use Rattle.body.specs.declared.sampled.Shape.{Shape}
use Rattle.body.specs.declared.sampled.Shape.TheVariants.{ShortPairs, ShortReals, ShortGroup, FloatPairs, FloatReals, FloatGroup}
use Rattle.body.specs.declared.groups.GroupPacking.{GroupPacking}
use Rattle.body.specs.declared.kinds.Kind.{Kind}
use Rattle.body.proofs.FaultNumbers.{verdict-number}
use Rattle.cover.specs.Cover.{group_covers}
use Rattle.state.specs.declared.Values.{Values}
use Rattle.state.specs.declared.State.{State}
use Rattle.effect.specs.Says.{Says, ok, bad, waits, ready, judged, says_number}
use Rattle.effect.specs.Ready.{data_says, covering, says_of}
use Rattle.effect.specs.Effect.{effect_by, effect}
use Rattle.reader.specs.Step.{before, step_by, step_of, Fit}
use Rattle.reader.specs.declared.Cursor.{Cursor}
use Rattle.reader.proofs.Laws.{step-ahead, chunk-ends}
use Rattle.listing.specs.Lines.{verdict_word, first_line, last_line, order_head, answer_line}
use Rattle.listing.proofs.Shown.{decimal-length, count-length, stretch-length, chunk-length}
use Rattle.lister.specs.Listed.{longest_line, longest_first, longest_last}

-- ---- the number of what is said of a chunk has at most two digits

-- a number of at most two digits, or none
abbrev Few : Says → Type 0
Few says = says_number says < 100

-- an answer that is refused with such a number or not at all
abbrev FewOf : {A : Type 0} → Answer A → Type 0
FewOf a = (n : ℕ) → seen a ≡ refuses n → n < 100

judged-few : {A : Type 0} (a : Answer A) → FewOf a → Few (judged a)
judged-few (gives x) h = omega arith
judged-few (refuses n) h = h n refl

data-few : (a : Answer Data) (p r t : Bool) → FewOf a → Few (data_says a p r t)
data-few (refuses n) p r t h = h n refl
data-few (gives d) true true true h = omega arith
data-few (gives d) true true false h = omega arith
data-few (gives d) true false t h = omega arith
data-few (gives d) false r t h = omega arith

cover-few : (c : Bool) (d : Data) → Few (pick c (ready d) (bad 16))
cover-few true d = omega arith
cover-few false d = omega arith

covering-few : (g : GroupPacking) (says : Says) → Few says → Few (covering g says)
covering-few g ok h = h
covering-few g Says.unknown h = h
covering-few g (bad n) h = h
covering-few g (waits n t) h = h
covering-few g (ready d) h = cover-few (group_covers d.samples g.n g.increment g.offsets) d

group-few : (g : GroupPacking) (a : Answer Data) (p r t : Bool) → FewOf a → Few (covering g (data_says a p r t))
group-few g a p r t h = covering-few g (data_says a p r t) (data-few a p r t h)

shape-few : (shape : Shape) (a : Answer Data) (v : Values) → FewOf a → Few (says_of shape a v)
shape-few ShortPairs a v h = data-few a v.packing.present v.rate.present true h
shape-few ShortReals a v h = data-few a true v.rate.present true h
shape-few ShortGroup a v h = group-few v.group a (ltb 0 v.group.n) v.rate.present true h
shape-few FloatPairs a v h = data-few a v.packing.present v.rate.present v.float_scale.present h
shape-few FloatReals a v h = data-few a true v.rate.present v.float_scale.present h
shape-few FloatGroup a v h = group-few v.group a (ltb 0 v.group.n) v.rate.present v.float_scale.present h

module _ (o : Order) (b : List ℕ) (s : State) where
  row-few : (r : Row) → ((n : ℕ) → verdict_by r o b ≡ refuses n → n < 100) → Few (effect_by r o b s).says
  row-few (sets x hold read) h = judged-few (read o b) h
  row-few (marks read) h = judged-few (read o b) h
  row-few (leaves read) h = judged-few (read o b) h
  row-few (samples shape) h = shape-few shape (data_of shape o b) s.values h
  row-few unknown h = omega arith

  effect-few : (k : Kind) → Few (effect o k b s).says
  unfolding effect verdict
  effect-few k = row-few (row k) (λ n e. let v = verdict-number o k b n e in omega (arith, v.1))

-- so its word has at most eight bytes, with the space before it
word-short : (says : Says) → Few says → length (verdict_word says) ≤ 8
word-short ok h = omega arith
word-short Says.unknown h = omega arith
word-short (bad n) h = let d = decimal-length 1 n h in omega arith
word-short (waits n t) h = let d = decimal-length 1 n h in omega arith
word-short (ready d) h = omega arith

-- ---- the lines

head-length : (o : Order) → length (order_head o) ≤ 11
head-length Big = omega arith
head-length Little = omega arith

pub first-length : (o : Order) (n : ℕ) → n < 100000 → length (first_line o n) ≤ longest_first
first-length o n h = omega (arith, head-length o, count-length 4 (order_head o) n h)

pub last-length : (n : ℕ) → n < 100000 → length (last_line n) ≤ longest_last
last-length n h = omega (arith, count-length 4 (0x65 ∷ 0x6E ∷ 0x64 ∷ []) n h)

module _ (o : Order) (s : List ℕ) (c : Cursor) (m : length s < 100000) (h : c.place ≤ length s) where
  line-by : (a : Ahead) → ahead_of o (drop c.place s) ≡ a → length (answer_line (step_by o (drop c.place s) c a).item) ≤ longest_line
  line-by End e = omega arith
  line-by (Chunk code size) e =
      let k = chunk-ends o s c.place code size (is-chunk o (drop c.place s) code size e) in
      let v = (effect o (kind_of code) (take size (drop 12 (drop c.place s))) (before c.in_step c.state)).says in
      let w = effect-few o (take size (drop 12 (drop c.place s))) (before c.in_step c.state) (kind_of code) in
      chunk-length 4 c.place code size v (omega arith) (omega arith) (word-short v w)
  line-by Cut e =
      let n = length-drop c.place s in
      omega (arith, stretch-length 4 (0x63 ∷ 0x75 ∷ 0x74 ∷ []) c.place (length (drop c.place s)) (omega arith) (omega arith))
  line-by (Stretch stray) e =
      let g = gap-le o (drop c.place s) in
      let n = length-drop c.place s in
      omega (arith, stretch-length 4 (0x73 ∷ 0x6B ∷ 0x69 ∷ 0x70 ∷ []) c.place (gap o (drop c.place s)) (omega arith) (omega arith))

  pub line-length : Fit c → length (answer_line (step_of o s c).item) ≤ longest_line
  line-length f = rw (step-ahead o s c h f) (line-by (ahead_of o (drop c.place s)) refl)
