-- A chunk that is asked for its data lies as the rule says of the chunk that takes effect.
use Prim.Native.Nat.{ℕ}
use mathlib.Core.Path.{◌≡◌, refl, sym, ap}
use mathlib.Core.Bool.{Bool, true, false}
use mathlib.Core.List.{List}
use native.Mathlib.Omega.{arith}
use Rattle.num.specs.Answer.{Answer, gives, refuses}
use Rattle.num.specs.declared.Order.{Order}
use Rattle.body.specs.Kind.{kind_of}
use Rattle.body.specs.Samples.{data_of}
use Rattle.body.specs.Table.{Row, sets, marks, leaves, samples, row, shaped}
use Rattle.body.specs.Table as Table
use Rattle.body.specs.declared.sampled.Data.{Data}
use Rattle.body.specs.declared.sampled.Shape.{Shape}
use Rattle.body.specs.declared.sampled.Shape.TheVariants.{ShortPairs, ShortReals, ShortGroup, FloatPairs, FloatReals, FloatGroup}
use Rattle.std.specs.Prelude.{Option, Some, None}
use Rattle.body.specs.declared.sampled.Shape.{Shape}
use Rattle.body.specs.declared.groups.GroupPacking.{GroupPacking}
use Rattle.body.specs.declared.kinds.Kind.{Kind}
use Rattle.effect.specs.Says.{Says, ok, unknown, bad, waits, ready}
use Rattle.effect.specs.Ready.{data_says, covering, says_of, ready_data}
use Rattle.effect.specs.Effect.{effect_by, effect}
use Rattle.effect.proofs.Laws.{not-data}
use Rattle.state.specs.State.{emptied}
use Rattle.state.specs.declared.State.{State}
use Rattle.samples.specs.Layout.{layout}
use Rattle.samples.specs.Copy.{layout_in}
use Rattle.samples.proofs.Ready.{effect-ready}

-- data that is asked for and given is what the chunk says of itself
pub data-ready : (says : Says) (d : Data) → gives d ≡ ready_data says → says ≡ ready d
data-ready ok d e = let z : ◌≡◌ {A = ℕ} 0 1 = cc in absurd (omega arith)
data-ready unknown d e = let z : ◌≡◌ {A = ℕ} 0 1 = cc in absurd (omega arith)
data-ready (bad n) d e = let z : ◌≡◌ {A = ℕ} 0 1 = cc in absurd (omega arith)
data-ready (waits n t) d e = let z : ◌≡◌ {A = ℕ} 0 1 = cc in absurd (omega arith)
data-ready (ready x) d e = let i : d ≡ x = cc in ap ready (sym i)

-- samples lie by the packing and the group alone
layout-by : (float : Bool) (shape : Option Shape) (channel : ℕ) (x y : State) (d : Data) → x.values.packing ≡ y.values.packing → x.values.group ≡ y.values.group →
    layout float shape channel x d ≡ layout float shape channel y d
layout-by float (Some ShortPairs) channel x y d p g = rw p
layout-by float (Some ShortReals) channel x y d p g = refl
layout-by float (Some ShortGroup) channel x y d p g = rw g
layout-by float (Some FloatPairs) channel x y d p g = rw p
layout-by float (Some FloatReals) channel x y d p g = refl
layout-by float (Some FloatGroup) channel x y d p g = rw g
layout-by float None channel x y d p g = refl

-- data that is given to copy lies as the state says that the chunk came to
pub given-lies : (o : Order) (code : ℕ) (body : List ℕ) (s : State) (float : Bool) (channel : ℕ) (d : Data) →
    gives d ≡ ready_data (effect o (kind_of code) body s).says →
    layout float (shaped (kind_of code)) channel s d ≡ layout_in float channel (effect o (kind_of code) body s).shown (effect o (kind_of code) body s).says code
given-lies o code body s float channel d e =
    let r = data-ready (effect o (kind_of code) body s).says d e in
    let h = effect-ready o body s d (kind_of code) r in
    rw r (sym (layout-by float (shaped (kind_of code)) channel (effect o (kind_of code) body s).shown s d h.packing h.group))

-- where there is no data to copy, there is no place of it
pub none-lies : (float : Bool) (channel : ℕ) (shown : State) (says : Says) (code : ℕ) → refuses 35 ≡ ready_data says → refuses 35 ≡ layout_in float channel shown says code
none-lies float channel shown ok code e = refl
none-lies float channel shown unknown code e = refl
none-lies float channel shown (bad n) code e = refl
none-lies float channel shown (waits n t) code e = refl
none-lies float channel shown (ready d) code e = let z : ◌≡◌ {A = ℕ} 0 1 = cc in absurd (omega arith)

-- without a sample rate no data is ready
unrated : (a : Answer Data) (p t : Bool) → refuses 35 ≡ ready_data (data_says a p false t)
unrated (gives d) true t = refl
unrated (gives d) false t = refl
unrated (refuses n) p t = refl

unrated-group : (g : GroupPacking) (a : Answer Data) (p t : Bool) → refuses 35 ≡ ready_data (covering g (data_says a p false t))
unrated-group g (gives d) true t = refl
unrated-group g (gives d) false t = refl
unrated-group g (refuses n) p t = refl

unrated-shape : (shape : Shape) (a : Answer Data) → refuses 35 ≡ ready_data (says_of shape a (emptied true).values)
unrated-shape ShortPairs a = unrated a false true
unrated-shape ShortReals a = unrated a true true
unrated-shape ShortGroup a = unrated-group (emptied true).values.group a false true
unrated-shape FloatPairs a = unrated a false false
unrated-shape FloatReals a = unrated a true false
unrated-shape FloatGroup a = unrated-group (emptied true).values.group a false false

-- and a reader that is searching has none
searching-row : (o : Order) (body : List ℕ) (r : Row) → refuses 35 ≡ ready_data (effect_by r o body (emptied true)).says
searching-row o body (sets x hold read) = not-data (read o body)
searching-row o body (marks read) = not-data (read o body)
searching-row o body (leaves read) = not-data (read o body)
searching-row o body (samples shape) = unrated-shape shape (data_of shape o body)
searching-row o body Table.unknown = refl

pub searching : (o : Order) (body : List ℕ) (k : Kind) → refuses 35 ≡ ready_data (effect o k body (emptied true)).says
unfolding effect
searching o body k = searching-row o body (row k)
