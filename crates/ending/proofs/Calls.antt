-- Calls that met their promise, and what each promise says of them in the words of the rules.
use Prim.Native.Nat.{ℕ}
use mathlib.Core.Path.{◌≡◌}
use mathlib.Core.Bool.{Bool, true, false}
use mathlib.Core.List.{List, [], ◌∷◌, ◌++◌}
use contract.Lifetimes.{Lfts}
use denote.Triple.Clauses.{AtExit}
use borrow.Fn.Kind.{ParamKind, ResultKind}
use borrow.Fn.Kinds.{Out, Dens, res_t, ended_of}
use lib.IntN.{ℤ}
use lib.ListN.{length, take}
use mir.Syntax.{w16, w32}
use denote.RattleType.{RattleType}
use denote.Signed.{SInt}
use borrow.Kind.MutSlice.{p_mut_s}
use borrow.Table.Referent.{rt_f, f_int}
use Rattle.num.specs.declared.Order.{Order}
use Rattle.copy.specs.Samples.{short_at, pattern_at}
use Rattle.reader.specs.Step.{new_cursor, step_of}
use Rattle.reader.specs.IsStep.{IsStep}
use Rattle.reader.specs.declared.Cursor.{Cursor}
use Rattle.reader.proofs.Cursor.new.Kinds as new
use Rattle.reader.proofs.Cursor.new.Reads as newReads
use Rattle.reader.proofs.Cursor.step.Kinds as step
use Rattle.reader.proofs.Cursor.step.Reads as stepReads
use Rattle.samples.specs.Copy.{copied_said, layout_at, count_of, samples_at, filled}
use Rattle.samples.specs.declared.Uncopied.{Uncopied}
use Rattle.std.specs.Prelude.{Result}
use Rattle.samples.proofs.shorts.shorts_at.Kinds as shorts
use Rattle.samples.proofs.shorts.shorts_at.Reads as shortsReads
use Rattle.samples.proofs.patterns.patterns_at.Kinds as patterns
use Rattle.samples.proofs.patterns.patterns_at.Reads as patternsReads

-- a call of a function: what it was given, its result, what it was given as it is at the end, and that its promise is met
pub record Call (n : ℕ) (ps : List (ParamKind n)) (r : ResultKind n) (promise : Out n ps r) : Type 0 where
  pub lifetimes : Lfts n
  pub args : Dens lifetimes ps
  pub result : (res_t r lifetimes).Denot
  pub last : AtExit (ended_of n ps r) lifetimes
  pub met : promise lifetimes args result last

-- ---- Cursor::new

abbrev pub NewCall : Type 0
NewCall = Call 0 new.ps new.r newReads.Post

pub new-met : (a : NewCall) → a.result ≡ new_cursor
new-met a = a.met

-- ---- Cursor::step

abbrev pub StepCall : Type 0
StepCall = Call 1 step.ps step.r stepReads.Post

-- a step from c, in the order o, on a slice that holds s
pub record StepOn (o : Order) (s : List ℕ) (c : Cursor) (a : StepCall) : Type 0 where
  pub self : a.args.0 ≡ c
  pub order : a.args.1.0 ≡ o
  pub slice : a.args.1.1.0.now ≡ s

pub step-met : (o : Order) (s : List ℕ) (c : Cursor) (a : StepCall) → StepOn o s c a → IsStep a.result (step_of o s c)
step-met o s c a h = rw (← h.self, ← h.order, ← h.slice) a.met

-- ---- the copying calls

-- both are given an order, a slice of bytes, a cursor, a channel and a slice to fill, whose elements are of the type E
abbrev pub copy_kinds : RattleType → List (ParamKind 2)
copy_kinds E = take 4 shorts.ps ++ (p_mut_s E 1 tt ∷ [])

-- what a copying call is given and gives, by name
pub record Copying (A : Type 0) : Type 0 where
  pub order : Order
  pub slice : List ℕ
  pub cursor : Cursor
  pub channel : ℕ
  pub out : List A
  pub result : Result ℕ Uncopied
  pub left : List A

abbrev pub named : (E : RattleType) (promise : Out 2 (copy_kinds E) shorts.r) → Call 2 (copy_kinds E) shorts.r promise → Copying E.Denot
named E promise a = record {
  order = a.args.0;
  slice = a.args.1.0.now;
  cursor = a.args.1.1.0;
  channel = a.args.1.1.1.0;
  out = a.args.1.1.1.1.0.now;
  result = a.result;
  left = a.last.1.1.1.1.0.now;
}

abbrev pub ShortsCall : Type 0
ShortsCall = Call 2 shorts.ps shorts.r shortsReads.Post

abbrev pub shorts_of : ShortsCall → Copying ℤ
shorts_of a = named (SInt w16) shortsReads.Post a

abbrev pub PatternsCall : Type 0
PatternsCall = Call 2 patterns.ps patterns.r patternsReads.Post

abbrev pub patterns_of : PatternsCall → Copying ℕ
patterns_of a = named (rt_f (f_int w32)) patternsReads.Post a

-- a copy of a width, where value gives each number by its place
pub record Copies {A : Type 0} (float : Bool) (value : Order → List ℕ → ℕ → A) (q : Copying A) : Type 0 where
  pub said : copied_said q.result ≡ count_of float q.order q.slice q.cursor q.channel (length q.out)
  pub left : q.left ≡ filled (count_of float q.order q.slice q.cursor q.channel (length q.out)) (layout_at float q.order q.slice q.cursor q.channel) (value q.order (samples_at q.order q.slice q.cursor)) q.out

pub shorts-met : (a : ShortsCall) → Copies false short_at (shorts_of a)
shorts-met a = record { said = a.met.0; left = a.met.1 }

pub patterns-met : (a : PatternsCall) → Copies true pattern_at (patterns_of a)
patterns-met a = record { said = a.met.0; left = a.met.1 }
