-- Laws of effects.
use Prim.Native.Nat.{ℕ}
use mathlib.Core.Bool.{Bool}
use mathlib.Core.List.{List}
use native.Mathlib.Omega.{arith}
use mathlib.Core.Path.{◌≡◌, refl, ap, ◌∙◌}
use lib.IntN.{ℤ, pos}
use Rattle.num.specs.Choice.{pick}
use Rattle.num.specs.Answer.{Answer, gives, refuses}
use Rattle.num.specs.declared.Order.{Order}
use Rattle.body.specs.Check.{or_else}
use Rattle.body.specs.Table.{Slot, Value, none, Row, sets, marks, leaves, samples, unknown, row, shaped_by, shaped}
use Rattle.std.specs.Prelude.{None, Result, Ok, Err, is_ok, ◌||◌}
use Rattle.std.specs.Result.{result_unwrap_or}
use Rattle.body.specs.Fault.{read_said}
use Rattle.body.specs.declared.faults.Fault.{Fault}
use Rattle.body.specs.Values.{no_number, no_band, number, centred}
use Rattle.body.specs.declared.kinds.Kind.{Kind}
use Rattle.body.specs.declared.kinds.Kind.TheVariants.{SSNC, SSNR, SFNC, SFNR, GSNC, GFNC, SIQP, SR, BW, GCBW, BWOF, CF, DBFS, DBTG, FFS, GIQP, GCF, GRG, SOFH, EOFH, IQDC, TEXT, Unknown}
use Rattle.body.specs.declared.values.Held.{Held}
use Rattle.state.specs.State.{set_in, with_values}
use Rattle.state.specs.declared.State.{State}
use Rattle.effect.specs.Says.{Says, verdict_said, judged}
use Rattle.effect.specs.Ready.{no_state, in_group, ready_data}
use Rattle.effect.specs.Effect.{met, marked, data_effect, effect_by, effect}
use Rattle.effect.specs.IsEffect.{IsEffect}
use Rattle.effect.specs.declared.Taken.{Taken}
use Rattle.effect.specs.declared.ready.Judged.{Judged}
use Rattle.effect.specs.declared.Verdict.{Verdict}

-- an answer that shows nothing is the effect of a chunk that is no data
pub met-is-effect : {A : Type 0} {r : Taken} {v : Verdict} {next : State} (a : Answer A) (n : State) →
    (r.verdict ≡ v) × (r.shown ≡ no_state) × (r.state ≡ next) → verdict_said v ≡ judged a → next ≡ n → IsEffect r (met a n)
met-is-effect a n h e q = record { says = ap verdict_said h.0 ∙ e; shown = h.1; after = h.2 ∙ q }

-- one that puts a value into its slot is the effect of a chunk that sets it
pub set-is-effect : {A : Type 0} {r : Taken} {v : Verdict} (x : Slot) (hold : A → Value x) (a : Answer A) (s : State) {value : Value x} →
    (r.verdict ≡ v) × (r.shown ≡ no_state) × (r.state ≡ with_values s (set_in x value s.values)) → verdict_said v ≡ judged a → value ≡ or_else (none x) hold a →
    IsEffect r (met a (with_values s (set_in x (or_else (none x) hold a) s.values)))
set-is-effect x hold a s h e q = met-is-effect a _ h e (ap (λ y. with_values s (set_in x y s.values)) q)

-- what was made of a reading that is the rule's is the effect by the rule
pub read-is-effect : {A : Type 0} {r : Taken} {v : Verdict} {read rule : Answer A} {next n : State} → read ≡ rule →
    (r.verdict ≡ v) × (r.shown ≡ no_state) × (r.state ≡ next) → verdict_said v ≡ judged read → next ≡ n → IsEffect r (met rule n)
read-is-effect {rule = rule} {n = n} e h k q = met-is-effect rule n h (k ∙ ap judged e) q

-- a bandwidth that was read, with an offset of 0
centred-by : (a : Answer ℤ) {h : Held} → h ≡ or_else no_number number a → or_else no_band centred a ≡ record { present = h.present; width = h.value; offset = pos 0 }
centred-by (gives v) e = rw e
centred-by (refuses n) e = rw e

pub read-centred : {read rule : Answer ℤ} {h : Held} → read ≡ rule → h ≡ or_else no_number number read →
    or_else no_band centred rule ≡ record { present = h.present; width = h.value; offset = pos 0 }
read-centred {rule = rule} e k = centred-by rule (k ∙ ap (or_else no_number number) e)

-- an answer to what is said of a data chunk is its effect
pub data-is-effect : {r : Taken} {says : Says} {j k : Judged} (s : State) (g : Bool) → j ≡ k →
    (verdict_said k.verdict ≡ says) × (k.group ≡ g) → IsEffect r (data_effect (verdict_said j.verdict) (pick j.group (in_group s.values) s.values) s) → IsEffect r (data_effect says (pick g (in_group s.values) s.values) s)
data-is-effect s g e p h = rw (← p.0, ← p.1, ← e) h

-- the value that was read, or what stands for its absence in its place
pub read-or : {A : Type 0} (r : Result A Fault) (absent : A) → result_unwrap_or r absent ≡ or_else absent (λ x. x) (read_said r)
read-or (Ok a) absent = refl
read-or (Err f) absent = refl

pub read-held : {A : Type 0} (r : Result A Fault) {rule : Answer A} {d absent v : A} → read_said r ≡ rule → d ≡ absent → v ≡ result_unwrap_or r d →
    v ≡ or_else absent (λ x. x) rule
read-held r {absent = absent} e q h = rw (← e, ← read-or r absent, ← q) h

-- the mark is set by what is well-formed, or was set before
pub marks-or : {A : Type 0} (r : Result A Fault) (mark : Bool) → (is_ok r || mark) ≡ marked (read_said r) mark
marks-or (Ok a) mark = refl
marks-or (Err f) mark = refl

pub not-data : {A : Type 0} (a : Answer A) → refuses 35 ≡ ready_data (judged a)
not-data (gives x) = refl
not-data (refuses n) = refl

-- a chunk that is no data is not ready
no-samples : (r : Row) (o : Order) (b : List ℕ) (s : State) → shaped_by r ≡ None → refuses 35 ≡ ready_data (effect_by r o b s).says
no-samples (sets x hold read) o b s e = not-data (read o b)
no-samples (marks read) o b s e = not-data (read o b)
no-samples (leaves read) o b s e = not-data (read o b)
no-samples (samples shape) o b s e = let z : ◌≡◌ {A = ℕ} 0 1 = cc in absurd (omega arith)
no-samples unknown o b s e = refl

pub no-data : (o : Order) (k : Kind) (b : List ℕ) (s : State) → shaped k ≡ None → refuses 35 ≡ ready_data (effect o k b s).says
unfolding effect shaped
no-data o k b s e = no-samples (row k) o b s e

-- a kind that is none of the six data kinds has no samples
pub no-samples-of : (k : Kind) → (k ≡ SSNC → ⊥) → (k ≡ SSNR → ⊥) → (k ≡ SFNC → ⊥) → (k ≡ SFNR → ⊥) → (k ≡ GSNC → ⊥) → (k ≡ GFNC → ⊥) →
    shaped k ≡ None
unfolding shaped
no-samples-of SSNC a b c d e f = absurd (a refl)
no-samples-of SSNR a b c d e f = absurd (b refl)
no-samples-of SFNC a b c d e f = absurd (c refl)
no-samples-of SFNR a b c d e f = absurd (d refl)
no-samples-of GSNC a b c d e f = absurd (e refl)
no-samples-of GFNC a b c d e f = absurd (f refl)
no-samples-of SIQP a b c d e f = refl
no-samples-of SR a b c d e f = refl
no-samples-of BW a b c d e f = refl
no-samples-of GCBW a b c d e f = refl
no-samples-of BWOF a b c d e f = refl
no-samples-of CF a b c d e f = refl
no-samples-of DBFS a b c d e f = refl
no-samples-of DBTG a b c d e f = refl
no-samples-of FFS a b c d e f = refl
no-samples-of GIQP a b c d e f = refl
no-samples-of GCF a b c d e f = refl
no-samples-of GRG a b c d e f = refl
no-samples-of SOFH a b c d e f = refl
no-samples-of EOFH a b c d e f = refl
no-samples-of IQDC a b c d e f = refl
no-samples-of TEXT a b c d e f = refl
no-samples-of Unknown a b c d e f = refl
