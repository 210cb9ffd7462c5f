-- A run of calls that write is a run of the rules: what it leaves, where it ends, and which of its calls are accepted.
use Prim.Native.Nat.{ℕ, zero, suc, ◌<◌}
use mathlib.Core.Path.{◌≡◌, refl, ap, sym, ◌∙◌}
use mathlib.Core.List.{List, [], ◌∷◌}
use native.Mathlib.Omega.{arith}
use lib.ListN.{length}
use Rattle.std.specs.Prelude.{Ok}
use Rattle.num.specs.Answer.{Answer, gives, reply_with}
use Rattle.num.specs.declared.Order.{Order}
use Rattle.lay.specs.Splice.{splice}
use Rattle.frame.specs.Frames.{chunk_bytes}
use Rattle.writer.specs.Write.{write_of, written_out, written_said}
use Rattle.writer.specs.Records.{Record, Each, Typed, write_all}
use Rattle.writer.proofs.Theorems.{written-told}
use Rattle.accepted.specs.Writing.{Writing, Writes, Accepted, place_at, held_at, WriteOn, WriteRun}
use Rattle.accepted.proofs.Accepted.{first-next}

-- the first n of some records, by their number
unfoldable pub first_of : ℕ → (ℕ → Record) → List Record
first_of zero rs = []
first_of (suc n) rs = rs 0 ∷ first_of n (λ k. rs (suc k))

-- the records of n calls
abbrev pub records_to : ℕ → (ℕ → Writing) → List Record
records_to n calls = first_of n (λ k. (calls k).wrote)

-- the calls after the first
abbrev pub rest : (ℕ → Writing) → ℕ → Writing
rest calls k = calls (suc k)

place-rest : (p : ℕ) (calls : ℕ → Writing) (n : ℕ) → place_at (place_at p calls 1) (rest calls) n ≡ place_at p calls (suc n)
place-rest p calls zero = refl
place-rest p calls (suc n) = refl

held-rest : (d : List ℕ) (calls : ℕ → Writing) (n : ℕ) → held_at (calls 0).left (rest calls) n ≡ held_at d calls (suc n)
held-rest d calls zero = refl
held-rest d calls (suc n) = refl

turns-rest : (o : Order) (d : List ℕ) (p : ℕ) (calls : ℕ → Writing) (k : ℕ) → WriteOn o (held_at d calls (suc k)) (place_at p calls (suc k)) (calls (suc k)) →
    WriteOn o (held_at (calls 0).left (rest calls) k) (place_at (place_at p calls 1) (rest calls) k) (rest calls k)
turns-rest o d p calls k h = rw (held-rest d calls k, place-rest p calls k) h

pub run-rest : (n : ℕ) (o : Order) (d : List ℕ) (p : ℕ) (calls : ℕ → Writing) → WriteRun (suc n) o d p calls → WriteRun n o (calls 0).left (place_at p calls 1) (rest calls)
run-rest n o d p calls r = record { writes = λ k h. r.writes (suc k) (omega arith); turns = λ k h. turns-rest o d p calls k (r.turns (suc k) (omega arith)) }

-- a call at a place, in the words of the rules
met : (o : Order) (d : List ℕ) (p : ℕ) (w : Writing) → Writes w → WriteOn o d p w →
    (written_said w.result ≡ write_of o w.wrote.code w.wrote.body (length d) p) × (w.left ≡ written_out o w.wrote.code w.wrote.body d p)
met o d p w h t = rw (← t.order, ← t.out, ← t.place) (h.said, h.left)

-- the types of a run's records are numbers of 32 bits
pub all-typed : (n : ℕ) (o : Order) (d : List ℕ) (p : ℕ) (calls : ℕ → Writing) → WriteRun n o d p calls → Each Typed (records_to n calls)
unfolding first_of
all-typed zero o d p calls r = tt
all-typed (suc n) o d p calls r = ((r.writes 0 (omega arith)).typed, all-typed n o (calls 0).left (place_at p calls 1) (rest calls) (run-rest n o d p calls r))

-- where all calls are accepted, they leave what the rules say, and end where the rules say
pub all-written : (n : ℕ) (o : Order) (d : List ℕ) (p : ℕ) (calls : ℕ → Writing) → WriteRun n o d p calls → ((k : ℕ) → k < n → Accepted (calls k)) →
    write_all o (records_to n calls) d p ≡ record { slice = held_at d calls n; place = gives (place_at p calls n) }
unfolding first_of write_all
all-written zero o d p calls r a = refl
all-written (suc n) o d p calls r a =
    let w = calls 0 in
    let m = met o d p w (r.writes 0 (omega arith)) (r.turns 0 (omega arith)) in
    let next = (a 0 (omega arith)).0 in
    let s : written_said w.result ≡ gives next = ap written_said (a 0 (omega arith)).1 in
    let q : write_of o w.wrote.code w.wrote.body (length d) p ≡ gives next = sym m.0 ∙ s in
    let l : splice d p (chunk_bytes o w.wrote.code w.wrote.body) ≡ w.left = sym (rw q at m.1) in
    let j : place_at p calls 1 ≡ next = ap (λ (x : Answer ℕ). (reply_with w.place x).value) s in
    let i = all-written n o w.left (place_at p calls 1) (rest calls) (run-rest n o d p calls r) (λ k h. a (suc k) (omega arith)) in
    rw (q, l, ← j) (i ∙ rw (held-rest d calls n, place-rest p calls n))

-- ---- which calls are accepted

-- the first call, and then the others
accepted-cons : (n : ℕ) (calls : ℕ → Writing) → Accepted (calls 0) → ((k : ℕ) → k < n → Accepted (calls (suc k))) → (k : ℕ) → k < suc n → Accepted (calls k)
accepted-cons n calls a go zero h = a
accepted-cons n calls a go (suc k) h = go k (omega arith)

-- where the rules accept all records of a run, each of its calls is accepted
pub all-accepted : (n : ℕ) (o : Order) (d : List ℕ) (p : ℕ) (calls : ℕ → Writing) (m : ℕ) → WriteRun n o d p calls → (write_all o (records_to n calls) d p).place ≡ gives m →
    (k : ℕ) → k < n → Accepted (calls k)
unfolding first_of
all-accepted zero o d p calls m r e k h = absurd (omega arith)
all-accepted (suc n) o d p calls m r e k h =
    let w = calls 0 in
    let q = met o d p w (r.writes 0 (omega arith)) (r.turns 0 (omega arith)) in
    let b = first-next o w.wrote (records_to n (rest calls)) d p m e in
    let s : written_said w.result ≡ gives b.0 = q.0 ∙ b.1 in
    let l : w.left ≡ splice d p (chunk_bytes o w.wrote.code w.wrote.body) = rw b.1 at q.1 in
    let j : place_at p calls 1 ≡ b.0 = ap (λ (x : Answer ℕ). (reply_with w.place x).value) s in
    let go = all-accepted n o w.left (place_at p calls 1) (rest calls) m (run-rest n o d p calls r) (rw (j, l) b.2) in
    accepted-cons n calls (b.0, written-told w.result (Ok b.0) s) go k h
