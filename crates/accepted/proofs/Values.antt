-- The values that a call was given come back: the body of the chunk that a step gives, over the bytes that calls wrote, is read as the values
-- that its call wrote.
use Prim.Native.Nat.{ℕ, ◌<◌}
use mathlib.Core.Path.{◌≡◌, refl, ap, sym, ◌∙◌}
use mathlib.Core.List.{List}
use lib.ListN.{length}
use Rattle.num.specs.Answer.{gives}
use Rattle.num.specs.declared.Order.{Order}
use Rattle.body.specs.Kind.{code_of}
use Rattle.body.specs.declared.kinds.Kind.{Kind}
use Rattle.body.specs.declared.kinds.Kind.TheVariants as K
use Rattle.body.specs.declared.levels.Level.{Level}
use Rattle.body.specs.declared.levels.Level.TheVariants.{FullScale, TotalGain, FloatFullScale}
use Rattle.body.specs.Values.{amount}
use Rattle.reader.specs.Item.{item_said}
use Rattle.reader.specs.Part.{body_in}
use Rattle.typed.specs.Bodies.{float32}
use Rattle.typed.specs.Levels.{level_code}
use Rattle.writer.specs.Records.{Record}
use Rattle.writer.specs.Write.{may_write, written_said}
use Rattle.writer.proofs.Laws.{next-given}
use Rattle.values.specs.Made.{Made, Fitting, body_of}
use Rattle.values.specs.Back.{Back}
use Rattle.values.proofs.Back.{values-back}
use Rattle.ending.proofs.Calls.{NewCall, StepCall}
use Rattle.ending.proofs.Runs.{Run}
use Rattle.accepted.specs.Writing.{Accepted, InTurn, bytes_written}
use Rattle.accepted.proofs.Calls.{WriteCall, raw, siqp, sr, bw, gcbw, bwof, cf, level, giqp, gcf, grg, sofh, eofh, iqdc, text, ssnc, ssnr, gsnc, sfnc, sfnr, gfnc, doing, does}
use Rattle.accepted.proofs.Promised.{doings, calls-read}

-- the record that values of a kind make
abbrev pub record_of : (k : Kind) → Order → Made k → Record
record_of k o v = record { code = code_of k; body = body_of k o v }

-- a record is made of values of a kind
pub record MadeOf (o : Order) (r : Record) : Type 0 where
  pub kind : Kind
  pub values : Made kind
  pub made : r ≡ record_of kind o values

-- the call is given values, not a type and a body
abbrev pub FromValues : WriteCall → Type 0
FromValues (raw a real) = ⊥
FromValues (siqp a) = Unit {0}
FromValues (sr a) = Unit {0}
FromValues (bw a) = Unit {0}
FromValues (gcbw a) = Unit {0}
FromValues (bwof a) = Unit {0}
FromValues (cf a) = Unit {0}
FromValues (level a) = Unit {0}
FromValues (giqp a) = Unit {0}
FromValues (gcf a) = Unit {0}
FromValues (grg a) = Unit {0}
FromValues (sofh a) = Unit {0}
FromValues (eofh a) = Unit {0}
FromValues (iqdc a) = Unit {0}
FromValues (text a) = Unit {0}
FromValues (ssnc a) = Unit {0}
FromValues (ssnr a) = Unit {0}
FromValues (gsnc a) = Unit {0}
FromValues (sfnc a) = Unit {0}
FromValues (sfnr a) = Unit {0}
FromValues (gfnc a) = Unit {0}

level-made : (o : Order) (l : Level) → MadeOf o (record { code = level_code l; body = float32 o (amount l) })
level-made o (FullScale x) = record { kind = K.DBFS; values = x; made = refl }
level-made o (TotalGain x) = record { kind = K.DBTG; values = x; made = refl }
level-made o (FloatFullScale x) = record { kind = K.FFS; values = x; made = refl }

-- Each such call writes the record that its values make.
pub made-of : (w : WriteCall) → FromValues w → MadeOf (doing w).order (doing w).wrote
made-of (raw a real) h = absurd h
made-of (siqp a) h = record { kind = K.SIQP; values = a.args.1.0; made = refl }
made-of (sr a) h = record { kind = K.SR; values = a.args.1.0; made = refl }
made-of (bw a) h = record { kind = K.BW; values = a.args.1.0; made = refl }
made-of (gcbw a) h = record { kind = K.GCBW; values = a.args.1.0; made = refl }
made-of (bwof a) h = record { kind = K.BWOF; values = record { width = a.args.1.0; offset = a.args.1.1.0 }; made = refl }
made-of (cf a) h = record { kind = K.CF; values = a.args.1.0; made = refl }
made-of (level a) h = level-made a.args.0 a.args.1.0
made-of (giqp a) h = record { kind = K.GIQP; values = a.args.1.0; made = refl }
made-of (gcf a) h = record { kind = K.GCF; values = a.args.1.0; made = refl }
made-of (grg a) h = record { kind = K.GRG; values = a.args.1.0; made = refl }
made-of (sofh a) h = record { kind = K.SOFH; values = a.args.1.0; made = refl }
made-of (eofh a) h = record { kind = K.EOFH; values = tt; made = refl }
made-of (iqdc a) h = record { kind = K.IQDC; values = tt; made = refl }
made-of (text a) h = record { kind = K.TEXT; values = a.args.1.0.now; made = refl }
made-of (ssnc a) h = record { kind = K.SSNC; values = record { time = a.args.1.0; numbers = a.args.1.1.0.now }; made = refl }
made-of (ssnr a) h = record { kind = K.SSNR; values = record { time = a.args.1.0; numbers = a.args.1.1.0.now }; made = refl }
made-of (gsnc a) h = record { kind = K.GSNC; values = record { time = a.args.1.0; numbers = a.args.1.1.0.now }; made = refl }
made-of (sfnc a) h = record { kind = K.SFNC; values = record { time = a.args.1.0; numbers = a.args.1.1.0.now }; made = refl }
made-of (sfnr a) h = record { kind = K.SFNR; values = record { time = a.args.1.0; numbers = a.args.1.1.0.now }; made = refl }
made-of (gfnc a) h = record { kind = K.GFNC; values = record { time = a.args.1.0; numbers = a.args.1.1.0.now }; made = refl }

-- a body that is that of an accepted record of values is read back as the values
back-by : (o p : Order) (r : Record) (k : Kind) (v : Made k) (body : List ℕ) → p ≡ o → r ≡ record_of k p v → body ≡ r.body → Fitting k v → may_write p r.code r.body ≡ gives tt → Back k o body v
back-by o p r k v body e q b f g = rw (b, q, e) (values-back o k v f (rw (q, e) at g))

-- n calls in turn, from place 0 of a slice that holds d on, all answered Ok; and m steps from a new cursor over the bytes that they wrote
module _ (o : Order) (d : List ℕ) (n : ℕ) (writes : ℕ → WriteCall) (t : InTurn n o d 0 (doings writes)) (a : (k : ℕ) → k < n → Accepted (doing (writes k)))
    (start : NewCall) (m : ℕ) (calls : ℕ → StepCall) (r : Run m o (bytes_written n d (doings writes)) start.result calls) where
  -- The body of the chunk that step k gives is read back as the values that call k was given: what reading its kind gives, the bytes of a text,
  -- the time and the numbers of samples.
  pub calls-values : (k : ℕ) → k < n → k < m → (h : FromValues (writes k)) → let v : MadeOf (doing (writes k)).order (doing (writes k)).wrote = made-of (writes k) h in
      Fitting v.kind v.values → Back v.kind o (body_in (bytes_written n d (doings writes)) (item_said (calls k).result.item)) v.values
  calls-values k i j h f =
      let w = doing (writes k) in
      let v = made-of (writes k) h in
      let q = does (writes k) in
      let e = a k i in
      let g = next-given w.order w.wrote.code w.wrote.body (length w.out) w.place e.0 (sym q.said ∙ ap written_said e.1) in
      let b = (calls-read o d n writes t a start m calls r k i j).body in
      back-by o w.order w.wrote v.kind v.values _ (t k i).order v.made b f g.0
