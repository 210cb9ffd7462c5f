-- The calls that write: the raw one and the twenty that are given values, each a call that met its promise. Every one of them does what the
-- rules say of the record that its arguments make.
use Prim.Native.Nat.{ℕ, ◌^◌, ◌<◌}
use mathlib.Core.List.{List, [], ◌++◌}
use native.Mathlib.Omega.{arith}
use borrow.Fn.Kinds.{GoodsP}
use Rattle.std.specs.Prelude.{Result}
use Rattle.num.specs.declared.Order.{Order}
use Rattle.lay.specs.Numbers.{int32, int64}
use Rattle.body.specs.Kind.{code_of}
use Rattle.body.specs.Values.{amount}
use Rattle.body.specs.declared.kinds.Kind.TheVariants as K
use Rattle.body.specs.declared.levels.Level.{Level}
use Rattle.body.specs.declared.levels.Level.TheVariants.{FullScale, TotalGain, FloatFullScale}
use Rattle.writer.specs.Data.{short_body, pattern_body}
use Rattle.writer.specs.declared.Unwritten.{Unwritten}
use Rattle.writer.proofs.write.Kinds as writeKinds
use Rattle.writer.proofs.write.Reads as writeReads
use Rattle.writer.proofs.shorts.ssnc.Kinds as ssncKinds
use Rattle.writer.proofs.shorts.ssnc.Reads as ssncReads
use Rattle.writer.proofs.shorts.ssnr.Kinds as ssnrKinds
use Rattle.writer.proofs.shorts.ssnr.Reads as ssnrReads
use Rattle.writer.proofs.shorts.gsnc.Kinds as gsncKinds
use Rattle.writer.proofs.shorts.gsnc.Reads as gsncReads
use Rattle.writer.proofs.patterns.sfnc.Kinds as sfncKinds
use Rattle.writer.proofs.patterns.sfnc.Reads as sfncReads
use Rattle.writer.proofs.patterns.sfnr.Kinds as sfnrKinds
use Rattle.writer.proofs.patterns.sfnr.Reads as sfnrReads
use Rattle.writer.proofs.patterns.gfnc.Kinds as gfncKinds
use Rattle.writer.proofs.patterns.gfnc.Reads as gfncReads
use Rattle.typed.specs.Bodies.{float32}
use Rattle.typed.specs.Groups.{packing_body, hertz_body, gains_body}
use Rattle.typed.specs.Levels.{level_code}
use Rattle.typed.specs.Texts.{text_body}
use Rattle.typed.proofs.number.siqp.Kinds as siqpKinds
use Rattle.typed.proofs.number.siqp.Reads as siqpReads
use Rattle.typed.proofs.number.sr.Kinds as srKinds
use Rattle.typed.proofs.number.sr.Reads as srReads
use Rattle.typed.proofs.number.bw.Kinds as bwKinds
use Rattle.typed.proofs.number.bw.Reads as bwReads
use Rattle.typed.proofs.number.gcbw.Kinds as gcbwKinds
use Rattle.typed.proofs.number.gcbw.Reads as gcbwReads
use Rattle.typed.proofs.number.cf.Kinds as cfKinds
use Rattle.typed.proofs.number.cf.Reads as cfReads
use Rattle.typed.proofs.number.sofh.Kinds as sofhKinds
use Rattle.typed.proofs.number.sofh.Reads as sofhReads
use Rattle.typed.proofs.band.bwof.Kinds as bwofKinds
use Rattle.typed.proofs.band.bwof.Reads as bwofReads
use Rattle.typed.proofs.levels.level.Kinds as levelKinds
use Rattle.typed.proofs.levels.level.Reads as levelReads
use Rattle.typed.proofs.empty.eofh.Kinds as eofhKinds
use Rattle.typed.proofs.empty.eofh.Reads as eofhReads
use Rattle.typed.proofs.empty.iqdc.Kinds as iqdcKinds
use Rattle.typed.proofs.empty.iqdc.Reads as iqdcReads
use Rattle.typed.proofs.group.giqp.Kinds as giqpKinds
use Rattle.typed.proofs.group.giqp.Reads as giqpReads
use Rattle.typed.proofs.group.gcf.Kinds as gcfKinds
use Rattle.typed.proofs.group.gcf.Reads as gcfReads
use Rattle.typed.proofs.group.grg.Kinds as grgKinds
use Rattle.typed.proofs.group.grg.Reads as grgReads
use Rattle.typed.proofs.plain.text.Kinds as textKinds
use Rattle.typed.proofs.plain.text.Reads as textReads
use Rattle.ending.proofs.Calls.{Call}
use Rattle.accepted.specs.Writing.{Writing, Writes}

-- a call of `writer::write`, which is given a type and a body
abbrev pub RawCall : Type 0
RawCall = Call 2 writeKinds.ps writeKinds.r writeReads.Post

-- a raw call, or one of the calls that make a record of a kind from values
pub data WriteCall : Type 0 where
  -- the raw call, whose arguments are values of their types, as those of every call are
  raw : (a : RawCall) → GoodsP a.lifetimes writeKinds.ps a.args → WriteCall
  siqp : Call 1 siqpKinds.ps siqpKinds.r siqpReads.Post → WriteCall
  sr : Call 1 srKinds.ps srKinds.r srReads.Post → WriteCall
  bw : Call 1 bwKinds.ps bwKinds.r bwReads.Post → WriteCall
  gcbw : Call 1 gcbwKinds.ps gcbwKinds.r gcbwReads.Post → WriteCall
  bwof : Call 1 bwofKinds.ps bwofKinds.r bwofReads.Post → WriteCall
  cf : Call 1 cfKinds.ps cfKinds.r cfReads.Post → WriteCall
  level : Call 1 levelKinds.ps levelKinds.r levelReads.Post → WriteCall
  giqp : Call 1 giqpKinds.ps giqpKinds.r giqpReads.Post → WriteCall
  gcf : Call 1 gcfKinds.ps gcfKinds.r gcfReads.Post → WriteCall
  grg : Call 1 grgKinds.ps grgKinds.r grgReads.Post → WriteCall
  sofh : Call 1 sofhKinds.ps sofhKinds.r sofhReads.Post → WriteCall
  eofh : Call 1 eofhKinds.ps eofhKinds.r eofhReads.Post → WriteCall
  iqdc : Call 1 iqdcKinds.ps iqdcKinds.r iqdcReads.Post → WriteCall
  text : Call 2 textKinds.ps textKinds.r textReads.Post → WriteCall
  ssnc : Call 2 ssncKinds.ps ssncKinds.r ssncReads.Post → WriteCall
  ssnr : Call 2 ssnrKinds.ps ssnrKinds.r ssnrReads.Post → WriteCall
  gsnc : Call 2 gsncKinds.ps gsncKinds.r gsncReads.Post → WriteCall
  sfnc : Call 2 sfncKinds.ps sfncKinds.r sfncReads.Post → WriteCall
  sfnr : Call 2 sfnrKinds.ps sfnrKinds.r sfnrReads.Post → WriteCall
  gfnc : Call 2 gfncKinds.ps gfncKinds.r gfncReads.Post → WriteCall

-- what a call was given and gave, its record by type and body
abbrev writing : Order → ℕ → List ℕ → List ℕ → ℕ → Result ℕ Unwritten → List ℕ → Writing
writing o code body d place a l = record { order = o; wrote = record { code = code; body = body }; out = d; place = place; result = a; left = l }

-- the order first, then the type and the body that the arguments make, the slice, the place, the answer, and the slice at the end
abbrev pub doing : WriteCall → Writing
doing (raw a real) = writing a.args.0 a.args.1.0 a.args.1.1.0.now a.args.1.1.1.0.now a.args.1.1.1.1.0 a.result a.last.1.1.1.0.now
doing (siqp a) = writing a.args.0 (code_of K.SIQP) (int32 a.args.0 a.args.1.0) a.args.1.1.0.now a.args.1.1.1.0 a.result a.last.1.1.0.now
doing (sr a) = writing a.args.0 (code_of K.SR) (int64 a.args.0 a.args.1.0) a.args.1.1.0.now a.args.1.1.1.0 a.result a.last.1.1.0.now
doing (bw a) = writing a.args.0 (code_of K.BW) (int64 a.args.0 a.args.1.0) a.args.1.1.0.now a.args.1.1.1.0 a.result a.last.1.1.0.now
doing (gcbw a) = writing a.args.0 (code_of K.GCBW) (int64 a.args.0 a.args.1.0) a.args.1.1.0.now a.args.1.1.1.0 a.result a.last.1.1.0.now
doing (bwof a) = writing a.args.0 (code_of K.BWOF) (int64 a.args.0 a.args.1.0 ++ int64 a.args.0 a.args.1.1.0) a.args.1.1.1.0.now a.args.1.1.1.1.0 a.result a.last.1.1.1.0.now
doing (cf a) = writing a.args.0 (code_of K.CF) (int64 a.args.0 a.args.1.0) a.args.1.1.0.now a.args.1.1.1.0 a.result a.last.1.1.0.now
doing (level a) = writing a.args.0 (level_code a.args.1.0) (float32 a.args.0 (amount a.args.1.0)) a.args.1.1.0.now a.args.1.1.1.0 a.result a.last.1.1.0.now
doing (giqp a) = writing a.args.0 (code_of K.GIQP) (packing_body a.args.0 a.args.1.0) a.args.1.1.0.now a.args.1.1.1.0 a.result a.last.1.1.0.now
doing (gcf a) = writing a.args.0 (code_of K.GCF) (hertz_body a.args.0 a.args.1.0) a.args.1.1.0.now a.args.1.1.1.0 a.result a.last.1.1.0.now
doing (grg a) = writing a.args.0 (code_of K.GRG) (gains_body a.args.0 a.args.1.0) a.args.1.1.0.now a.args.1.1.1.0 a.result a.last.1.1.0.now
doing (sofh a) = writing a.args.0 (code_of K.SOFH) (int32 a.args.0 a.args.1.0) a.args.1.1.0.now a.args.1.1.1.0 a.result a.last.1.1.0.now
doing (eofh a) = writing a.args.0 (code_of K.EOFH) [] a.args.1.0.now a.args.1.1.0 a.result a.last.1.0.now
doing (iqdc a) = writing a.args.0 (code_of K.IQDC) [] a.args.1.0.now a.args.1.1.0 a.result a.last.1.0.now
doing (text a) = writing a.args.0 (code_of K.TEXT) (text_body a.args.0 a.args.1.0.now) a.args.1.1.0.now a.args.1.1.1.0 a.result a.last.1.1.0.now
doing (ssnc a) = writing a.args.0 (code_of K.SSNC) (short_body a.args.0 a.args.1.0 a.args.1.1.0.now) a.args.1.1.1.0.now a.args.1.1.1.1.0 a.result a.last.1.1.1.0.now
doing (ssnr a) = writing a.args.0 (code_of K.SSNR) (short_body a.args.0 a.args.1.0 a.args.1.1.0.now) a.args.1.1.1.0.now a.args.1.1.1.1.0 a.result a.last.1.1.1.0.now
doing (gsnc a) = writing a.args.0 (code_of K.GSNC) (short_body a.args.0 a.args.1.0 a.args.1.1.0.now) a.args.1.1.1.0.now a.args.1.1.1.1.0 a.result a.last.1.1.1.0.now
doing (sfnc a) = writing a.args.0 (code_of K.SFNC) (pattern_body a.args.0 a.args.1.0 a.args.1.1.0.now) a.args.1.1.1.0.now a.args.1.1.1.1.0 a.result a.last.1.1.1.0.now
doing (sfnr a) = writing a.args.0 (code_of K.SFNR) (pattern_body a.args.0 a.args.1.0 a.args.1.1.0.now) a.args.1.1.1.0.now a.args.1.1.1.1.0 a.result a.last.1.1.1.0.now
doing (gfnc a) = writing a.args.0 (code_of K.GFNC) (pattern_body a.args.0 a.args.1.0 a.args.1.1.0.now) a.args.1.1.1.0.now a.args.1.1.1.1.0 a.result a.last.1.1.1.0.now

level-typed : (l : Level) → level_code l < 2 ^ 32
level-typed (FullScale x) = omega arith
level-typed (TotalGain x) = omega arith
level-typed (FloatFullScale x) = omega arith

-- Each call does what the rules say: its promise says so, and its type is a number of 32 bits.
pub does : (w : WriteCall) → Writes (doing w)
does (raw a real) = record { said = a.met.0; left = a.met.1; typed = real.1.0.1 }
does (siqp a) = record { said = a.met.0; left = a.met.1; typed = omega arith }
does (sr a) = record { said = a.met.0; left = a.met.1; typed = omega arith }
does (bw a) = record { said = a.met.0; left = a.met.1; typed = omega arith }
does (gcbw a) = record { said = a.met.0; left = a.met.1; typed = omega arith }
does (bwof a) = record { said = a.met.0; left = a.met.1; typed = omega arith }
does (cf a) = record { said = a.met.0; left = a.met.1; typed = omega arith }
does (level a) = record { said = a.met.0; left = a.met.1; typed = level-typed a.args.1.0 }
does (giqp a) = record { said = a.met.0; left = a.met.1; typed = omega arith }
does (gcf a) = record { said = a.met.0; left = a.met.1; typed = omega arith }
does (grg a) = record { said = a.met.0; left = a.met.1; typed = omega arith }
does (sofh a) = record { said = a.met.0; left = a.met.1; typed = omega arith }
does (eofh a) = record { said = a.met.0; left = a.met.1; typed = omega arith }
does (iqdc a) = record { said = a.met.0; left = a.met.1; typed = omega arith }
does (text a) = record { said = a.met.0; left = a.met.1; typed = omega arith }
does (ssnc a) = record { said = a.met.0; left = a.met.1; typed = omega arith }
does (ssnr a) = record { said = a.met.0; left = a.met.1; typed = omega arith }
does (gsnc a) = record { said = a.met.0; left = a.met.1; typed = omega arith }
does (sfnc a) = record { said = a.met.0; left = a.met.1; typed = omega arith }
does (sfnr a) = record { said = a.met.0; left = a.met.1; typed = omega arith }
does (gfnc a) = record { said = a.met.0; left = a.met.1; typed = omega arith }
