-- What stands at place 0 is the first frame, and each test is one of the rule's: a chunk, of type SOFH, well-formed.
use Rattle.std.proofs.Common.{◌≡◌, sym, ◌∙◌, ℕ, ◌+◌, ◌-◌, Bool, true, false, List, take, drop, arith}
use Rattle.num.specs.Choice.{pick}
use Rattle.num.specs.declared.Order.{Order}
use Rattle.frame.specs.Ahead.{ahead_of}
use Rattle.frame.specs.declared.Ahead.TheVariants.{Chunk}
use Rattle.body.specs.Kind.{kind_of}
use Rattle.body.specs.Verdict.{verdict}
use Rattle.body.specs.declared.kinds.Kind.{Kind}
use Rattle.filecheck.specs.File.{refused, part_of, is_good, well_formed, begins, file_ahead, file_of}
use Rattle.filecheck.specs.declared.Part.{Part}
use Rattle.filecheck.specs.declared.Part.TheVariants.{Header}
use Rattle.filecheck.proofs.Laws.{not-chunk, not-header, file-not, file-chunk}
use Rattle.filecheck.proofs.Turns.{told, ends, well}
use Rattle.filecheck.proofs.begin.Goals as goal

module _ (o : Order) (s : List ℕ) (code size : ℕ) (e : Chunk code size ≡ ahead_of o s) (k : Kind) (i : k ≡ kind_of code) where
  -- what the rule says of the chunk at the start of the file, by its part
  said : (p : Part) → p ≡ part_of k →
      file_of o s ≡ pick (begins p (well_formed o code (take size (drop 12 s)))) (file_ahead o s 1 (12 + size) false) (refused 41 0)
  said p j = rw (j, i) (file-chunk o s code size (omega (arith, ends o s 0 code size e)) (told o s 0 code size e))

  -- a header begins the file where it is well-formed
  begun : (w b : Bool) → Header ≡ part_of k → w ≡ is_good (verdict o k (take (12 + size - 12) (drop 12 s))) → w ≡ b →
      pick b (file_ahead o s 1 (12 + size) false) (refused 41 0) ≡ file_of o s
  begun w b j h t = rw (← t, well o s 0 code size e k i w h) (sym (said Header j))

pub returns-in_default : goal.returns-in_default
returns-in_default c =
    let a = c.args in
    (sym (file-not a.order a.s.now (rw (← c.ahead_of.ensures) (not-chunk c.ahead_of.result c.in_default.not-Chunk))), tt)

pub overflow_add-to : goal.overflow_add-to
overflow_add-to c =
    let n = c.in-Chunk in
    record { fits = omega (arith, ends c.args.order c.args.s.now 0 n.code n.size n.ensures) }

pub returns-in_default-part_of : goal.returns-in_default-part_of
returns-in_default-part_of c =
    let n = c.in-Chunk in
    let e = said c.args.order c.args.s.now n.code n.size n.ensures c.kind_of-kind.result c.kind_of-kind.ensures c.part_of.result c.part_of.ensures in
    (sym (e ∙ rw (not-header c.part_of.result _ c.in_default-part_of.not-Header)), tt)

pub slice_bounds-well_formed-end : goal.slice_bounds-well_formed-end
slice_bounds-well_formed-end c = let n = c.in-Chunk in ends c.args.order c.args.s.now 0 n.code n.size n.ensures

pub returns-then-well_formed : goal.returns-then-well_formed
returns-then-well_formed c =
    let n = c.in-Chunk in
    let k = c.kind_of-kind in
    let w = c.well_formed-2 in (
      begun c.args.order c.args.s.now n.code n.size n.ensures k.result k.ensures w.result true c.in-Header.ensures w.ensures c.if-well_formed.true,
      (omega arith, ends c.args.order c.args.s.now 0 n.code n.size n.ensures),
    )

pub returns-else-well_formed : goal.returns-else-well_formed
returns-else-well_formed c =
    let n = c.in-Chunk in
    let k = c.kind_of-kind in
    let w = c.well_formed-2 in
    (begun c.args.order c.args.s.now n.code n.size n.ensures k.result k.ensures w.result false c.in-Header.ensures w.ensures c.if-well_formed.false, tt)
