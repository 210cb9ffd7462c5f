-- A turn fills in the sum of its channel; the channels that have both parts are those filled in at the end.
use Rattle.std.proofs.Common.{◌≡◌, false, ◌∙◌, arith}
use lib.Ieee.{binary32, of_bits}
use Rattle.body.proofs.Lists.{upto-none, upto-next}
use Rattle.state.proofs.Tests.{finite-is}
use Rattle.state.proofs.Summed.{filled-sums}
use Rattle.state.proofs.sums.sums_of.Goals as goal

pub loop-i-init : goal.loop-i-init
loop-i-init c = record { flags = upto-none _ false 0 16; sums = upto-none _ (of_bits binary32 0) 0 16 }

pub loop-i-preserved : goal.loop-i-preserved
loop-i-preserved c =
    let f = c.is_finite-there.ensures.value ∙ finite-is _ in
    let l = c.loop-i in
    record {
      flags = upto-next _ false l.i 16 l.present _ (omega arith) l.invariant.flags f;
      sums = upto-next _ (of_bits binary32 0) l.i 16 l.values _ (omega arith) l.invariant.sums (c.pick.ensures ∙ rw f);
    }

pub returns : goal.returns
returns c =
    let l = c.loop-i in
    let e : l.i ≡ c.channels-n.result = omega arith in
    let k = e ∙ c.channels-n.ensures.count in
    let p = rw k at l.invariant.flags in
    let q = rw k at l.invariant.sums in
    rw (p, q) (filled-sums c.args.total c.args.gains)
