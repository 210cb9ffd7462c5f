-- One turn of the check, by what stands at its place.
use Prim.Native.Nat.{ℕ, ◌+◌, ◌-◌, ◌≤◌, ◌<◌}
use mathlib.Core.Path.{◌≡◌, sym, ◌∙◌}
use mathlib.Core.Bool.{Bool}
use mathlib.Core.List.{List}
use native.Mathlib.Omega.{arith}
use lib.ListN.{length, take, drop}
use Rattle.std.specs.Prelude.{Ok, Err}
use Rattle.num.specs.Answer.{gives, refuses}
use Rattle.num.specs.declared.Order.{Order}
use Rattle.frame.specs.Place.{shows}
use Rattle.frame.specs.Ahead.{ahead_of}
use Rattle.frame.specs.declared.At.TheVariants.{Complete}
use Rattle.frame.specs.declared.Ahead.TheVariants.{Chunk}
use Rattle.frame.proofs.Looks.{is-chunk}
use Rattle.body.specs.Kind.{kind_of}
use Rattle.body.specs.Verdict.{verdict}
use Rattle.body.specs.declared.kinds.Kind.{Kind}
use Rattle.reader.proofs.Laws.{chunk-ends, chunk-body}
use Rattle.filecheck.specs.File.{bad_number, bad_place, part_of, is_good, well_formed, passes, then_rest, file_ahead}
use Rattle.filecheck.specs.Inner.Turn.{Turned}
use Rattle.filecheck.specs.declared.BadFile.{BadFile}
use Rattle.filecheck.specs.declared.Part.{Part}
use Rattle.filecheck.proofs.Laws.{ahead-chunk}

-- a chunk that is ahead at a place
module _ (o : Order) (s : List ℕ) (place code size : ℕ) (e : Chunk code size ≡ ahead_of o (drop place s)) where
  pub told : shows o (drop place s) ≡ Complete code size
  told = is-chunk o (drop place s) code size (sym e)

  pub ends : place + 12 + size ≤ length s
  ends = chunk-ends o s place code size told

  module _ (k : Kind) (i : k ≡ kind_of code) where
    -- whether its body is well-formed
    pub well : (w : Bool) → w ≡ is_good (verdict o k (take (place + 12 + size - (place + 12)) (drop (place + 12) s))) →
        w ≡ well_formed o code (take size (drop 12 (drop place s)))
    well w h = h ∙ rw (i, chunk-body o s place code size told)

    -- what the rule says of it, by its part
    module _ (p : Part) (j : p ≡ part_of k) (l : place < length s) (ended : Bool) where
      said : (n : ℕ) → then_rest place (passes p ended (well_formed o code (take size (drop 12 (drop place s))))) (file_ahead o s (n + 1) (place + 12 + size))
          ≡ file_ahead o s n place ended
      said n = rw (j, i) (sym (ahead-chunk o s n place ended code size l told))

      -- it passes
      pub goes : (next : Bool) → passes p ended (well_formed o code (take size (drop 12 (drop place s)))) ≡ gives next →
          Turned o s place ended (Ok record { place = place + 12 + size; ended = next })
      goes next t = record { said = λ n. rw t at (said n); on = (omega arith, ends) }

      -- or this is wrong with it
      pub stops : (bad : BadFile) → passes p ended (well_formed o code (take size (drop 12 (drop place s)))) ≡ refuses (bad_number bad) → bad_place bad ≡ place →
          Turned o s place ended (Err bad)
      stops bad t q = record { said = λ n. rw q (rw t at (said n)); on = tt }
