-- The kinds by what a raw body of theirs may get wrong that no values can.
use Rattle.std.specs.Prelude.{ℕ}
use Rattle.body.specs.declared.kinds.Kind.{Kind}
use Rattle.body.specs.declared.kinds.Kind.TheVariants.{SIQP, SR, BW, GCBW, BWOF, CF, DBFS, DBTG, FFS, GIQP, GCF, GRG, SOFH, EOFH, IQDC}

-- the kinds whose bodies have one size, and that size
pub data OneSize : Kind → ℕ → Type 0 where
  siqp : OneSize SIQP 4
  sofh : OneSize SOFH 4
  dbfs : OneSize DBFS 4
  dbtg : OneSize DBTG 4
  ffs : OneSize FFS 4
  sr : OneSize SR 8
  bw : OneSize BW 8
  gcbw : OneSize GCBW 8
  cf : OneSize CF 8
  bwof : OneSize BWOF 16
  eofh : OneSize EOFH 0
  iqdc : OneSize IQDC 0

-- the kinds that count channels: the size up to their values, and the size of a value
pub data Counts : Kind → ℕ → ℕ → Type 0 where
  giqp : Counts GIQP 12 4
  gcf : Counts GCF 4 8
  grg : Counts GRG 4 4
