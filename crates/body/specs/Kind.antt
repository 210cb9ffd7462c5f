-- The 22 kinds of chunks and their types.
use Rattle.std.specs.Prelude.{ℕ, List, [], ◌∷◌, eqb}
use Rattle.num.specs.Choice.{pick}
use Rattle.body.specs.declared.kinds.Kind.{Kind}
use Rattle.body.specs.declared.kinds.Kind.TheVariants.{SSNC, SSNR, SFNC, SFNR, GSNC, GFNC, SIQP, SR, BW, GCBW, BWOF, CF, DBFS, DBTG, FFS, GIQP, GCF, GRG, SOFH, EOFH, IQDC, TEXT, Unknown}

-- the type of a kind: its four letters as a number, the first the most significant; an unknown kind has none
abbrev pub code_of : Kind → ℕ
code_of SSNC = 0x53534E43
code_of SSNR = 0x53534E52
code_of SFNC = 0x53464E43
code_of SFNR = 0x53464E52
code_of GSNC = 0x47534E43
code_of GFNC = 0x47464E43
code_of SIQP = 0x53495150
code_of SR = 0x53525F5F
code_of BW = 0x42575F5F
code_of GCBW = 0x47434257
code_of BWOF = 0x42574F46
code_of CF = 0x43465F5F
code_of DBFS = 0x64424653
code_of DBTG = 0x64425447
code_of FFS = 0x4646535F
code_of GIQP = 0x47495150
code_of GCF = 0x4743465F
code_of GRG = 0x4752475F
code_of SOFH = 0x534F4648
code_of EOFH = 0x454F4648
code_of IQDC = 0x49514443
code_of TEXT = 0x54455854
code_of Unknown = 0

unfoldable pub known : List Kind
known =
    SSNC ∷ SSNR ∷ SFNC ∷ SFNR ∷ GSNC ∷ GFNC ∷ SIQP ∷ SR ∷ BW ∷ GCBW ∷ BWOF ∷ CF
    ∷ DBFS ∷ DBTG ∷ FFS ∷ GIQP ∷ GCF ∷ GRG ∷ SOFH ∷ EOFH ∷ IQDC ∷ TEXT ∷ []

-- the kind among these whose type is n, or that there is none
unfoldable pub kind_in : List Kind → ℕ → Kind
kind_in [] n = Unknown
kind_in (k ∷ ks) n = pick (eqb n (code_of k)) k (kind_in ks n)

unfoldable pub kind_of : ℕ → Kind
kind_of n = kind_in known n
