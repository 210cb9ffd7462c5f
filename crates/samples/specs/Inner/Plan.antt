-- What the copying calls know of the chunk before they copy.
use Rattle.std.specs.Prelude.{ℕ, ◌+◌, ◌-◌, ◌*◌, ◌≤◌, ◌≡◌, Bool, true, false, List, leb, length, take, drop, Result, Ok, Err}
use Rattle.num.specs.Answer.{Answer, gives, refuses, answered}
use Rattle.num.specs.Choice.{pick, each}
use Rattle.frame.specs.Place.{header_size, front_size}
use Rattle.copy.specs.Samples.{inside, place_of}
use Rattle.samples.specs.Copy.{uncopied_number, count_within, filled}
use Rattle.samples.specs.declared.Layout.{Layout}
use Rattle.samples.specs.declared.Plan.{Plan}
use Rattle.samples.specs.declared.Uncopied.{Uncopied}

abbrev pub layout_said : Result Layout Uncopied → Answer Layout
layout_said r = answered uncopied_number r

-- how many bytes a number of the width has
abbrev pub number_bytes : Bool → ℕ
number_bytes true = 4
number_bytes false = 2

-- every pair lies inside so many bytes of numbers of w bytes, or every real
abbrev pub lies : ℕ → ℕ → Layout → Bool
lies w size l =
    pick l.pairs (each (λ j. inside w size (place_of l.first l.step j)) l.count) (leb (l.count * w) size)

-- the bytes from one place up to another
abbrev pub part : ℕ → ℕ → List ℕ → List ℕ
part from to s = take (to - from) (drop from s)

-- the part of the stream that is planned is there, and the channel's numbers lie inside it
abbrev pub Sound : ℕ → List ℕ → Result Plan Uncopied → Type 0
Sound w s (Ok p) = (p.from ≤ p.to) × (p.to ≤ length s) × (lies w (p.to - p.from) p.layout ≡ true)
Sound w s (Err why) = Unit {0}

-- both refuse, with one number
abbrev pub Refuses : Answer Layout → Uncopied → Type 0
Refuses a why = a ≡ refuses (uncopied_number why)

-- what is planned for a chunk at a place and of a size is the layout in its samples, which stand behind its header and
-- its time
abbrev pub Plans : Answer Layout → ℕ → ℕ → Result Plan Uncopied → Type 0
Plans a at size (Ok p) = (a ≡ gives p.layout) × (p.from ≡ at + front_size) × (p.to ≡ at + header_size + size)
Plans a at size (Err why) = Refuses a why

-- what is planned is the layout in these sample bytes
abbrev pub Tells : List ℕ → Answer Layout → List ℕ → Result Plan Uncopied → Type 0
Tells s a samples (Ok p) = (a ≡ gives p.layout) × (samples ≡ part p.from p.to s)
Tells s a samples (Err why) = Refuses a why

-- what comes of a plan: the answer, and what the slice holds afterwards
abbrev pub planned_count : ℕ → Result Plan Uncopied → Answer ℕ
planned_count room (Ok p) = count_within room p.layout
planned_count room (Err why) = refuses (uncopied_number why)

abbrev pub planned_left : {A : Type 0} → (List ℕ → ℕ → A) → List ℕ → Result Plan Uncopied → List A → List A
planned_left value s (Ok p) out = filled (count_within (length out) p.layout) (gives p.layout) (value (part p.from p.to s)) out
planned_left value s (Err why) out = out
