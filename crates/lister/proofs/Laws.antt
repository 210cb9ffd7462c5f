-- Laws of lines laid one after the other: what is laid, and then the lines ahead, are the whole.
use Prim.Native.Nat.{ℕ, suc, ◌+◌, ◌*◌, ◌≤◌, ◌<◌}
use mathlib.Core.Path.{◌≡◌, refl, ap, sym, ◌∙◌}
use mathlib.Core.Bool.{Bool, true, false}
use mathlib.Core.List.{List, [], ◌∷◌, ◌++◌, map}
use native.Mathlib.Omega.{arith}
use lib.Dec.{leb}
use lib.ListN.{length, drop, length-append, length-drop, drop_of_length-le}
use borrow.Author.Tests.{leb-true, le-leb, lt-leb}
use Rattle.std.specs.Prelude.{Ok}
use Rattle.num.specs.Answer.{gives}
use Rattle.num.specs.Choice.{pick}
use Rattle.num.specs.declared.Order.{Order}
use Rattle.lay.specs.Splice.{splice, overlaid}
use Rattle.lay.proofs.Splice.{splice-nothing, splice-splice, length-splice, laid-first}
use Rattle.frame.specs.Ahead.{ahead_of}
use Rattle.frame.proofs.Frames.{frames-nil}
use Rattle.frame.proofs.Looks.{is-end}
use Rattle.state.specs.declared.State.{State}
use Rattle.reader.specs.Item.{Item, is_end}
use Rattle.reader.specs.Items.{Given, items_from}
use Rattle.reader.specs.Reading.{told, ahead}
use Rattle.reader.specs.Step.{new_cursor, step_of, Fit}
use Rattle.reader.specs.declared.Cursor.{Cursor}
use Rattle.reader.proofs.Laws.{step-ahead, gives-on}
use Rattle.reader.proofs.Theorems.{new-fit, step-keeps-fit, one, goes}
use Rattle.listing.specs.Lines.{answer_line, item_lines}
use Rattle.listing.specs.Text.{text_of, shown}
use Rattle.listing.specs.declared.string.Text.{Text}
use Rattle.listing.proofs.Shown.{shows-all, text-len}
use Rattle.lister.specs.Listed.{longest_line, items_of, needs, laid_in}
use Rattle.lister.specs.Inner.Laid.{Lays}
use Rattle.lister.proofs.Lengths.{line-length}

-- ---- what a text shows

-- a text that was made of bytes has no more than fit
pub text-room : (t : Text) (l : List ℕ) → t ≡ text_of l → t.len ≤ 96
text-room t l e = rw e (text-len l)

-- and shows them all where they fit
pub text-shows : (t : Text) (l : List ℕ) → t ≡ text_of l → length l ≤ 96 → shown t ≡ l
text-shows t l e h = ap shown e ∙ shows-all l h

-- ---- bytes laid where they fit

-- bytes laid where those before them end
pub lays-on : (d d₁ d₂ : List ℕ) (at q : ℕ) (u v : List ℕ) → q ≡ at + length u → Lays d at u d₁ → Lays d₁ q v d₂ → Lays d at (u ++ v) d₂
lays-on d d₁ d₂ at q u v e p r h =
    let n = length-append u v in
    let a : d₁ ≡ splice d at u = p (omega arith) in
    let m : length d₁ ≡ length d = ap length a ∙ length-splice d at u (omega arith) in
    r (omega arith) ∙ ap (λ (l : List ℕ). splice l q v) a ∙ splice-splice d at u v q e (omega arith)

-- one line
pub one-lays : (d e vs : List ℕ) (r : ℕ) → (r ≡ 0 + length vs) × (e ≡ overlaid d 0 vs) → (r ≡ length vs) × Lays d 0 vs e
one-lays d e vs r p = (omega (arith, p.0), λ h. laid-first d e 0 vs h p.1)

-- three parts, one laid behind the other
pub three-lay : (d d₁ d₂ d₃ u v w : List ℕ) (a b r : ℕ) →
    (a ≡ 0 + length u) × (d₁ ≡ overlaid d 0 u) → (b ≡ a + length v) × Lays d₁ a v d₂ → (r ≡ b + length w) × (d₃ ≡ overlaid d₂ b w) →
    (r ≡ length (u ++ v ++ w)) × Lays d 0 (u ++ v ++ w) d₃
three-lay d d₁ d₂ d₃ u v w a b r p q z =
    let n = length-append (u ++ v) w in
    let m = length-append u v in
    let l : Lays d 0 (u ++ v) d₂ = lays-on d d₁ d₂ 0 a u v p.0 (λ h. laid-first d d₁ 0 u h p.1) q.1 in
    (omega (arith, p.0, q.0, z.0), lays-on d d₂ d₃ 0 b (u ++ v) w (omega (arith, p.0, q.0)) l (λ h. laid-first d₂ d₃ b w h z.1))

-- the answer, and what the slice holds, by the test of the room
module _ (d vs : List ℕ) (n : ℕ) (l : n ≡ length vs) where
  pub no-room : length d < n → (needs n ≡ laid_in (length vs) (length d)) × (d ≡ overlaid d 0 vs)
  no-room h =
      let z : 0 + length vs ≡ n = omega arith in
      rw (z, ← l, lt-leb n (length d) h) (refl, refl)

  pub has-room : (e : List ℕ) → n ≤ length d → Lays d 0 vs e → (Ok n ≡ laid_in (length vs) (length d)) × (e ≡ overlaid d 0 vs)
  has-room e h p =
      let a : e ≡ splice d 0 vs = p (omega arith) in
      let z : 0 + length vs ≡ n = omega arith in
      (rw (← l, le-leb n (length d) h), rw (z, le-leb n (length d) h) (rw z at a))

overlaid-by : (d : List ℕ) (at : ℕ) (vs : List ℕ) (b : Bool) → leb (at + length vs) (length d) ≡ b → length (pick b (splice d at vs) d) ≡ length d
overlaid-by d at vs true e = length-splice d at vs (leb-true (at + length vs) (length d) e)
overlaid-by d at vs false e = refl

-- a slice has as many bytes as before
pub overlaid-length : (d : List ℕ) (at : ℕ) (vs : List ℕ) → length (overlaid d at vs) ≡ length d
overlaid-length d at vs = overlaid-by d at vs (leb (at + length vs) (length d)) refl

-- ---- the lines ahead of a cursor

-- the lines of some items
abbrev pub lines_of : List Given → List ℕ
lines_of gs = item_lines (map (λ (g : Given). g.item) gs)

-- the lines of the items ahead of a cursor
abbrev pub lines_ahead : Order → List ℕ → Cursor → List ℕ
lines_ahead o s c = lines_of (ahead o s c)

told-cons : (i : Item) (shown : State) (rest : List Given) → is_end i ≡ false → told (gives i) shown rest ≡ record { item = i; shown = shown } ∷ rest
told-cons i shown rest e = rw e

-- a step before the end gives the first of the items ahead, and leaves a cursor with the others ahead
pub record Gives (o : Order) (s : List ℕ) (c : Cursor) : Type 0 where
  pub item : Item
  pub given : (step_of o s c).item ≡ gives item
  pub rest : ahead o s c ≡ record { item = item; shown = (step_of o s c).shown } ∷ ahead o s (step_of o s c).cursor

module _ (o : Order) (s : List ℕ) (c : Cursor) where
  step-gives : c.place < length s → Fit c → Gives o s c
  step-gives h f =
      let l = drop c.place s in
      let g = gives-on o l c (ahead_of o l) (λ e. omega (arith, is-end o l e, length-drop c.place s)) in
      let e : (step_of o s c).item ≡ gives g.0 = rw (step-ahead o s c (omega arith) f) g.1 in
      record { item = g.0; given = e; rest = one o s c h f ∙ rw e (told-cons g.0 (step_of o s c).shown (ahead o s (step_of o s c).cursor) g.2) }

  -- one item more
  pub count-next : c.place < length s → Fit c → length (ahead o s c) ≡ suc (length (ahead o s (step_of o s c).cursor))
  count-next h f = ap length (step-gives h f).rest

  -- and one line more
  pub line-next : c.place < length s → Fit c → lines_ahead o s c ≡ answer_line (step_of o s c).item ++ lines_ahead o s (step_of o s c).cursor
  line-next h f = let g = step-gives h f in ap lines_of g.rest ∙ rw g.given

  -- at the end none is ahead
  pub none-ahead : length s ≤ c.place → ahead o s c ≡ []
  unfolding items_from
  none-ahead h =
      let z : drop c.place s ≡ [] = drop_of_length-le s {i = c.place} h in
      rw (z, frames-nil o)

-- Some lines of a stream's items are laid into d from the place `at` on: it is then e, the cursor is c, and the next line
-- goes to the place `to`. Where all fit, what is laid and then the lines ahead are all of them.
pub record SoFar (o : Order) (s d : List ℕ) (at : ℕ) (e : List ℕ) (c : Cursor) (to : ℕ) : Type 0 where
  pub fit : Fit c
  pub within : c.place ≤ length s
  pub below : to ≤ at + longest_line * c.place
  pub count : to + length (lines_ahead o s c) ≡ at + length (item_lines (items_of o s))
  pub same : length e ≡ length d
  pub laid : at + length (item_lines (items_of o s)) ≤ length d → splice e to (lines_ahead o s c) ≡ splice d at (item_lines (items_of o s))

module _ (o : Order) (s d : List ℕ) (at : ℕ) where
  pub none-laid : SoFar o s d at d new_cursor at
  none-laid = record { fit = new-fit; within = omega arith; below = omega arith; count = refl; same = refl; laid = λ h. refl }

  -- the next line, laid where it fits
  pub one-laid : (e e' : List ℕ) (c : Cursor) (to : ℕ) → SoFar o s d at e c to → length s < 100000 → c.place < length s →
      e' ≡ overlaid e to (answer_line (step_of o s c).item) → SoFar o s d at e' (step_of o s c).cursor (to + length (answer_line (step_of o s c).item))
  one-laid e e' c to f m h p =
      let line = answer_line (step_of o s c).item in
      let rest = lines_ahead o s (step_of o s c).cursor in
      let q : lines_ahead o s c ≡ line ++ rest = line-next o s c h f.fit in
      let k : length (lines_ahead o s c) ≡ length line + length rest = ap length q ∙ length-append line rest in
      let w = line-length o s c m f.within f.fit in
      let g = goes o s c f.fit h in
      record {
        fit = step-keeps-fit o s c f.fit;
        within = g.within;
        below = omega (arith, f.below, g.on);
        count = omega (arith, f.count);
        same = ap length p ∙ overlaid-length e to line ∙ f.same;
        laid = λ u.
            let r : to + length line ≤ length e = omega (arith, f.count, f.same) in
            ap (λ (x : List ℕ). splice x (to + length line) rest) (laid-first e e' to line r p)
            ∙ splice-splice e to line rest (to + length line) refl r
            ∙ ap (splice e to) (sym q)
            ∙ f.laid u;
      }

  -- at the end of the stream all lines are laid
  pub all-laid : (e : List ℕ) (c : Cursor) (to : ℕ) → SoFar o s d at e c to → length s ≤ c.place →
      (to ≡ at + length (item_lines (items_of o s))) × Lays d at (item_lines (items_of o s)) e
  all-laid e c to f h =
      let q : lines_ahead o s c ≡ [] = ap lines_of (none-ahead o s c h) in
      let n : length (lines_ahead o s c) ≡ 0 = ap length q in
      (omega (arith, f.count), λ u. sym (splice-nothing e to) ∙ ap (splice e to) (sym q) ∙ f.laid u)
