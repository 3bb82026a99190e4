-- What the stream gives for a row.
-- Assumes nothing.
use Prim.Native.Nat.{ℕ, suc, ◌-◌}
use mathlib.Core.Path.{◌≡◌, refl, sym, ap, ◌∙◌, subst}
use mathlib.Core.List.{List, [], ◌∷◌, ◌++◌, append_assoc}
use mathlib.Core.Bool.{Bool, true, false, cond, ◌||◌, ◌&&◌, not, true≢false}
use lib.Dec.{eqb, eqb-suc-zero}
use native.Mathlib.Omega.{arith}
use lib.Seq.{drop_at}
use lib.ListN.{drop, length}
use Rattle.tokenizer.specs.declared.event.Event.{Event}
use Rattle.tokenizer.specs.Events.{GfmTableCellDivider, GfmTableCellText, GfmTableDelimiterCellValue, SpaceOrTab, enter, leave, linked, point_of}
use Rattle.gfm_table.specs.Rows.{Passed, all_both}
use Rattle.edit_map.specs.declared.resolve_turn.Phase.TheVariants.{Cell, Piece, Exit, Text, Copy, RowExit}
use Rattle.gfm_table.specs.declared.stream.Part.{Part}
use Rattle.edit_map.specs.declared.resolve_turn.Mode.{Mode}
use Rattle.edit_map.specs.declared.resolve_turn.Turn.{Turn}
use Rattle.edit_map.specs.Tables.{named, is_text, is_solid, any_solid, any_text, cells, first_cell, other_cells, before, last_text, after_text, upto_text, row_inner, delimiter_inner, boundary, cell_events}
use Rattle.edit_map.specs.Cells.{text_ahead, later, last_ahead}
use Rattle.edit_map.specs.Base.{is_row_name, is_text_name}
use Rattle.edit_map.specs.Turns.{is_out, value_phase, plain, given, piece_turn}
use Rattle.edit_map.specs.CellRows.{cell_of, value_of}
use Rattle.edit_map.proofs.Stream.{first, turn_at, ahead_of, solid_of, onward}

-- no table follows
abbrev pub is_last : Mode → List Event → Bool
is_last m es = is_out m.phase && eqb (first es).kind 0

-- the stream gives some records, and goes on from another mode and place
pub data Gives : Mode → List Event → List Event → Mode → List Event → Type 0 where
  none : {m : Mode} {es : List Event} → Gives m es [] m es
  more : {m n : Mode} {es fs out : List Event} → is_last m es ≡ false → Gives (turn_at m es).mode (drop (turn_at m es).by es) out n fs → Gives m es ((turn_at m es).event ∷ out) n fs

pub then : {m n k : Mode} {es fs gs a b : List Event} → Gives m es a n fs → Gives n fs b k gs → Gives m es (a ++ b) k gs
then none h = h
then (more e g) h = more e (then g h)

pub moved : {m n : Mode} {es fs gs out o : List Event} → es ≡ fs → out ≡ o → Gives m fs o n gs → Gives m es out n gs
moved {m} {n} {es} {fs} {gs} {out} {o} p q g = subst (λ (l : List Event). Gives m l out n gs) (sym p) (subst (λ (l : List Event). Gives m fs l n gs) (sym q) g)

-- a turn that is known only by an equation
pub turned : {m n : Mode} {es fs out : List Event} (e : Event) (k : Mode) (by : ℕ) → is_last m es ≡ false → turn_at m es ≡ given e k by → Gives k (drop by es) out n fs → Gives m es (e ∷ out) n fs
turned {m} {n} {es} {fs} {out} e k by l q g =
    subst (λ (x : Event). Gives m es (x ∷ out) n fs) (ap (λ (t : Turn). t.event) q)
    (more l (subst (λ (t : Turn). Gives t.mode (drop t.by es) out n fs) (sym q) g))

-- the sorts of pieces, by the tests on the name that the stream makes
pub record Tests (r s d t : Bool) (n : ℕ) : Type 0 where
  pub row : is_row_name n ≡ r
  pub space : eqb n SpaceOrTab ≡ s
  pub divider : eqb n GfmTableCellDivider ≡ d
  pub text : is_text_name n ≡ t

pub data Sort (n : ℕ) : Type 0 where
  space : Tests false true false false n → Sort n
  divider : Tests false false true false n → Sort n
  text : Tests false false false true n → Sort n

-- the end of a row
abbrev pub Ends : ℕ → Type 0
Ends = Tests true false false false

pub record Fine (x : Passed) : Type 0 where
  pub same : x.exit.name ≡ x.entry.name
  pub sort : Sort x.entry.name

pub data AllFine : List Passed → Type 0 where
  done : AllFine []
  also : {x : Passed} {xs : List Passed} → Fine x → AllFine xs → AllFine (x ∷ xs)

-- ## What is ahead of a piece

-- the records from the exit of x up to the exit of the last text
unfoldable pub gap : Passed → List Passed → List Event
gap x [] = []
gap x (y ∷ ys) = cond (text_ahead (y ∷ ys)) (x.exit ∷ y.entry ∷ gap y ys) []

-- the cell that goes on
abbrev pub cell : List Passed → List Passed
cell xs = first_cell (cells true xs)

splits : (x : Passed) (xs : List Passed) (tail : List Event) → x.exit ∷ all_both xs ++ tail ≡ gap x xs ++ ((last_ahead x xs).exit ∷ all_both (later xs) ++ tail)
unfolding all_both gap last_ahead later
splits x [] tail = refl
splits x (y ∷ ys) tail = go (text_ahead (y ∷ ys)) (splits y ys tail)
  where
    go : (b : Bool) → y.exit ∷ all_both ys ++ tail ≡ gap y ys ++ ((last_ahead y ys).exit ∷ all_both (later ys) ++ tail)
        → x.exit ∷ y.entry ∷ y.exit ∷ all_both ys ++ tail ≡ cond b (x.exit ∷ y.entry ∷ gap y ys) [] ++ ((cond b (last_ahead y ys) x).exit ∷ all_both (cond b (later ys) (y ∷ ys)) ++ tail)
    go true ih = ap (λ (l : List Event). x.exit ∷ y.entry ∷ l) ih
    go false ih = refl

-- no text is ahead where all is whitespace
no_text : {xs : List Passed} → AllFine xs → any_solid xs ≡ false → text_ahead xs ≡ false
unfolding any_solid text_ahead
no_text done e = refl
no_text (also {x = x} {xs = xs} f g) e = go f.sort (no_text g)
  where
    go : Sort x.entry.name → (any_solid xs ≡ false → text_ahead xs ≡ false) → is_text x || (not (named GfmTableCellDivider x) && text_ahead xs) ≡ false
    go (space q) ih = rw (q.text, q.divider) (ih (rw q.space at e))
    go (divider q) ih = rw (q.text, q.divider)
    go (text q) ih = absurd (true≢false (rw q.space at e))

-- a text ahead is one of the cell
pub is_ahead : {xs : List Passed} → AllFine xs → any_text (cell xs) ≡ text_ahead xs
unfolding cells any_text text_ahead
is_ahead done = refl
is_ahead (also {x = x} {xs = xs} f g) = go f.sort (any_solid xs) refl (is_ahead g)
  where
    go : Sort x.entry.name → (b : Bool) → any_solid xs ≡ b → any_text (cell xs) ≡ text_ahead xs → any_text (cell (x ∷ xs)) ≡ text_ahead (x ∷ xs)
    go (space q) b e ih = rw (q.divider, q.text) ih
    go (divider q) true e ih = rw (q.divider, q.text, e)
    go (divider q) false e ih = rw (q.divider, e, ih, no_text g e, q.text)
    go (text q) k e ih = rw (q.divider, q.text)

-- there is always a first cell
pub some-cell : (seen : Bool) (xs : List Passed) → cells seen xs ≡ first_cell (cells seen xs) ∷ other_cells (cells seen xs)
unfolding cells
some-cell seen [] = refl
some-cell seen (x ∷ xs) = go (seen && (named GfmTableCellDivider x && any_solid xs))
  where
    here : Bool → List (List Passed)
    here b = cond b ([] ∷ before x (cells true xs)) (before x (cells (seen || is_solid x) xs))

    go : (b : Bool) → here b ≡ first_cell (here b) ∷ other_cells (here b)
    go true = refl
    go false = refl

pub all_after : (c : List Passed) → any_text c ≡ false → after_text c ≡ c
unfolding after_text
all_after [] e = refl
all_after (x ∷ xs) e = rw e

pub none_last : (x : Passed) (c : List Passed) → any_text c ≡ false → last_text x c ≡ x
unfolding last_text
none_last x [] e = refl
none_last x (y ∷ ys) e = rw e

pub none-upto : (c : List Passed) → any_text c ≡ false → upto_text c ≡ []
unfolding upto_text
none-upto [] e = refl
none-upto (y ∷ ys) e = rw e

-- where a text is ahead, the next piece is of the cell
of_cell : {x : Passed} (xs : List Passed) → Fine x → text_ahead (x ∷ xs) ≡ true → named GfmTableCellDivider x ≡ false
unfolding text_ahead
of_cell {x} xs f e = go f.sort
  where
    go : Sort x.entry.name → named GfmTableCellDivider x ≡ false
    go (space q) = q.divider
    go (divider q) = absurd (true≢false (sym (rw (q.divider, q.text) at e)))
    go (text q) = q.divider

cell-is : (x : Passed) (xs : List Passed) → named GfmTableCellDivider x ≡ false → cells true (x ∷ xs) ≡ before x (cells true xs)
unfolding cells
cell-is x xs e = rw e

text_in_lem : {x : Passed} {xs : List Passed} → Fine x → AllFine xs → text_ahead (x ∷ xs) ≡ true → (cells true (x ∷ xs) ≡ before x (cells true xs)) × (any_text (x ∷ cell xs) ≡ true)
text_in_lem {x} {xs} f g e =
    let s : cells true (x ∷ xs) ≡ before x (cells true xs) = cell-is x xs (of_cell xs f e) in
    (s, ap (λ (l : List (List Passed)). any_text (first_cell l)) (sym s) ∙ is_ahead (also f g) ∙ e)

-- after the value the cell goes on with what stands behind it
pub goes_on_lem : {xs : List Passed} → AllFine xs → cells true (later xs) ≡ after_text (cell xs) ∷ other_cells (cells true xs)
unfolding cells after_text later
goes_on_lem done = refl
goes_on_lem (also {x = x} {xs = xs} f g) = go (text_ahead (x ∷ xs)) refl (goes_on_lem g)
  where
    go : (b : Bool) → text_ahead (x ∷ xs) ≡ b → cells true (later xs) ≡ after_text (cell xs) ∷ other_cells (cells true xs) → cells true (cond b (later xs) (x ∷ xs)) ≡ after_text (cell (x ∷ xs)) ∷ other_cells (cells true (x ∷ xs))
    go true e ih = rw ((text_in_lem f g e).0, (text_in_lem f g e).1) ih
    go false e ih = some-cell true (x ∷ xs) ∙ rw (all_after (cell (x ∷ xs)) (is_ahead (also f g) ∙ e))

-- the value ends with the last text ahead
pub last-is : (x : Passed) {xs : List Passed} → AllFine xs → last_ahead x xs ≡ last_text x (cell xs)
unfolding cells last_text last_ahead
last-is x done = refl
last-is x (also {x = y} {xs = ys} f g) = go (text_ahead (y ∷ ys)) refl (last-is y g)
  where
    go : (b : Bool) → text_ahead (y ∷ ys) ≡ b → last_ahead y ys ≡ last_text y (cell ys) → cond b (last_ahead y ys) x ≡ last_text x (cell (y ∷ ys))
    go true e ih = rw ((text_in_lem f g e).0, (text_in_lem f g e).1) ih
    go false e ih = sym (none_last x (cell (y ∷ ys)) (is_ahead (also f g) ∙ e))

-- what is copied is the value
copied : (x : Passed) {xs : List Passed} → AllFine xs → gap x xs ++ ((last_ahead x xs).exit ∷ []) ≡ x.exit ∷ all_both (upto_text (cell xs))
unfolding cells upto_text last_ahead gap all_both
copied x done = refl
copied x (also {x = y} {xs = ys} f g) = go (text_ahead (y ∷ ys)) refl (copied y g)
  where
    go : (b : Bool) → text_ahead (y ∷ ys) ≡ b → gap y ys ++ ((last_ahead y ys).exit ∷ []) ≡ y.exit ∷ all_both (upto_text (cell ys))
        → cond b (x.exit ∷ y.entry ∷ gap y ys) [] ++ ((cond b (last_ahead y ys) x).exit ∷ []) ≡ x.exit ∷ all_both (upto_text (cell (y ∷ ys)))
    go true e ih = rw ((text_in_lem f g e).0, (text_in_lem f g e).1) (ap (λ (l : List Event). x.exit ∷ y.entry ∷ l) ih)
    go false e ih = rw (none-upto (cell (y ∷ ys)) (is_ahead (also f g) ∙ e))

-- ## What the look ahead finds

onward-gap : (x y : Passed) (ys : List Passed) → onward (onward (length (gap y ys))) ≡ length (cond (text_ahead ys) (x.exit ∷ y.entry ∷ gap y ys) [])
unfolding gap text_ahead
onward-gap x y [] = refl
onward-gap x y (z ∷ zs) = go (text_ahead (z ∷ zs))
  where
    go : (b : Bool) → onward (onward (length (cond b (y.exit ∷ z.entry ∷ gap z zs) []))) ≡ length (cond b (x.exit ∷ y.entry ∷ cond b (y.exit ∷ z.entry ∷ gap z zs) []) [])
    go true = refl
    go false = refl

ahead_space : (a b : Event) (es : List Event) → b.name ≡ a.name → eqb a.name SpaceOrTab ≡ true → ahead_of (a ∷ b ∷ es) ≡ onward (onward (ahead_of es))
unfolding ahead_of
ahead_space a b es s t = rw (s, t)

ahead_text : (a b : Event) (es : List Event) → b.name ≡ a.name → Tests false false false true a.name → ahead_of (a ∷ b ∷ es) ≡ suc (suc (ahead_of es))
unfolding ahead_of
ahead_text a b es s t = rw (s, t.space, t.text)

ahead_none : {r d : Bool} (a : Event) (es : List Event) → Tests r false d false a.name → ahead_of (a ∷ es) ≡ 0
unfolding ahead_of
ahead_none a es t = rw (t.space, t.text)

solid_space : (a b : Event) (es : List Event) → b.name ≡ a.name → eqb a.name SpaceOrTab ≡ true → solid_of (a ∷ b ∷ es) ≡ solid_of es
unfolding solid_of
solid_space a b es s t = rw (s, t)

module _ (e : Event) (tail : List Event) (ends : Ends e.name) where
  solid-is : {xs : List Passed} → AllFine xs → solid_of (all_both xs ++ e ∷ tail) ≡ any_solid xs
  unfolding all_both solid_of any_solid
  solid-is done = rw (ends.space, ends.text, ends.divider)
  solid-is (also {x = x} {xs = xs} f g) = go f.sort (solid-is g)
    where
      go : Sort x.entry.name → solid_of (all_both xs ++ e ∷ tail) ≡ any_solid xs → solid_of (all_both (x ∷ xs) ++ e ∷ tail) ≡ any_solid (x ∷ xs)
      go (space q) ih = solid_space x.entry x.exit (all_both xs ++ e ∷ tail) f.same q.space ∙ rw q.space ih
      go (divider q) ih = rw (q.space, q.text, q.divider)
      go (text q) ih = rw (q.space, q.text)

  ahead_is : (x : Passed) {xs : List Passed} → AllFine xs → ahead_of (all_both xs ++ e ∷ tail) ≡ length (gap x xs)
  unfolding all_both gap text_ahead
  ahead_is x done = ahead_none e tail ends
  ahead_is x (also {x = y} {xs = ys} f g) = go f.sort (ahead_is y g)
    where
      go : Sort y.entry.name → ahead_of (all_both ys ++ e ∷ tail) ≡ length (gap y ys) → ahead_of (all_both (y ∷ ys) ++ e ∷ tail) ≡ length (gap x (y ∷ ys))
      go (space q) ih = ahead_space y.entry y.exit (all_both ys ++ e ∷ tail) f.same q.space ∙ rw (ih, q.text, q.divider) (onward-gap x y ys)
      go (divider q) ih = ahead_none y.entry (y.exit ∷ all_both ys ++ e ∷ tail) q ∙ rw (q.text, q.divider)
      go (text q) ih = ahead_text y.entry y.exit (all_both ys ++ e ∷ tail) f.same q ∙ rw (ih, q.text)

-- ## The inner records of a cell

abbrev pub inner_of : Part → List Passed → List Event
inner_of Part.Head = row_inner
inner_of Part.Delimiter = delimiter_inner
inner_of Part.Body = row_inner

-- the rest of a cell that still waits for its value, or has it
abbrev pub inner_at : Part → Bool → List Passed → List Event
inner_at p true = inner_of p
inner_at p false = all_both

abbrev pub at : Part → Bool → Bool → Mode
at p seen waits = record { phase = Piece; part = p; seen = seen; waits = waits; left = 0 }

inner-none : (p : Part) (w : Bool) → inner_at p w [] ≡ []
unfolding all_both row_inner delimiter_inner
inner-none p false = refl
inner-none Part.Head true = refl
inner-none Part.Delimiter true = refl
inner-none Part.Body true = refl

inner-plain : (p : Part) (w : Bool) (x : Passed) (c : List Passed) → w && is_text x ≡ false → inner_at p w (x ∷ c) ≡ x.entry ∷ x.exit ∷ inner_at p w c
unfolding all_both row_inner delimiter_inner
inner-plain p false x c h = refl
inner-plain Part.Head true x c h = rw h
inner-plain Part.Delimiter true x c h = rw h
inner-plain Part.Body true x c h = rw h

pub and_none : (b : Bool) {c : Bool} → c ≡ false → b && c ≡ false
and_none true e = e
and_none false e = refl

pub none_and : {b : Bool} (c : Bool) → b ≡ false → b && c ≡ false
none_and c e = rw e

one_less : (n : ℕ) → suc n - 1 ≡ n
one_less n = omega arith

-- ## A value

module _ (p : Part) where
  -- a value is copied
  copies : (pre : List Event) (l : Event) (post : List Event)
      → Gives (record { phase = Copy; part = p; seen = true; waits = false; left = length pre }) (pre ++ l ∷ post) (pre ++ l ∷ leave (value_of p) (point_of l) ∷ []) (at p true false) post
  copies [] l post = more refl (more refl none)
  copies (a ∷ pre) l post = turned a (record { phase = Copy; part = p; seen = true; waits = false; left = length pre }) 1 refl (rw (eqb-suc-zero (length pre), one_less (length pre))) (copies pre l post)

  abbrev value_mode : ℕ → Mode
  value_mode n = record { phase = value_phase p; part = p; seen = true; waits = false; left = n }

  -- a value opens
  value_turn : (y : Passed) (es : List Event) (seen : Bool) → Tests false false false true y.entry.name
      → turn_at (at p seen true) (y.entry ∷ y.exit ∷ es) ≡ given (enter (value_of p) (point_of y.entry)) (value_mode (suc (ahead_of es))) 0
  unfolding piece_turn
  value_turn y es true q = rw (q.row, q.divider, q.text)
  value_turn y es false q = rw (q.row, q.text)

pub value_cells : (y : Passed) (ys : List Passed) (seen : Bool) → Tests false false false true y.entry.name → cells seen (y ∷ ys) ≡ before y (cells true ys)
unfolding cells
value_cells y ys true q = rw q.divider
value_cells y ys false q = rw q.space

-- the records of a value that has been entered
abbrev value_out : Part → Passed → List Passed → List Event
value_out Part.Head y c = linked y.entry ∷ (last_text y c).exit ∷ leave GfmTableCellText (point_of (last_text y c).exit) ∷ []
value_out Part.Delimiter y c = (y.entry ∷ y.exit ∷ all_both (upto_text c)) ++ (leave GfmTableDelimiterCellValue (point_of (last_text y c).exit) ∷ [])
value_out Part.Body y c = linked y.entry ∷ (last_text y c).exit ∷ leave GfmTableCellText (point_of (last_text y c).exit) ∷ []

inner_value : (p : Part) (y : Passed) (c : List Passed) → is_text y ≡ true → inner_of p (y ∷ c) ≡ enter (value_of p) (point_of y.entry) ∷ value_out p y c ++ all_both (after_text c)
unfolding row_inner delimiter_inner all_both
inner_value Part.Head y c t = rw t
inner_value Part.Delimiter y c t = rw (t, append_assoc)
inner_value Part.Body y c t = rw t

module _ (e : Event) (tail : List Event) (ends : Ends e.name) (y : Passed) {ys : List Passed} (g : AllFine ys) where
  abbrev those : List Event
  those = all_both ys ++ e ∷ tail

  jump : drop (ahead_of those) (y.exit ∷ those) ≡ (last_text y (cell ys)).exit ∷ all_both (later ys) ++ e ∷ tail
  jump = ap (λ (l : List Event). drop (ahead_of those) l) (splits y ys (e ∷ tail)) ∙ drop_at (gap y ys) ((last_ahead y ys).exit ∷ all_both (later ys) ++ e ∷ tail) (ahead_of those) (sym (ahead_is e tail ends y g)) ∙ rw (last-is y g)

  abbrev after : List Event
  after = all_both (later ys) ++ e ∷ tail

  -- a text is linked, and what lies between its ends is passed
  linking : (p : Part) → Gives (record { phase = Text; part = p; seen = true; waits = false; left = suc (ahead_of those) }) (y.entry ∷ y.exit ∷ those)
      (linked y.entry ∷ (last_text y (cell ys)).exit ∷ leave (value_of p) (point_of (last_text y (cell ys)).exit) ∷ []) (at p true false) after
  linking p = more refl (moved jump refl (copies p [] (last_text y (cell ys)).exit after))

  -- a delimiter row's value is copied
  abbrev left : Event
  left = leave GfmTableDelimiterCellValue (point_of (last_ahead y ys).exit)

  value_is : value_out Part.Delimiter y (cell ys) ≡ (y.entry ∷ gap y ys) ++ ((last_ahead y ys).exit ∷ left ∷ [])
  value_is = rw (← last-is y g) (ap (λ (l : List Event). y.entry ∷ (l ++ (left ∷ []))) (sym (copied y g)) ∙ rw append_assoc)

  copying : Gives (value_mode Part.Delimiter (suc (ahead_of those))) (y.entry ∷ y.exit ∷ those) (value_out Part.Delimiter y (cell ys)) (at Part.Delimiter true false) after
  copying = rw (ahead_is e tail ends y g) (moved (ap (λ (l : List Event). y.entry ∷ l) (splits y ys (e ∷ tail))) value_is (copies Part.Delimiter (y.entry ∷ gap y ys) (last_ahead y ys).exit after))

  value_gives : (p : Part) → Gives (value_mode p (suc (ahead_of those))) (y.entry ∷ y.exit ∷ those) (value_out p y (cell ys)) (at p true false) after
  value_gives Part.Head = linking Part.Head
  value_gives Part.Delimiter = copying
  value_gives Part.Body = linking Part.Body

-- ## The pieces of a row

module _ (p : Part) (e : Event) (tail : List Event) (ends : Ends e.name) where
  -- what is left of a row
  abbrev pub out : Bool → List (List Passed) → List Event
  out w cs = inner_at p w (first_cell cs) ++ leave (cell_of p) (boundary (other_cells cs) (point_of e)) ∷ cell_events (cell_of p) (inner_of p) (point_of e) (other_cells cs)

  abbrev pub Done : Mode → List Event → List Event → Type 0
  Done m es o = Gives m es o (plain RowExit p) (e ∷ tail)

  abbrev pub Pieces : List Passed → Type 0
  Pieces xs = (seen w : Bool) → Done (at p seen w) (all_both xs ++ e ∷ tail) (out w (cells seen xs))

  at-end : Pieces []
  unfolding piece_turn all_both cells cell_events
  at-end seen w = rw (inner-none p w) (turned (leave (cell_of p) (point_of e)) (plain RowExit p) 0 refl (rw ends.row) none)

  -- a piece that neither opens a cell nor a value
  passes : (y : Passed) (ys : List Passed) (seen w : Bool) {o : List Event} → is_row_name y.entry.name ≡ false → seen && (named GfmTableCellDivider y && solid_of (all_both ys ++ e ∷ tail)) ≡ false → w && is_text y ≡ false
      → Done (at p (seen || is_solid y) w) (all_both ys ++ e ∷ tail) o → Done (at p seen w) (all_both (y ∷ ys) ++ e ∷ tail) (y.entry ∷ y.exit ∷ o)
  unfolding piece_turn all_both
  passes y ys seen w r d t g = turned y.entry (record { phase = Exit; part = p; seen = seen || is_solid y; waits = w; left = 0 }) 1 refl (rw (r, d, t)) (more refl g)

  -- the same, with what it means for the cells
  plainly : (y : Passed) (ys : List Passed) (seen w : Bool) → is_row_name y.entry.name ≡ false → seen && (named GfmTableCellDivider y && any_solid ys) ≡ false → w && is_text y ≡ false
      → AllFine ys → Pieces ys → Done (at p seen w) (all_both (y ∷ ys) ++ e ∷ tail) (out w (cells seen (y ∷ ys)))
  unfolding cells
  plainly y ys seen w r d t g ih =
      rw (d, inner-plain p w y (first_cell (cells (seen || is_solid y) ys)) t)
      (passes y ys seen w r (rw (solid-is e tail ends g) d) t (ih (seen || is_solid y) w))

  -- a divider that opens a cell
  opens : (y : Passed) (ys : List Passed) (w : Bool) → Tests false false true false y.entry.name → any_solid ys ≡ true → AllFine ys → Pieces ys → Done (at p true w) (all_both (y ∷ ys) ++ e ∷ tail) (out w (cells true (y ∷ ys)))
  unfolding piece_turn cells cell_events all_both
  opens y ys w q s g ih =
      rw (q.divider, s, inner-none p w)
      (turned (leave (cell_of p) (point_of y.entry)) (plain Cell p) 0 refl (rw (q.row, q.divider, solid-is e tail ends g, s))
      (more refl (rw q.space at (plainly y ys false true q.row refl q.text g ih))))

  values : (y : Passed) (ys : List Passed) (seen : Bool) → Tests false false false true y.entry.name → AllFine ys → Pieces (later ys)
      → Done (at p seen true) (all_both (y ∷ ys) ++ e ∷ tail) (out true (cells seen (y ∷ ys)))
  unfolding all_both
  values y ys seen q g ih =
      rw (value_cells y ys seen q, inner_value p y (cell ys) q.text, append_assoc)
      (turned (enter (value_of p) (point_of y.entry)) (value_mode p (suc (ahead_of (all_both ys ++ e ∷ tail)))) 0 refl (value_turn p y (all_both ys ++ e ∷ tail) seen q)
      (then (value_gives e tail ends y g p) (rw (goes_on_lem g) at (ih true false))))

  piece : {y : Passed} {ys : List Passed} → Fine y → AllFine ys → Pieces ys → Pieces (later ys) → Pieces (y ∷ ys)
  piece {y} {ys} f g here there = go f.sort
    where
      divides : Tests false false true false y.entry.name → (b : Bool) → any_solid ys ≡ b → Pieces (y ∷ ys)
      divides q true s true w = opens y ys w q s g here
      divides q true s false w = plainly y ys false w q.row refl (and_none w q.text) g here
      divides q false s seen w = plainly y ys seen w q.row (and_none seen (and_none (named GfmTableCellDivider y) s)) (and_none w q.text) g here

      go : Sort y.entry.name → Pieces (y ∷ ys)
      go (space q) seen w = plainly y ys seen w q.row (and_none seen (none_and (any_solid ys) q.divider)) (and_none w q.text) g here
      go (divider q) seen w = divides q (any_solid ys) refl seen w
      go (text q) seen true = values y ys seen q g there
      go (text q) seen false = plainly y ys seen false q.row (and_none seen (none_and (any_solid ys) q.divider)) refl g here

  pub pieces : {xs : List Passed} → AllFine xs → Pieces xs × Pieces (later xs)
  unfolding later
  pieces done = (at-end, at-end)
  pieces (also {x = y} {xs = ys} f g) = both (pieces g)
    where
      go : Pieces (later ys) → Pieces (y ∷ ys) → (b : Bool) → Pieces (cond b (later ys) (y ∷ ys))
      go there here true = there
      go there here false = here

      both : Pieces ys × Pieces (later ys) → Pieces (y ∷ ys) × Pieces (later (y ∷ ys))
      both h = let here : Pieces (y ∷ ys) = piece f g h.0 h.1 in (here, go h.1 here (text_ahead (y ∷ ys)))
