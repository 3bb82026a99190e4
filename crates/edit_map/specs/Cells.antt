-- The cells of a row, piece by piece: what is left of their events inside a cell that was entered.
use Rattle.std.specs.Prelude.{ℕ, List, [], ◌∷◌, ◌++◌, Bool, true, false, cond, ◌||◌, ◌&&◌, not}
use Rattle.tokenizer.specs.declared.event.Point.{Point}
use Rattle.tokenizer.specs.declared.event.Event.{Event}
use Rattle.tokenizer.specs.Events.{GfmTableCellDivider, GfmTableCellText, GfmTableDelimiterCellValue, enter, leave, linked, point_of}
use Rattle.tokenizer.specs.Slots.{event_if}
use Rattle.gfm_table.specs.Rows.{Passed}
use Rattle.edit_map.specs.Tables.{named, is_text, any_solid, any_text, cells, first_cell, other_cells, delimiter_inner, boundary, cell_events}

-- ## What is ahead of a piece

-- a text comes before the first divider
unfoldable pub text_ahead : List Passed → Bool
text_ahead [] = false
text_ahead (x ∷ xs) = is_text x || (not (named GfmTableCellDivider x) && text_ahead xs)

-- the pieces after the last text before the first divider
unfoldable pub later : List Passed → List Passed
later [] = []
later (x ∷ xs) = cond (text_ahead (x ∷ xs)) (later xs) (x ∷ xs)

-- the last text before the first divider, or x
unfoldable pub last_ahead : Passed → List Passed → Passed
last_ahead x [] = x
last_ahead x (y ∷ ys) = cond (text_ahead (y ∷ ys)) (last_ahead y ys) x

-- ## What is left of a row

-- the events from inside the first of some cells on, where within makes those of what is left of it
abbrev pub from_within : (List Passed → List Event) → ℕ → (List Passed → List Event) → Point → List (List Passed) → List Event
from_within within n inner p cs = within (first_cell cs) ++ leave n (boundary (other_cells cs) p) ∷ cell_events n inner p (other_cells cs)

-- the events of what is left of a row: xs its pieces to come, seen whether one other than whitespace came before
abbrev pub tail : ℕ → (List Passed → List Event) → Point → Bool → List Passed → List Event
tail n inner p seen xs = from_within inner n inner p (cells seen xs)

-- a value is left behind a mark
abbrev pub value_left : Bool → Passed → List Event
value_left ends x = event_if ends (leave GfmTableDelimiterCellValue (point_of x.exit))

-- the pieces of a cell in whose value a mark came: the value is left after the last mark
unfoldable pub marked : List Passed → List Event
marked [] = []
marked (x ∷ xs) = x.entry ∷ x.exit ∷ value_left (is_text x && not (any_text xs)) x ++ marked xs

-- the pieces of a cell that waits for a mark, or had one
abbrev pub marks_inner : Bool → List Passed → List Event
marks_inner true = delimiter_inner
marks_inner false = marked

-- the events of what is left of a delimiter row, inside a cell that waits for a mark or had one
abbrev pub tail_marks : ℕ → Point → Bool → Bool → List Passed → List Event
tail_marks n p waits seen xs = from_within (marks_inner waits) n delimiter_inner p (cells seen xs)

-- ## One piece

-- whether a piece opens a cell, xs the pieces behind it
abbrev pub opens_cell : Bool → Passed → List Passed → Bool
opens_cell seen x xs = seen && (named GfmTableCellDivider x && any_solid xs)

-- the cell before a piece is left and the next one is entered, where the piece opens it
abbrev pub cell_opened : ℕ → Bool → Point → List Event
cell_opened n opens p = event_if opens (leave n p) ++ event_if opens (enter n p)

-- the events of a piece of a head line or a body row, or of a text with all that it takes with it: entered by e and left by l
abbrev pub row_turn : ℕ → Bool → Bool → Event → Event → List Event
row_turn n opens text e l = cell_opened n opens (point_of e) ++ (event_if text (enter GfmTableCellText (point_of e)) ++ (cond text (linked e) e ∷ l ∷ event_if text (leave GfmTableCellText (point_of l))))

-- the events of a piece of a delimiter row, entered by e and left by l: a value begins before it, or ends behind it
abbrev pub mark_turn : ℕ → Bool → Bool → Bool → Event → Event → List Event
mark_turn n opens begins ends e l = cell_opened n opens (point_of e) ++ (event_if begins (enter GfmTableDelimiterCellValue (point_of e)) ++ (e ∷ l ∷ event_if ends (leave GfmTableDelimiterCellValue (point_of l))))
