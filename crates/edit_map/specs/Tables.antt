-- Raw tables as lists of events, and what resolving makes of them.
use Rattle.std.specs.Prelude.{ℕ, List, [], ◌∷◌, ◌++◌, Bool, true, false, cond, ◌||◌, ◌&&◌, not, eqb}
use Rattle.tokenizer.specs.declared.event.Point.{Point}
use Rattle.tokenizer.specs.declared.event.Event.{Event}
use Rattle.tokenizer.specs.Events.{Data, GfmTable, GfmTableBody, GfmTableCell, GfmTableCellDivider, GfmTableCellText, GfmTableDelimiterCell, GfmTableDelimiterCellValue, GfmTableDelimiterFiller, GfmTableDelimiterMarker, SpaceOrTab, enter, leave, linked, point_of}
use Rattle.gfm_table.specs.Rows.{Passed, Row, both, all_both, raw_row}

-- a body row, with the line end before it
pub record BodyRow : Type 0 where
  pub before : Passed
  pub row : Row

-- a table: a head that holds a row, a line end and a delimiter row, and the body
pub record Table : Type 0 where
  pub entry : Event
  pub head : Row
  pub between : Passed
  pub delimiter : Row
  pub exit : Event
  pub body : List BodyRow

-- the events of a body in order
unfoldable pub raw_body : List BodyRow → List Event
raw_body [] = []
raw_body (b ∷ bs) = both b.before ++ (raw_row b.row ++ raw_body bs)

-- the events of a table in order
abbrev pub raw_table : Table → List Event
raw_table t = t.entry ∷ (raw_row t.head ++ (both t.between ++ (raw_row t.delimiter ++ (t.exit ∷ raw_body t.body))))

-- ## Cells

-- a piece of the name n
abbrev pub named : ℕ → Passed → Bool
named n x = eqb x.entry.name n

-- a piece of a cell's text, or of a delimiter value
abbrev pub is_text : Passed → Bool
is_text x = named Data x || named GfmTableDelimiterMarker x || named GfmTableDelimiterFiller x

-- a piece other than whitespace
abbrev pub is_solid : Passed → Bool
is_solid x = not (named SpaceOrTab x)

-- one of some pieces is no whitespace
unfoldable pub any_solid : List Passed → Bool
any_solid [] = false
any_solid (x ∷ xs) = is_solid x || any_solid xs

-- one of some pieces is text
unfoldable pub any_text : List Passed → Bool
any_text [] = false
any_text (x ∷ xs) = is_text x || any_text xs

-- the first of some cells
abbrev pub first_cell : List (List Passed) → List Passed
first_cell [] = []
first_cell (c ∷ cs) = c

-- the others
abbrev pub other_cells : List (List Passed) → List (List Passed)
other_cells [] = []
other_cells (c ∷ cs) = cs

-- a piece goes in front of the first cell
abbrev pub before : Passed → List (List Passed) → List (List Passed)
before x cs = (x ∷ first_cell cs) ∷ other_cells cs

-- a divider opens a cell where something other than whitespace stands before it and behind it in the row
unfoldable pub cells : Bool → List Passed → List (List Passed)
cells seen [] = [] ∷ []
cells seen (x ∷ xs) =
    cond (seen && (named GfmTableCellDivider x && any_solid xs))
    ([] ∷ before x (cells true xs))
    (before x (cells (seen || is_solid x) xs))

-- the last text piece, or l
unfoldable pub last_text : Passed → List Passed → Passed
last_text l [] = l
last_text l (x ∷ xs) = cond (any_text (x ∷ xs)) (last_text x xs) l

-- what stands behind the last text piece
unfoldable pub after_text : List Passed → List Passed
after_text [] = []
after_text (x ∷ xs) = cond (any_text (x ∷ xs)) (after_text xs) (x ∷ xs)

-- what stands up to the last text piece
unfoldable pub upto_text : List Passed → List Passed
upto_text [] = []
upto_text (x ∷ xs) = cond (any_text (x ∷ xs)) (x ∷ upto_text xs) []

-- the events inside a row's cell: what lies between its text's first entry, which gets the link, and its last exit is removed
unfoldable pub row_inner : List Passed → List Event
row_inner [] = []
row_inner (x ∷ xs) =
    cond (is_text x)
    (enter GfmTableCellText (point_of x.entry) ∷ linked x.entry ∷ (last_text x xs).exit ∷ leave GfmTableCellText (point_of (last_text x xs).exit) ∷ all_both (after_text xs))
    (x.entry ∷ x.exit ∷ row_inner xs)

-- the events inside a delimiter row's cell: a value encloses its pieces
unfoldable pub delimiter_inner : List Passed → List Event
delimiter_inner [] = []
delimiter_inner (x ∷ xs) =
    cond (is_text x)
    (enter GfmTableDelimiterCellValue (point_of x.entry) ∷ all_both (x ∷ upto_text xs) ++ leave GfmTableDelimiterCellValue (point_of (last_text x xs).exit) ∷ all_both (after_text xs))
    (x.entry ∷ x.exit ∷ delimiter_inner xs)

-- where a cell starts; one without pieces at the point p
abbrev pub first_point : List Passed → Point → Point
first_point [] p = p
first_point (x ∷ xs) p = point_of x.entry

-- where the cell before these cells is left
abbrev pub boundary : List (List Passed) → Point → Point
boundary [] p = p
boundary (c ∷ cs) p = first_point c p

-- the events of cells, each entered and left by the name n; the last is left at the point p
unfoldable pub cell_events : ℕ → (List Passed → List Event) → Point → List (List Passed) → List Event
cell_events n inner p [] = []
cell_events n inner p (c ∷ cs) = enter n (first_point c p) ∷ inner c ++ leave n (boundary cs p) ∷ cell_events n inner p cs

-- the events of a row with its cells
abbrev pub resolved_row : ℕ → (List Passed → List Event) → Row → List Event
resolved_row n inner r = r.entry ∷ cell_events n inner (point_of r.exit) (cells false r.pieces) ++ (r.exit ∷ [])

-- the events of a head row or a body row
abbrev pub resolved_text : Row → List Event
resolved_text = resolved_row GfmTableCell row_inner

-- the events of body rows
unfoldable pub resolved_rows : List BodyRow → List Event
resolved_rows [] = []
resolved_rows (b ∷ bs) = both b.before ++ (resolved_text b.row ++ resolved_rows bs)

-- the exit of the last row, or e
unfoldable pub last_exit : Event → List BodyRow → Event
last_exit e [] = e
last_exit e (b ∷ bs) = last_exit b.row.exit bs

-- a body opens at the first body row, if any, and the table is left where its last row is
abbrev pub resolved_body : Event → List BodyRow → List Event
resolved_body e [] = leave GfmTable (point_of e) ∷ []
resolved_body e (b ∷ bs) =
    both b.before ++ (enter GfmTableBody (point_of b.row.entry) ∷ (resolved_text b.row ++ (resolved_rows bs
    ++ (leave GfmTableBody (point_of (last_exit b.row.exit bs)) ∷ leave GfmTable (point_of (last_exit b.row.exit bs)) ∷ []))))

-- the events of a table, resolved
abbrev pub resolved_table : Table → List Event
resolved_table t =
    enter GfmTable (point_of t.entry) ∷ t.entry ∷ (resolved_text t.head ++ (both t.between
    ++ (resolved_row GfmTableDelimiterCell delimiter_inner t.delimiter ++ (t.exit ∷ resolved_body t.exit t.body))))

-- the events of tables in order
unfoldable pub raw_tables : List Table → List Event
raw_tables [] = []
raw_tables (t ∷ ts) = raw_table t ++ raw_tables ts

-- the events of tables, resolved
unfoldable pub resolved_tables : List Table → List Event
resolved_tables [] = []
resolved_tables (t ∷ ts) = resolved_table t ++ resolved_tables ts
