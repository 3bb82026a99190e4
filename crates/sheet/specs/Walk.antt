-- The walk over a sheet's lines, over a table of kinds.
use Rattle.std.specs.Prelude.{ℕ, List, [], ◌∷◌, ◌++◌, Bool, false, cond, ◌&&◌, ◌||◌, not, eqb}
use Rattle.tokenizer.specs.declared.event.Event.{Event}
use Rattle.tokenizer.specs.Events.{GfmTableHead, enter, leave}
use Rattle.tokenizer.specs.Lines.{unindented, blank}
use Rattle.tokenizer.specs.Places.{Placed, end_of, placed_lines}
use Rattle.gfm_table.specs.Rows.{Passed}
use Rattle.gfm_table.specs.Heads.{shallow, head_refusal, values, alignments}
use Rattle.gfm_table.specs.Raw.{line_end_at, text_row, delimiter_row}
use Rattle.edit_map.specs.Tables.{BodyRow, Table, raw_table, resolved_table}

-- a table, and the alignments that its delimiter line tells
pub record Found : Type 0 where
  pub table : Table
  pub aligned : List ℕ

-- the line end behind a line
abbrev pub line_end : Placed → Passed
line_end l = line_end_at (end_of l) l.line.end

-- whether `>` stands in front
abbrev pub starts_quote : List ℕ → Bool
starts_quote [] = false
starts_quote (b ∷ u) = eqb b 62

module _ (kind : ℕ → ℕ) where
  -- a quoted remark, as request U3 has it: at most 3 units of indent, then `>`
  abbrev pub remark : List ℕ → Bool
  remark u = shallow kind u && starts_quote (unindented kind u)

  -- a blank line or a remark: it ends a table, and no head is tried at it
  unfoldable pub closes : List ℕ → Bool
  closes u = blank kind u || remark u

  -- the rows of the lines up to a blank one or a remark, each with the line end before it
  unfoldable pub body_rows : Placed → List Placed → List BodyRow
  body_rows l [] = []
  body_rows l (m ∷ ms) = cond (closes m.line.body) [] (record { before = line_end l; row = text_row kind m.at m.line.body } ∷ body_rows m ms)

  -- the table with the head line l and the delimiter line d, before other lines
  abbrev pub table_of : Placed → Placed → List Placed → Table
  table_of l d ls =
      record {
        entry = enter GfmTableHead l.at;
        head = text_row kind l.at l.line.body;
        between = line_end l;
        delimiter = delimiter_row kind d.at d.line.body;
        exit = leave GfmTableHead (end_of d);
        body = body_rows d ls;
      }

  module _ (on : Bool) where
    -- whether a line and the next are a head: it is neither blank nor a remark, and questions 3 to 7 are answered yes
    abbrev pub opens : Placed → Placed → Bool
    opens l d = not (closes l.line.body) && eqb (head_refusal kind on false l.line d.line) 0

    abbrev pub found : Placed → Placed → List Placed → Found
    found l d ls = record { table = table_of l d ls; aligned = alignments kind (values kind d.line.body) }

    unfoldable mutual
      -- the tables of some lines: at each line a head is tried, and if there is none it is prose
      pub heads : List Placed → List Found
      heads [] = []
      heads (l ∷ []) = []
      heads (l ∷ d ∷ ls) = cond (opens l d) (found l d ls ∷ rows ls) (heads (d ∷ ls))

      -- the tables behind a table's body, which ends at a blank line or a remark
      pub rows : List Placed → List Found
      rows [] = []
      rows (l ∷ ls) = cond (closes l.line.body) (heads ls) (rows ls)

    -- the tables of a sheet
    abbrev pub tables : List ℕ → List Found
    tables s = heads (placed_lines s)

-- ## All tables

-- their raw events
unfoldable pub raw_of : List Found → List Event
raw_of [] = []
raw_of (f ∷ fs) = raw_table f.table ++ raw_of fs

-- their result events
unfoldable pub resolved_of : List Found → List Event
resolved_of [] = []
resolved_of (f ∷ fs) = resolved_table f.table ++ resolved_of fs

-- their alignments
unfoldable pub aligned_of : List Found → List ℕ
aligned_of [] = []
aligned_of (f ∷ fs) = f.aligned ++ aligned_of fs
