-- The tables that a list of raw tables is made of, read from its end.
use Rattle.std.specs.Prelude.{ℕ, List, [], ◌∷◌, cond, eqb}
use Rattle.tokenizer.specs.declared.event.Event.{Event}
use Rattle.tokenizer.specs.Events.{LineEnding, GfmTableHead, blank_event}
use Rattle.gfm_table.specs.Rows.{Passed, Row}
use Rattle.edit_map.specs.Base.{is_row_name}
use Rattle.edit_map.specs.Tables.{BodyRow, Table, resolved_tables}

-- the exit that was read last; a row's exit and pieces; the row that was read last; pairs of line end and row; a head's exit and the pairs behind it; whole tables
pub record Behind : Type 0 where
  pub last : Event
  pub leave : Event
  pub pieces : List Passed
  pub row : Row
  pub pairs : List BodyRow
  pub exit : Event
  pub body : List BodyRow
  pub tables : List Table

-- the end of the list
abbrev pub nothing : Behind
nothing = record { last = blank_event; leave = blank_event; pieces = []; row = record { entry = blank_event; pieces = []; exit = blank_event }; pairs = []; exit = blank_event; body = []; tables = [] }

-- a piece's exit, or a line end's
abbrev pub exit_of : Event → Behind → Behind
exit_of e b = record { last = e; leave = b.leave; pieces = b.pieces; row = b.row; pairs = b.pairs; exit = b.exit; body = b.body; tables = b.tables }

-- a row's exit
abbrev pub row_exit : Event → Behind → Behind
row_exit e b = record { last = b.last; leave = e; pieces = []; row = b.row; pairs = b.pairs; exit = b.exit; body = b.body; tables = b.tables }

-- a head's exit: the pairs behind it are the body
abbrev pub head_exit : Event → Behind → Behind
head_exit e b = record { last = b.last; leave = b.leave; pieces = b.pieces; row = b.row; pairs = []; exit = e; body = b.pairs; tables = b.tables }

-- a piece's entry
abbrev pub piece_entry : Event → Behind → Behind
piece_entry e b = record { last = b.last; leave = b.leave; pieces = record { entry = e; exit = b.last } ∷ b.pieces; row = b.row; pairs = b.pairs; exit = b.exit; body = b.body; tables = b.tables }

-- a row's entry
abbrev pub row_entry : Event → Behind → Behind
row_entry e b = record { last = b.last; leave = b.leave; pieces = b.pieces; row = record { entry = e; pieces = b.pieces; exit = b.leave }; pairs = b.pairs; exit = b.exit; body = b.body; tables = b.tables }

-- a line end's entry, before the row that was read last
abbrev pub line_entry : Event → Behind → Behind
line_entry e b = record { last = b.last; leave = b.leave; pieces = b.pieces; row = b.row; pairs = record { before = record { entry = e; exit = b.last }; row = b.row } ∷ b.pairs; exit = b.exit; body = b.body; tables = b.tables }

-- a table of its head's entry and what lies behind: the first pair is that of the delimiter row
abbrev pub table_of : Event → Behind → List BodyRow → List Table
table_of e b [] = []
table_of e b (d ∷ ds) = record { entry = e; head = b.row; between = d.before; delimiter = d.row; exit = b.exit; body = b.body } ∷ b.tables

-- a head's entry: a table is whole
abbrev pub head_entry : Event → Behind → Behind
head_entry e b = record { last = b.last; leave = b.leave; pieces = b.pieces; row = b.row; pairs = []; exit = b.exit; body = []; tables = table_of e b b.pairs }

-- an entry of the name n
abbrev pub entered : ℕ → Event → Behind → Behind
entered n e b = cond (is_row_name n) (row_entry e b) (cond (eqb n LineEnding) (line_entry e b) (cond (eqb n GfmTableHead) (head_entry e b) (piece_entry e b)))

-- an exit of the name n
abbrev pub left : ℕ → Event → Behind → Behind
left n e b = cond (is_row_name n) (row_exit e b) (cond (eqb n GfmTableHead) (head_exit e b) (exit_of e b))

-- what lies behind the front of a list
unfoldable pub behind : List Event → Behind
behind [] = nothing
behind (e ∷ es) = cond (eqb e.kind 1) (entered e.name e (behind es)) (left e.name e (behind es))

-- the tables of a list
abbrev pub tables_of : List Event → List Table
tables_of es = (behind es).tables

-- what resolving makes of a list of raw tables
abbrev pub resolved_list : List Event → List Event
resolved_list es = resolved_tables (tables_of es)
