-- The resolver as a stream: what one turn gives, by the mode and the records at hand.
use Rattle.std.specs.Prelude.{ℕ, ◌-◌, Bool, true, false, cond, ◌||◌, ◌&&◌, not, eqb}
use Rattle.tokenizer.specs.declared.event.Event.{Event}
use Rattle.tokenizer.specs.Events.{GfmTable, GfmTableBody, GfmTableCellDivider, LineEnding, SpaceOrTab, enter, leave, linked, point_of}
use Rattle.edit_map.specs.declared.resolve_turn.Phase.{Phase}
use Rattle.edit_map.specs.declared.resolve_turn.Phase.TheVariants.{Out, Head, Row, Cell, Piece, Exit, Text, Copy, Leave, RowExit, HeadExit, End, EndExit, Open, BodyLeave, TableLeave}
use Rattle.gfm_table.specs.declared.stream.Part.{Part}
use Rattle.edit_map.specs.declared.resolve_turn.Mode.{Mode}
use Rattle.edit_map.specs.declared.resolve_turn.Turn.{Turn}
use Rattle.edit_map.specs.Base.{is_row_name, is_text_name}
use Rattle.edit_map.specs.CellRows.{cell_of, value_of}

-- the phase before a table
abbrev pub is_out : Phase → Bool
is_out Out = true
is_out _ = false

-- ## One turn

-- a delimiter row's value is copied; a row's text is linked, and what lies between its ends is passed
abbrev pub value_phase : Part → Phase
value_phase Part.Head = Text
value_phase Part.Delimiter = Copy
value_phase Part.Body = Text

-- a phase outside a row's cells
abbrev pub plain : Phase → Part → Mode
plain h p = record { phase = h; part = p; seen = false; waits = false; left = 0 }

-- the same mode in another phase, with n records of the value left
abbrev pub to : Mode → Phase → ℕ → Mode
to m h n = record { phase = h; part = m.part; seen = m.seen; waits = m.waits; left = n }

-- a turn that gives one record and passes n
abbrev pub given : Event → Mode → ℕ → Turn
given e m n = record { event = e; mode = m; by = n }

-- a cell is left
abbrev pub leave_cell : Part → Event → Phase → Turn
leave_cell p this then = given (leave (cell_of p) (point_of this)) (plain then p) 0

-- a cell is entered
abbrev pub enter_cell : Part → Event → Turn
enter_cell p this = given (enter (cell_of p) (point_of this)) (record { phase = Piece; part = p; seen = false; waits = true; left = 0 }) 0

-- a value is entered
abbrev pub enter_value : Part → Event → ℕ → Turn
enter_value p this ahead = given (enter (value_of p) (point_of this)) (record { phase = value_phase p; part = p; seen = true; waits = false; left = ahead }) 0

-- a piece's entry is copied
abbrev pub copy_piece : Mode → Event → Turn
copy_piece m this = given this (record { phase = Exit; part = m.part; seen = m.seen || not (eqb this.name SpaceOrTab); waits = m.waits; left = 0 }) 1

-- at a piece's entry, or at the row's exit: a cell ends, a cell opens, a value opens, or the record is copied
unfoldable pub piece_turn : Mode → Event → ℕ → Bool → Turn
piece_turn m this ahead solid =
    cond (is_row_name this.name) (leave_cell m.part this RowExit)
    (cond (m.seen && (eqb this.name GfmTableCellDivider && solid)) (leave_cell m.part this Cell)
    (cond (m.waits && is_text_name this.name) (enter_value m.part this ahead)
    (copy_piece m this)))

-- a line end's entry follows
abbrev pub goes_on : Event → Bool
goes_on next = eqb next.name LineEnding

-- a row's exit is copied; at the end of a body it stays at hand
abbrev pub row_exit_turn : Part → Event → Event → Turn
row_exit_turn Part.Head this next = given this (plain End Part.Head) 1
row_exit_turn Part.Delimiter this next = given this (plain HeadExit Part.Delimiter) 1
row_exit_turn Part.Body this next = cond (goes_on next) (given this (plain End Part.Body) 1) (given this (plain BodyLeave Part.Body) 0)

-- a head's exit is copied; at the end of a table it stays at hand
abbrev pub head_exit_turn : Event → Event → Turn
head_exit_turn this next = cond (goes_on next) (given this (plain End Part.Delimiter) 1) (given this (plain TableLeave Part.Delimiter) 0)

-- before a table, or at the end of the list, where the blank record that is read there is given
abbrev pub out_turn : Mode → Event → Turn
out_turn m this = cond (eqb this.kind 0) (given this m 0) (given (enter GfmTable (point_of this)) (plain Head Part.Head) 0)

-- a value is copied up to its last exit, after which it is left
abbrev pub copy_turn : Mode → Event → Turn
copy_turn m this = cond (eqb m.left 0) (given this (to m Leave 0) 0) (given this (to m Copy (m.left - 1)) 1)

-- a line end's exit is copied, and a row follows
abbrev pub end_exit_turn : Part → Event → Turn
end_exit_turn Part.Head this = given this (plain Row Part.Delimiter) 1
end_exit_turn Part.Delimiter this = given this (plain Open Part.Body) 1
end_exit_turn Part.Body this = given this (plain Row Part.Body) 1

-- one turn in a phase
abbrev pub turn_in : Phase → Mode → Event → Event → ℕ → Bool → Turn
turn_in Out m this next ahead solid = out_turn m this
turn_in Head m this next ahead solid = given this (plain Row Part.Head) 1
turn_in Row m this next ahead solid = given this (plain Cell m.part) 1
turn_in Cell m this next ahead solid = enter_cell m.part this
turn_in Piece m this next ahead solid = piece_turn m this ahead solid
turn_in Exit m this next ahead solid = given this (to m Piece 0) 1
turn_in Text m this next ahead solid = given (linked this) (to m Copy 0) m.left
turn_in Copy m this next ahead solid = copy_turn m this
turn_in Leave m this next ahead solid = given (leave (value_of m.part) (point_of this)) (to m Piece 0) 1
turn_in RowExit m this next ahead solid = row_exit_turn m.part this next
turn_in HeadExit m this next ahead solid = head_exit_turn this next
turn_in End m this next ahead solid = given this (plain EndExit m.part) 1
turn_in EndExit m this next ahead solid = end_exit_turn m.part this
turn_in Open m this next ahead solid = given (enter GfmTableBody (point_of this)) (plain Row Part.Body) 0
turn_in BodyLeave m this next ahead solid = given (leave GfmTableBody (point_of this)) (plain TableLeave Part.Body) 0
turn_in TableLeave m this next ahead solid = given (leave GfmTable (point_of this)) (plain Out Part.Head) 1

-- one turn of a mode
abbrev pub turn_of : Mode → Event → Event → ℕ → Bool → Turn
turn_of m this next ahead solid = turn_in m.phase m this next ahead solid

-- ## The stream over what is left of the list
