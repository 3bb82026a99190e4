-- Events and their names.
use Rattle.std.specs.Prelude.{ℕ, cond, eqb}
use Rattle.tokenizer.specs.declared.event.Point.{Point}
use Rattle.tokenizer.specs.declared.event.Event.{Event}
use Rattle.tokenizer.specs.declared.event.Name.{Name}

abbrev pub SpaceOrTab : ℕ
SpaceOrTab = 1

abbrev pub LineEnding : ℕ
LineEnding = 2

abbrev pub Data : ℕ
Data = 3

abbrev pub GfmTable : ℕ
GfmTable = 4

abbrev pub GfmTableBody : ℕ
GfmTableBody = 5

abbrev pub GfmTableHead : ℕ
GfmTableHead = 6

abbrev pub GfmTableRow : ℕ
GfmTableRow = 7

abbrev pub GfmTableCell : ℕ
GfmTableCell = 8

abbrev pub GfmTableCellText : ℕ
GfmTableCellText = 9

abbrev pub GfmTableCellDivider : ℕ
GfmTableCellDivider = 10

abbrev pub GfmTableDelimiterRow : ℕ
GfmTableDelimiterRow = 11

abbrev pub GfmTableDelimiterMarker : ℕ
GfmTableDelimiterMarker = 12

abbrev pub GfmTableDelimiterCell : ℕ
GfmTableDelimiterCell = 13

abbrev pub GfmTableDelimiterCellValue : ℕ
GfmTableDelimiterCellValue = 14

abbrev pub GfmTableDelimiterFiller : ℕ
GfmTableDelimiterFiller = 15

-- the number of a name
abbrev pub number : Name → ℕ
number Name.SpaceOrTab = 1
number Name.LineEnding = 2
number Name.Data = 3
number Name.GfmTable = 4
number Name.GfmTableBody = 5
number Name.GfmTableHead = 6
number Name.GfmTableRow = 7
number Name.GfmTableCell = 8
number Name.GfmTableCellText = 9
number Name.GfmTableCellDivider = 10
number Name.GfmTableDelimiterRow = 11
number Name.GfmTableDelimiterMarker = 12
number Name.GfmTableDelimiterCell = 13
number Name.GfmTableDelimiterCellValue = 14
number Name.GfmTableDelimiterFiller = 15

-- the name with a number
abbrev pub named : ℕ → Name
named n =
    cond (eqb n 1) Name.SpaceOrTab
    (cond (eqb n 2) Name.LineEnding
    (cond (eqb n 3) Name.Data
    (cond (eqb n 4) Name.GfmTable
    (cond (eqb n 5) Name.GfmTableBody
    (cond (eqb n 6) Name.GfmTableHead
    (cond (eqb n 7) Name.GfmTableRow
    (cond (eqb n 8) Name.GfmTableCell
    (cond (eqb n 9) Name.GfmTableCellText
    (cond (eqb n 10) Name.GfmTableCellDivider
    (cond (eqb n 11) Name.GfmTableDelimiterRow
    (cond (eqb n 12) Name.GfmTableDelimiterMarker
    (cond (eqb n 13) Name.GfmTableDelimiterCell
    (cond (eqb n 14) Name.GfmTableDelimiterCellValue
    Name.GfmTableDelimiterFiller)))))))))))))

-- a slot that holds no event
abbrev pub blank_event : Event
blank_event = record { kind = 0; name = 0; line = 0; column = 0; index = 0; vs = 0; link = 0 }

-- the name n is entered at a point
abbrev pub enter : ℕ → Point → Event
enter n p = record { kind = 1; name = n; line = p.line; column = p.column; index = p.index; vs = p.vs; link = 0 }

-- the name n is left at a point
abbrev pub leave : ℕ → Point → Event
leave n p = record { kind = 2; name = n; line = p.line; column = p.column; index = p.index; vs = p.vs; link = 0 }

-- the point of an event
abbrev pub point_of : Event → Point
point_of e = record { line = e.line; column = e.column; index = e.index; vs = e.vs }

-- the same event with the text link
abbrev pub linked : Event → Event
linked e = record { kind = e.kind; name = e.name; line = e.line; column = e.column; index = e.index; vs = e.vs; link = 1 }
