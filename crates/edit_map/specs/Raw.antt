-- Question 10: the lists that are made of raw tables.
use Rattle.std.specs.Prelude.{ℕ, ◌≡◌, List, [], ◌∷◌, Bool, true, ◌||◌, ◌&&◌, eqb, leb}
use Rattle.tokenizer.specs.declared.event.Event.{Event}
use Rattle.tokenizer.specs.Events.{Data, GfmTableCellDivider, GfmTableDelimiterFiller, GfmTableDelimiterMarker, GfmTableDelimiterRow, GfmTableHead, GfmTableRow, LineEnding, SpaceOrTab}
use Rattle.gfm_table.specs.Rows.{Passed, Row}
use Rattle.edit_map.specs.Tables.{BodyRow, Table, raw_tables}

-- a record that enters the name n; its link is a known code
abbrev pub enters : ℕ → Event → Bool
enters n e = eqb e.kind 1 && (eqb e.name n && leb e.link 1)

-- a record that leaves the name n; its link is a known code
abbrev pub leaves : ℕ → Event → Bool
leaves n e = eqb e.kind 2 && (eqb e.name n && leb e.link 1)

-- the names of the pieces of a row
abbrev pub row_piece : ℕ → Bool
row_piece n = eqb n SpaceOrTab || eqb n GfmTableCellDivider || eqb n Data

-- the names of the pieces of a delimiter row
abbrev pub delimiter_piece : ℕ → Bool
delimiter_piece n = eqb n SpaceOrTab || eqb n GfmTableCellDivider || (eqb n GfmTableDelimiterMarker || eqb n GfmTableDelimiterFiller)

-- a piece is entered and left
pub record IsPiece (allowed : ℕ → Bool) (x : Passed) : Type 0 where
  pub known : allowed x.entry.name ≡ true
  pub enter : enters x.entry.name x.entry ≡ true
  pub leave : leaves x.entry.name x.exit ≡ true

-- no, one or more pieces
pub data ArePieces (allowed : ℕ → Bool) : List Passed → Type 0 where
  none : ArePieces allowed []
  piece : {x : Passed} {xs : List Passed} → IsPiece allowed x → ArePieces allowed xs → ArePieces allowed (x ∷ xs)

-- a row holds one or more pieces
pub record IsRow (n : ℕ) (allowed : ℕ → Bool) (r : Row) : Type 0 where
  pub enter : enters n r.entry ≡ true
  pub pieces : ArePieces allowed r.pieces
  pub some : (r.pieces ≡ [] → ⊥)
  pub leave : leaves n r.exit ≡ true

-- a line end is entered and left
pub record IsLineEnd (x : Passed) : Type 0 where
  pub enter : enters LineEnding x.entry ≡ true
  pub leave : leaves LineEnding x.exit ≡ true

-- pairs of line end and row
pub data AreRows : List BodyRow → Type 0 where
  none : AreRows []
  row : {b : BodyRow} {bs : List BodyRow} → IsLineEnd b.before → IsRow GfmTableRow row_piece b.row → AreRows bs → AreRows (b ∷ bs)

-- a head holding row, line end and delimiter row, then the body
pub record IsTable (t : Table) : Type 0 where
  pub enter : enters GfmTableHead t.entry ≡ true
  pub head : IsRow GfmTableRow row_piece t.head
  pub between : IsLineEnd t.between
  pub delimiter : IsRow GfmTableDelimiterRow delimiter_piece t.delimiter
  pub leave : leaves GfmTableHead t.exit ≡ true
  pub body : AreRows t.body

-- no, one or more tables
pub data AreTables : List Table → Type 0 where
  none : AreTables []
  table : {t : Table} {ts : List Table} → IsTable t → AreTables ts → AreTables (t ∷ ts)

-- the tables of a list that is made of raw tables
pub record Parsed (es : List Event) : Type 0 where
  pub tables : List Table
  pub good : AreTables tables
  pub raw : es ≡ raw_tables tables
