-- Demand 3: what holds of whole sheets, over a table of kinds. `tables kind on s` are the tables of the sheet s, as the walk comes to them.
use Rattle.std.specs.Prelude.{ℕ, ◌+◌, ◌≤◌, ◌<◌, ◌≡◌, ◌↔◌, Bool, true, false, cond, ◌&&◌, ◌||◌, not, eqb, leb, ltb, length, drop}
use mathlib.Core.List.{List, [], ◌∷◌, ◌++◌, Memᴰ}
use Rattle.std.proofs.Math.Option.{some}
use Rattle.tokenizer.specs.declared.event.Point.{Point}
use Rattle.tokenizer.specs.declared.event.Event.{Event}
use Rattle.tokenizer.specs.Bytes.{is_end, kind_in}
use Rattle.tokenizer.specs.Events.{SpaceOrTab, LineEnding, Data, GfmTableRow, GfmTableCell, GfmTableCellDivider, GfmTableDelimiterRow, GfmTableDelimiterMarker, GfmTableDelimiterCellValue, GfmTableDelimiterFiller, point_of}
use Rattle.tokenizer.specs.Lines.{bom, first_start, starts_line, line_number, blank}
use Rattle.tokenizer.specs.Places.{Placed, placed_lines}
use Rattle.gfm_table.specs.Heads.{head_refusal, head_cells, values}
use Rattle.edit_map.specs.Tables.{BodyRow, Table, raw_table, resolved_table, last_exit}
use Rattle.edit_map.specs.Align.{is_entry, is_exit, table_alignments}
use Rattle.sheet.specs.Walk.{Found, remark, closes, found, opens, tables, raw_of, resolved_of}

-- two lists as long as each other, their elements related one by one
module _ {A B : Type 0} where
  pub data Each (R : A → B → Type 0) : List A → List B → Type 0 where
    none : Each R [] []
    more : {a : A} {b : B} {xs : List A} {ys : List B} → R a b → Each R xs ys → Each R (a ∷ xs) (b ∷ ys)

-- two events, equal but for their points, which are related
pub record Alike (R : Point → Point → Type 0) (e f : Event) : Type 0 where
  pub kind : e.kind ≡ f.kind
  pub name : e.name ≡ f.name
  pub link : e.link ≡ f.link
  pub point : R (point_of e) (point_of f)

-- ## Line starts

-- a line of the sheet s that starts at offset a: where it stands among the sheet's lines, and its number
pub record LineFrom (s : List ℕ) (a : ℕ) : Type 0 where
  pub above : List Placed
  pub line : Placed
  pub below : List Placed
  pub split : placed_lines s ≡ above ++ line ∷ below
  pub from : line.at.index ≡ a
  pub number : line.at.line ≡ line_number s a

-- a line starts where the first one does and after each line end
abbrev pub Starts : Type 0
Starts = (s : List ℕ) (a : ℕ) → starts_line s a ≡ true → LineFrom s a

-- ## Two sheets that agree from a line start of each to the end

-- there is no line, or the last one is blank
unfoldable pub blank_last : (ℕ → ℕ) → List Placed → Bool
blank_last kind [] = true
blank_last kind (l ∷ []) = blank kind l.line.body
blank_last kind (l ∷ m ∷ ls) = blank_last kind (m ∷ ls)

-- a line of the sheet s starts at offset a, and a blank line or no line stands before it
pub record Fresh (kind : ℕ → ℕ) (s : List ℕ) (a : ℕ) : Type 0 where
  pub from : LineFrom s a
  pub gap : blank_last kind from.above ≡ true

-- the tables whose head line begins at offset a or later
unfoldable pub tables_from : ℕ → List Found → List Found
tables_from a [] = []
tables_from a (f ∷ fs) = cond (leb a f.table.entry.index) (f ∷ tables_from a fs) (tables_from a fs)

-- the line differs as m and n do, the index as a and b do, column and vs are equal
pub record Shifted (m n a b : ℕ) (u v : Point) : Type 0 where
  pub line : u.line + n ≡ v.line + m
  pub column : u.column ≡ v.column
  pub index : u.index + b ≡ v.index + a
  pub vs : u.vs ≡ v.vs

-- the same raw events, result events and alignments, but for related points
pub record SameTable (R : Point → Point → Type 0) (f g : Found) : Type 0 where
  pub raw : Each (Alike R) (raw_table f.table) (raw_table g.table)
  pub resolved : Each (Alike R) (resolved_table f.table) (resolved_table g.table)
  pub aligned : f.aligned ≡ g.aligned

-- from there on they have the same tables, shifted
abbrev pub Beyond : (ℕ → ℕ) → Type 0
Beyond kind =
    (on : Bool) (s t : List ℕ) (a b : ℕ) → Fresh kind s a → Fresh kind t b → drop a s ≡ drop b t
    → Each (SameTable (Shifted (line_number s a) (line_number t b) a b)) (tables_from a (tables kind on s)) (tables_from b (tables kind on t))

-- a byte order mark before a sheet whose first line starts at 0: the same tables, moved by its three bytes
abbrev pub BomPassed : (ℕ → ℕ) → Type 0
BomPassed kind = (on : Bool) (s : List ℕ) → first_start s ≡ 0 → Each (SameTable (Shifted 1 1 3 0)) (tables kind on (bom ++ s)) (tables kind on s)

-- ## Rows

-- GfmTableRow or GfmTableDelimiterRow
abbrev pub is_row : ℕ → Bool
is_row n = eqb n GfmTableRow || eqb n GfmTableDelimiterRow

-- an event that enters a row
abbrev pub enters_row : Event → Bool
enters_row e = eqb e.kind 1 && is_row e.name

-- an event that leaves a row
abbrev pub leaves_row : Event → Bool
leaves_row e = eqb e.kind 2 && is_row e.name

-- the events up to the first that leaves a row, with it
unfoldable pub through_row : List Event → List Event
through_row [] = []
through_row (e ∷ es) = cond (leaves_row e) (e ∷ []) (e ∷ through_row es)

-- the rows among some events, each from its entering to its leaving
unfoldable pub rows_in : List Event → List (List Event)
rows_in [] = []
rows_in (e ∷ es) = cond (enters_row e) ((e ∷ through_row es) ∷ rows_in es) (rows_in es)

-- where a row is entered
abbrev pub begins : List Event → ℕ
begins [] = 0
begins (e ∷ es) = e.index

-- ## A body line exchanged for another line that is neither blank nor a remark

-- one of these tables has a body row from offset a to offset b
pub record BodyLine (fs : List Found) (a b : ℕ) : Type 0 where
  pub found : Found
  pub row : BodyRow
  pub among : Memᴰ found fs
  pub within : Memᴰ row found.table.body
  pub from : row.row.entry.index ≡ a
  pub to : row.row.exit.index ≡ b

-- no byte of a line end, so that these bytes are a single line
unfoldable pub plain : List ℕ → Bool
plain [] = true
plain (b ∷ u) = not (is_end b) && plain u

-- the index differs as `old` and `new` do, line, column and vs are equal
pub record Moved (old new : ℕ) (u v : Point) : Type 0 where
  pub line : u.line ≡ v.line
  pub column : u.column ≡ v.column
  pub index : u.index + new ≡ v.index + old
  pub vs : u.vs ≡ v.vs

-- a row and its counterpart: the same before the line that begins at offset a, and moved behind it; of that line's own row nothing is said
pub record OtherRow (a old new : ℕ) (es fs : List Event) : Type 0 where
  pub before : begins es < a → es ≡ fs
  pub behind : a < begins es → Each (Alike (Moved old new)) es fs

-- as many rows, raw and resolved, matched by place, and the same alignments
pub record OtherRows (a old new : ℕ) (f g : Found) : Type 0 where
  pub raw : Each (OtherRow a old new) (rows_in (raw_table f.table)) (rows_in (raw_table g.table))
  pub resolved : Each (OtherRow a old new) (rows_in (resolved_table f.table)) (rows_in (resolved_table g.table))
  pub aligned : f.aligned ≡ g.aligned

-- as many tables, and all other rows as they were: the line `old` between x and y, with its line end in y, becomes `new`
abbrev pub Exchange : (ℕ → ℕ) → Type 0
Exchange kind =
    (on : Bool) (x old new y : List ℕ) → BodyLine (tables kind on (x ++ (old ++ y))) (length x) (length x + length old)
    → plain new ≡ true → closes kind new ≡ false
    → Each (OtherRows (length x) (length old) (length new)) (tables kind on (x ++ (old ++ y))) (tables kind on (x ++ (new ++ y)))

-- ## In each table: columns

-- how many of these events enter the name n
unfoldable pub entered : ℕ → List Event → ℕ
entered n [] = 0
entered n (e ∷ es) = cond (is_entry n e) 1 0 + entered n es

-- the first of some rows
abbrev pub first_row : List (List Event) → List Event
first_row [] = []
first_row (r ∷ rs) = r

-- the two lines that are a table's head, and five counts that are equal and at least 1
pub record Counted (kind : ℕ → ℕ) (s : List ℕ) (f : Found) : Type 0 where
  pub above : List Placed
  pub head : Placed
  pub delimiter : Placed
  pub below : List Placed
  pub split : placed_lines s ≡ above ++ head ∷ delimiter ∷ below
  pub begins : point_of f.table.entry ≡ head.at
  pub some : 0 < length f.aligned
  pub counted : head_cells kind head.line.body ≡ length f.aligned
  pub written : length (values kind delimiter.line.body) ≡ length f.aligned
  pub cells : entered GfmTableCell (first_row (rows_in (resolved_table f.table))) ≡ length f.aligned
  pub values : entered GfmTableDelimiterCellValue (resolved_table f.table) ≡ length f.aligned

-- ## In each table: pieces

-- the names of the pieces that bytes lie in
abbrev pub is_piece : ℕ → Bool
is_piece n = eqb n SpaceOrTab || eqb n LineEnding || eqb n Data || eqb n GfmTableCellDivider || eqb n GfmTableDelimiterMarker || eqb n GfmTableDelimiterFiller

-- an event that enters a piece
abbrev pub enters_piece : Event → Bool
enters_piece e = eqb e.kind 1 && is_piece e.name

-- the offset where the name n is left first
unfoldable pub left_at : ℕ → List Event → ℕ
left_at n [] = 0
left_at n (e ∷ es) = cond (is_exit n e) e.index (left_at n es)

-- how many of the pieces that these events enter hold the byte at offset i: from where a piece is entered up to where it is left
unfoldable pub holding : ℕ → List Event → ℕ
holding i [] = 0
holding i (e ∷ es) = cond (enters_piece e && (leb e.index i && ltb i (left_at e.name es))) 1 0 + holding i es

-- the offset where a table's last row ends
abbrev pub last_end : Table → ℕ
last_end t = (last_exit t.delimiter.exit t.body).index

-- each byte of a table, from its head line's first to its last row's end, lies in one piece of these events
abbrev pub Covers : List Event → Table → Type 0
Covers es t = (i : ℕ) → t.entry.index ≤ i → i < last_end t → holding i es ≡ 1

-- in one piece of the table's events, and in no other piece of the sheet's
pub record Covered (fs : List Found) (t : Table) : Type 0 where
  pub raw : Covers (raw_table t) t
  pub resolved : Covers (resolved_table t) t
  pub raw_all : Covers (raw_of fs) t
  pub resolved_all : Covers (resolved_of fs) t

-- the columns and the pieces of a table
pub record InTable (kind : ℕ → ℕ) (on : Bool) (s : List ℕ) (f : Found) : Type 0 where
  pub columns : Counted kind s f
  pub pieces : Covered (tables kind on s) f.table

-- each table of a sheet
abbrev pub InEach : (ℕ → ℕ) → Type 0
InEach kind = (on : Bool) (s : List ℕ) (f : Found) → Memᴰ f (tables kind on s) → InTable kind on s f

-- ## Alignments

-- the alignments that a table's delimiter line writes are those that `align` reads off its result events
abbrev pub Told : (ℕ → ℕ) → Type 0
Told kind = (on : Bool) (s : List ℕ) (f : Found) → Memᴰ f (tables kind on s) → table_alignments (resolved_table f.table) ≡ some f.aligned

-- ## The lines of a sheet

-- none of these lines is blank or a remark
unfoldable pub none_closes : (ℕ → ℕ) → List Placed → Bool
none_closes kind [] = true
none_closes kind (l ∷ ls) = not (closes kind l.line.body) && none_closes kind ls

-- there is no line, or the first one is blank or a remark
abbrev pub closes_first : (ℕ → ℕ) → List Placed → Bool
closes_first kind [] = true
closes_first kind (l ∷ ls) = closes kind l.line.body

-- a head is refused at the line l before the lines ls: none follows it, or one of questions 3 to 7 is answered no
abbrev pub refused : (ℕ → ℕ) → Bool → Placed → List Placed → Bool
refused kind on l [] = true
refused kind on l (d ∷ ls) = not (eqb (head_refusal kind on false l.line d.line) 0)

-- some lines and their tables: each line is blank, or prose, as a remark or where a head is refused, or a head line, a delimiter line or a body row of one table
pub data Read (kind : ℕ → ℕ) (on : Bool) : List Placed → List Found → Type 0 where
  end : Read kind on [] []
  gap : {l : Placed} {ls : List Placed} {fs : List Found} → blank kind l.line.body ≡ true → Read kind on ls fs → Read kind on (l ∷ ls) fs
  quoted : {l : Placed} {ls : List Placed} {fs : List Found} → remark kind l.line.body ≡ true → Read kind on ls fs → Read kind on (l ∷ ls) fs
  prose : {l : Placed} {ls : List Placed} {fs : List Found} → closes kind l.line.body ≡ false → refused kind on l ls ≡ true → Read kind on ls fs → Read kind on (l ∷ ls) fs
  table : (l d : Placed) (bs ls : List Placed) {fs : List Found} → opens kind on l d ≡ true → none_closes kind bs ≡ true → closes_first kind ls ≡ true → Read kind on ls fs
      → Read kind on (l ∷ d ∷ bs ++ ls) (found kind on l d bs ∷ fs)

-- the tables of a sheet are those, and only those, that are read so
abbrev pub Walked : (ℕ → ℕ) → Type 0
Walked kind = (on : Bool) (s : List ℕ) (fs : List Found) → (fs ≡ tables kind on s) ↔ Read kind on (placed_lines s) fs

-- the delimiter line of a table is no remark; its head line and its rows are none by `opens` and by where a body ends
abbrev pub NoRemark : (ℕ → ℕ) → Type 0
NoRemark kind = (on : Bool) (l d : Placed) → opens kind on l d ≡ true → remark kind d.line.body ≡ false

-- ## The whole demand

-- its three sentences, and what they rest on
pub record Demand (kind : ℕ → ℕ) : Type 0 where
  pub beyond : Beyond kind
  pub exchange : Exchange kind
  pub in_each : InEach kind
  pub starts : Starts
  pub told : Told kind
  pub walked : Walked kind
  pub unquoted : kind 62 ≡ 0 → NoRemark kind
  pub bom_passed : BomPassed kind

-- by a table of kinds that passes: the demand, and its last sentence without the condition
pub record DemandBy (t : List ℕ) : Type 0 where
  pub demand : Demand (kind_in t)
  pub no_remark : NoRemark (kind_in t)
