-- What the stream gives for a list of raw tables.
-- Assumes nothing.
use Prim.Native.Nat.{ℕ}
use mathlib.Core.Path.{◌≡◌, refl, sym, ap, ◌∙◌, subst}
use mathlib.Core.List.{List, [], ◌∷◌, ◌++◌, append_assoc}
use mathlib.Core.Bool.{Bool, true, false, ◌||◌, ◌&&◌}
use lib.Dec.{eqb, leb}
use borrow.Author.Tests.{eqb-true}
use Rattle.tokenizer.specs.declared.event.Event.{Event}
use Rattle.tokenizer.specs.Events.{GfmTable, GfmTableBody, GfmTableCellDivider, GfmTableDelimiterCell, GfmTableDelimiterRow, GfmTableHead, GfmTableRow, LineEnding, SpaceOrTab, enter, leave, point_of}
use Rattle.gfm_table.specs.Rows.{Passed, both, all_both, raw_row}
use Rattle.gfm_table.specs.Rows
use Rattle.edit_map.specs.declared.resolve_turn.Phase.TheVariants.{Out, Head, Row, RowExit, HeadExit, End, BodyLeave, TableLeave}
use Rattle.gfm_table.specs.declared.stream.Part.{Part}
use Rattle.edit_map.specs.Raw.{enters, leaves, row_piece, delimiter_piece, ArePieces, IsRow, IsLineEnd, AreRows, IsTable, AreTables}
use Rattle.edit_map.specs.Tables.{delimiter_inner, raw_tables, resolved_tables, BodyRow, Table, raw_body, raw_table, cells, cell_events, first_cell, first_point, resolved_row, resolved_text, resolved_rows, last_exit, resolved_body, resolved_table}
use Rattle.edit_map.proofs.Stream.{first}
use Rattle.edit_map.specs.Base.{is_row_name, is_text_name}
use Rattle.edit_map.specs.Turns.{plain, goes_on}
use Rattle.edit_map.specs.CellRows.{cell_of}
use Rattle.edit_map.proofs.Gives.{Gives, none, more, then, moved, turned, Sort, space, divider, text, Ends, AllFine, done, also, inner_of, some-cell, pieces}
use Rattle.edit_order.proofs.Bools.{both_true, either}

-- ## The names of pieces are of a sort

named-so : (k n : ℕ) (e : Event) → eqb e.kind k && (eqb e.name n && leb e.link 1) ≡ true → e.name ≡ n
named-so k n e h = eqb-true e.name n (both_true (eqb e.name n) (leb e.link 1) (both_true (eqb e.kind k) (eqb e.name n && leb e.link 1) h).1).0

-- a test that computes at a number holds of whatever is that number
sort_at : (n k : ℕ) → Sort k → eqb n k ≡ true → Sort n
sort_at n k s e = subst Sort (sym (eqb-true n k e)) s

a_space : Sort SpaceOrTab
a_space = space (record { row = refl; space = refl; divider = refl; text = refl })

a_divider : Sort GfmTableCellDivider
a_divider = divider (record { row = refl; space = refl; divider = refl; text = refl })

a_text : (n : ℕ) → is_text_name n ≡ true → is_row_name n ≡ false → eqb n SpaceOrTab ≡ false → eqb n GfmTableCellDivider ≡ false → Sort n
a_text n t r s d = text (record { row = r; space = s; divider = d; text = t })

pub sort_row : (n : ℕ) → row_piece n ≡ true → Sort n
sort_row n = either (eqb n 1 || eqb n 10) (eqb n 3) (either (eqb n 1) (eqb n 10) (sort_at n 1 a_space) (sort_at n 10 a_divider)) (sort_at n 3 (a_text 3 refl refl refl refl))

pub sort_delimiter : (n : ℕ) → delimiter_piece n ≡ true → Sort n
sort_delimiter n =
    either (eqb n 1 || eqb n 10) (eqb n 12 || eqb n 15) (either (eqb n 1) (eqb n 10) (sort_at n 1 a_space) (sort_at n 10 a_divider))
    (either (eqb n 12) (eqb n 15) (sort_at n 12 (a_text 12 refl refl refl refl)) (sort_at n 15 (a_text 15 refl refl refl refl)))

pub all-fine : {allowed : ℕ → Bool} → ((n : ℕ) → allowed n ≡ true → Sort n) → {xs : List Passed} → ArePieces allowed xs → AllFine xs
all-fine sort ArePieces.none = done
all-fine sort (ArePieces.piece {x = x} h hs) = also (record { same = named-so 2 x.entry.name x.exit h.leave; sort = sort x.entry.name h.known }) (all-fine sort hs)

ends-row : (e : Event) → leaves GfmTableRow e ≡ true → Ends e.name
ends-row e h = subst Ends (sym (named-so 2 GfmTableRow e h)) (record { row = refl; space = refl; divider = refl; text = refl })

ends-delimiter : (e : Event) → leaves GfmTableDelimiterRow e ≡ true → Ends e.name
ends-delimiter e h = subst Ends (sym (named-so 2 GfmTableDelimiterRow e h)) (record { row = refl; space = refl; divider = refl; text = refl })

-- ## A row

first-point : (xs : List Passed) (e : Event) (rest : List Event) → first_point (first_cell (cells false xs)) (point_of e) ≡ point_of (first (all_both xs ++ e ∷ rest))
unfolding cells all_both
first-point [] e rest = refl
first-point (x ∷ xs) e rest = refl

-- from a row's entry to before its exit
row_gives : (p : Part) (r : Rows.Row) (rest : List Event) → Ends r.exit.name → AllFine r.pieces
    → Gives (plain Row p) (r.entry ∷ all_both r.pieces ++ (r.exit ∷ rest)) (r.entry ∷ cell_events (cell_of p) (inner_of p) (point_of r.exit) (cells false r.pieces)) (plain RowExit p) (r.exit ∷ rest)
unfolding cell_events
row_gives p r rest ends fine = rw (some-cell false r.pieces, first-point r.pieces r.exit rest) (more refl (more refl ((pieces p r.exit rest ends fine).0 false true)))

-- ## A table's body

-- a row in front of other records
row_then : (r : Rows.Row) (es fs : List Event) → (raw_row r ++ es) ++ fs ≡ (r.entry ∷ all_both r.pieces) ++ (r.exit ∷ (es ++ fs))
row_then r es fs = append_assoc (raw_row r) es fs ∙ append_assoc (r.entry ∷ all_both r.pieces) (r.exit ∷ []) (es ++ fs)

-- the raw body in front of other records
unfoldable body_then : List BodyRow → List Event → List Event
body_then [] rest = rest
body_then (b ∷ bs) rest = b.before.entry ∷ b.before.exit ∷ b.row.entry ∷ all_both b.row.pieces ++ (b.row.exit ∷ body_then bs rest)

body_is : (bs : List BodyRow) (rest : List Event) → raw_body bs ++ rest ≡ body_then bs rest
unfolding raw_body body_then
body_is [] rest = refl
body_is (b ∷ bs) rest = ap (λ (l : List Event). b.before.entry ∷ b.before.exit ∷ l) (row_then b.row (raw_body bs) rest ∙ ap (λ (l : List Event). b.row.entry ∷ all_both b.row.pieces ++ (b.row.exit ∷ l)) (body_is bs rest))

-- the cells of a row
abbrev cells_of : Part → Rows.Row → List Event
cells_of p r = cell_events (cell_of p) (inner_of p) (point_of r.exit) (cells false r.pieces)

abbrev ending : Event → List Event
ending x = leave GfmTableBody (point_of x) ∷ leave GfmTable (point_of x) ∷ []

is-end : {x : Passed} → IsLineEnd x → goes_on x.entry ≡ true
is-end {x} h = rw (named-so 1 LineEnding x.entry h.enter)

text-row : (p : Part) {r : Rows.Row} (rest : List Event) → IsRow GfmTableRow row_piece r → Gives (plain Row p) (r.entry ∷ all_both r.pieces ++ (r.exit ∷ rest)) (r.entry ∷ cells_of p r) (plain RowExit p) (r.exit ∷ rest)
text-row p {r} rest h = row_gives p r rest (ends-row r.exit h.leave) (all-fine sort_row h.pieces)

-- the same for what is made of it
cells_then : (p : Part) (r : Rows.Row) (es : List Event) → resolved_row (cell_of p) (inner_of p) r ++ es ≡ (r.entry ∷ cells_of p r) ++ (r.exit ∷ es)
cells_then p r es = append_assoc (r.entry ∷ cells_of p r) (r.exit ∷ []) es

module _ (rest : List Event) (stops : goes_on (first rest) ≡ false) where
  -- from a body row's exit to the table's end
  rows_give : (x : Event) {bs : List BodyRow} → AreRows bs → Gives (plain RowExit Part.Body) (x ∷ body_then bs rest) (x ∷ resolved_rows bs ++ ending (last_exit x bs)) (plain Out Part.Head) rest
  unfolding body_then resolved_rows last_exit
  rows_give x AreRows.none = turned x (plain BodyLeave Part.Body) 0 refl (rw stops) (more refl (more refl none))
  rows_give x (AreRows.row {b = b} {bs = bs} l r h) =
      turned x (plain End Part.Body) 1 refl (rw (is-end l)) (more refl (more refl (moved refl (append_assoc (resolved_text b.row) (resolved_rows bs) (ending (last_exit b.row.exit bs)) ∙ cells_then Part.Body b.row (resolved_rows bs ++ ending (last_exit b.row.exit bs))) (then (text-row Part.Body (body_then bs rest) r) (rows_give b.row.exit h)))))

  -- from the head's exit to the table's end
  body-gives : (x : Event) {bs : List BodyRow} → AreRows bs → Gives (plain HeadExit Part.Delimiter) (x ∷ body_then bs rest) (x ∷ resolved_body x bs) (plain Out Part.Head) rest
  unfolding body_then
  body-gives x AreRows.none = turned x (plain TableLeave Part.Delimiter) 0 refl (rw stops) (more refl none)
  body-gives x (AreRows.row {b = b} {bs = bs} l r h) =
      turned x (plain End Part.Delimiter) 1 refl (rw (is-end l)) (more refl (more refl (more refl (moved refl (cells_then Part.Body b.row (resolved_rows bs ++ ending (last_exit b.row.exit bs))) (then (text-row Part.Body (body_then bs rest) r) (rows_give b.row.exit h))))))

-- a table in front of other records, and what is made of it, from left to right
raw-is : (t : Table) (rest : List Event) → raw_table t ++ rest ≡ t.entry ∷ t.head.entry ∷ all_both t.head.pieces ++ (t.head.exit ∷ t.between.entry ∷ t.between.exit ∷ t.delimiter.entry ∷ all_both t.delimiter.pieces ++ (t.delimiter.exit ∷ t.exit ∷ body_then t.body rest))
raw-is t rest =
    ap (λ (l : List Event). t.entry ∷ l)
    (row_then t.head (both t.between ++ (raw_row t.delimiter ++ (t.exit ∷ raw_body t.body))) rest
    ∙ ap (λ (l : List Event). t.head.entry ∷ all_both t.head.pieces ++ (t.head.exit ∷ t.between.entry ∷ t.between.exit ∷ l))
    (row_then t.delimiter (t.exit ∷ raw_body t.body) rest
    ∙ ap (λ (l : List Event). t.delimiter.entry ∷ all_both t.delimiter.pieces ++ (t.delimiter.exit ∷ t.exit ∷ l)) (body_is t.body rest)))

resolved-is : (t : Table) → resolved_table t ≡ enter GfmTable (point_of t.entry) ∷ t.entry ∷ (t.head.entry ∷ cells_of Part.Head t.head) ++ (t.head.exit ∷ t.between.entry ∷ t.between.exit ∷ (t.delimiter.entry ∷ cells_of Part.Delimiter t.delimiter) ++ (t.delimiter.exit ∷ t.exit ∷ resolved_body t.exit t.body))
resolved-is t =
    ap (λ (l : List Event). enter GfmTable (point_of t.entry) ∷ t.entry ∷ l)
    (cells_then Part.Head t.head (both t.between ++ (resolved_row GfmTableDelimiterCell delimiter_inner t.delimiter ++ (t.exit ∷ resolved_body t.exit t.body)))
    ∙ ap (λ (l : List Event). t.head.entry ∷ cells_of Part.Head t.head ++ (t.head.exit ∷ t.between.entry ∷ t.between.exit ∷ l))
    (cells_then Part.Delimiter t.delimiter (t.exit ∷ resolved_body t.exit t.body)))

enters-kind : (n : ℕ) (e : Event) → enters n e ≡ true → eqb e.kind 0 ≡ false
enters-kind n e h = rw (eqb-true e.kind 1 (both_true (eqb e.kind 1) (eqb e.name n && leb e.link 1) h).0)

table-gives : {t : Table} (rest : List Event) → goes_on (first rest) ≡ false → IsTable t → Gives (plain Out Part.Head) (raw_table t ++ rest) (resolved_table t) (plain Out Part.Head) rest
table-gives {t} rest stops h =
    moved (raw-is t rest) (resolved-is t)
    (turned (enter GfmTable (point_of t.entry)) (plain Head Part.Head) 0 (rw (enters-kind GfmTableHead t.entry h.enter)) (rw (enters-kind GfmTableHead t.entry h.enter))
    (more refl
    (then (text-row Part.Head _ h.head)
    (more refl (more refl (more refl
    (then (row_gives Part.Delimiter t.delimiter _ (ends-delimiter t.delimiter.exit h.delimiter.leave) (all-fine sort_delimiter h.delimiter.pieces))
    (more refl (body-gives rest stops t.exit h.body)))))))))

-- ## A list of tables

first_stops : {ts : List Table} → AreTables ts → goes_on (first (raw_tables ts)) ≡ false
unfolding raw_tables
first_stops AreTables.none = refl
first_stops (AreTables.table {t = t} h hs) = rw (named-so 1 GfmTableHead t.entry h.enter)

pub tables_give : {ts : List Table} → AreTables ts → Gives (plain Out Part.Head) (raw_tables ts) (resolved_tables ts) (plain Out Part.Head) []
unfolding raw_tables resolved_tables
tables_give AreTables.none = none
tables_give (AreTables.table {t = t} {ts = ts} h hs) = then (table-gives (raw_tables ts) (first_stops hs) h) (tables_give hs)
