-- Resolving at most doubles the events of a table.
-- Assumes nothing.
use Prim.Native.Nat.{ℕ, ◌+◌, ◌*◌, ◌≤◌}
use mathlib.Core.Path.{◌≡◌, refl}
use mathlib.Core.List.{List, [], ◌∷◌, ◌++◌}
use mathlib.Core.Bool.{false}
use native.Mathlib.Omega.{arith}
use lib.ListN.{length, length-append}
use Rattle.tokenizer.specs.declared.event.Event.{Event}
use Rattle.tokenizer.specs.Events.{GfmTableBody, GfmTable, GfmTableCell, GfmTableDelimiterCell, leave, point_of}
use Rattle.gfm_table.specs.Rows.{Passed, Row, both, all_both, raw_row}
use Rattle.edit_map.specs.Tables.{BodyRow, Table, raw_body, raw_table, cells, delimiter_inner, cell_events, resolved_row, resolved_text, resolved_rows, last_exit, resolved_body, resolved_table}
use Rattle.edit_map.proofs.Cells.{Inner, row-inner, delimiter-inner, cells-few}

-- two events a piece
both_long : (xs : List Passed) → length (all_both xs) ≡ 2 * length xs
unfolding all_both
both_long [] = refl
both_long (x ∷ xs) = omega (arith, both_long xs)

raw_long : (r : Row) → length (raw_row r) ≡ 2 * length r.pieces + 2
raw_long r = omega (arith, length-append (all_both r.pieces) (r.exit ∷ []), both_long r.pieces)

-- a row
row_doubles : (n : ℕ) {inner : List Passed → List Event} → Inner inner → (r : Row) → length (resolved_row n inner r) ≤ 2 * length (raw_row r)
row_doubles n {inner} i r =
    let es = cell_events n inner (point_of r.exit) (cells false r.pieces) in
    omega (arith, length-append es (r.exit ∷ []), cells-few n (point_of r.exit) i r.pieces, raw_long r)

-- body rows
rows_double : (bs : List BodyRow) → length (resolved_rows bs) ≤ 2 * length (raw_body bs)
unfolding resolved_rows raw_body
rows_double [] = omega arith
rows_double (b ∷ bs) =
    omega (arith, length-append (resolved_text b.row) (resolved_rows bs), length-append (raw_row b.row) (raw_body bs), row_doubles GfmTableCell row-inner b.row, rows_double bs)

-- a body, with its entry and its end
body_doubles : (e : Event) (bs : List BodyRow) → length (resolved_body e bs) ≤ 2 * length (raw_body bs) + 1
unfolding raw_body
body_doubles e [] = omega arith
body_doubles e (b ∷ bs) =
    let x = last_exit b.row.exit bs in
    let l = leave GfmTableBody (point_of x) ∷ leave GfmTable (point_of x) ∷ [] in
    omega (arith, length-append (resolved_text b.row) (resolved_rows bs ++ l), length-append (resolved_rows bs) l, length-append (raw_row b.row) (raw_body bs), row_doubles GfmTableCell row-inner b.row, rows_double bs)

-- a table
pub table_doubles : (t : Table) → length (resolved_table t) ≤ 2 * length (raw_table t)
table_doubles t =
    let d = resolved_row GfmTableDelimiterCell delimiter_inner t.delimiter in
    let b = t.exit ∷ resolved_body t.exit t.body in
    let c = t.exit ∷ raw_body t.body in
    omega (
      arith,
      length-append (resolved_text t.head) (both t.between ++ (d ++ b)),
      length-append d b,
      length-append (raw_row t.head) (both t.between ++ (raw_row t.delimiter ++ c)),
      length-append (raw_row t.delimiter) c,
      row_doubles GfmTableCell row-inner t.head,
      row_doubles GfmTableDelimiterCell delimiter-inner t.delimiter,
      body_doubles t.exit t.body,
    )
