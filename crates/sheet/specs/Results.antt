-- The result events of a table, row by row.
use Rattle.std.specs.Prelude.{ℕ, List, [], ◌∷◌, ◌++◌}
use Rattle.tokenizer.specs.declared.event.Point.{Point}
use Rattle.tokenizer.specs.declared.event.Event.{Event}
use Rattle.tokenizer.specs.Events.{GfmTable, GfmTableHead, enter, leave}
use Rattle.tokenizer.specs.Places.{end_of, lines_past}
use Rattle.tokenizer.specs.Moves.{rest_of, after}
use Rattle.gfm_table.specs.declared.stream.Part.{Part}
use Rattle.gfm_table.specs.declared.stream.Part.TheVariants.{Delimiter, Body}
use Rattle.gfm_table.specs.Raw.{row_at}
use Rattle.gfm_table.specs.Stream.{name_of, pieces_of}
use Rattle.edit_map.specs.Tables.{BodyRow, resolved_row}
use Rattle.edit_map.specs.CellRows.{cell_of, inside_of}
use Rattle.sheet.specs.Walk.{body_rows}
use Rattle.sheet.specs.From.{here}
use Rattle.sheet.specs.Placing.{break_events}

module _ (kind : ℕ → ℕ) (s : List ℕ) where
  -- the result events of the row at a point
  abbrev pub row_result : Part → Point → List Event
  row_result t p = resolved_row (cell_of t) (inside_of t) (row_at (name_of t) (pieces_of kind t) p (rest_of s p))

  -- of the table whose head line starts at a point, up to its head's exit
  abbrev pub head_result : Point → List Event
  head_result p =
      enter GfmTable p ∷ enter GfmTableHead p ∷ (row_result Body p ++ (break_events s p
      ++ (row_result Delimiter (after s p) ++ leave GfmTableHead (end_of (here s (after s p))) ∷ [])))

  -- the body rows after the line of a point
  abbrev pub body_after : Point → List BodyRow
  body_after p = body_rows kind (here s p) (lines_past s p)
