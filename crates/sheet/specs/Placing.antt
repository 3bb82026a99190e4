-- The raw events of tables, written to slots by places.
use Rattle.std.specs.Prelude.{ℕ, ◌+◌, ◌≤◌, ◌≡◌, List, [], ◌++◌, length}
use Rattle.tokenizer.specs.declared.event.Point.{Point}
use Rattle.tokenizer.specs.declared.event.Event.{Event}
use Rattle.tokenizer.specs.Places.{lines_past}
use Rattle.tokenizer.specs.Moves.{rest_of, line_at, after, Inside}
use Rattle.gfm_table.specs.declared.stream.Part.{Part}
use Rattle.gfm_table.specs.Rows.{both, raw_row}
use Rattle.gfm_table.specs.Raw.{row_at, head_events}
use Rattle.gfm_table.specs.Stream.{name_of, pieces_of}
use Rattle.gfm_table.specs.Places.{point_in}
use Rattle.edit_map.specs.Tables.{Table, raw_body}
use Rattle.sheet.specs.declared.tables.Written.{Written}
use Rattle.sheet.specs.Walk.{line_end, body_rows, table_of}
use Rattle.sheet.specs.From.{here}

-- the point where the writing has come to
abbrev pub point_at : Written → Point
point_at w = point_in w.line w.at w.column

-- the writing at a point, with the slot k next
abbrev pub written_at : Point → ℕ → Written
written_at p k = record { line = p.line; at = p.index; column = p.column; slot = k }

-- the writing has come to the end of a line
pub record AtEnd (s : List ℕ) (w : Written) : Type 0 where
  pub inside : Inside s (point_at w)
  pub rest : rest_of s (point_at w) ≡ []

-- the slots that some events take from the slot k on have small numbers
abbrev pub Few : ℕ → List Event → Type 0
Few k es = k + length es ≤ 4294967295

-- the events of the end of a point's line
abbrev pub break_events : List ℕ → Point → List Event
break_events s p = both (line_end (here s p))

module _ (kind : ℕ → ℕ) (s : List ℕ) where
  -- the events of a row
  abbrev pub row_events : Part → Point → List Event
  row_events t p = raw_row (row_at (name_of t) (pieces_of kind t) p (rest_of s p))

  -- those of a line's end and of the row of the next line
  abbrev pub next_events : Part → Point → List Event
  next_events t p = break_events s p ++ row_events t (after s p)

  -- those of a head
  abbrev pub heads_events : Point → List Event
  heads_events p = head_events kind p (line_at s p) (line_at s (after s p))

  -- those of the body rows after the line of a point
  abbrev pub rows_after : Point → List Event
  rows_after p = raw_body (body_rows kind (here s p) (lines_past s p))

  -- the table whose head line starts at a point
  abbrev pub table_at : Point → Table
  table_at p = table_of kind (here s p) (here s (after s p)) (lines_past s (after s p))
