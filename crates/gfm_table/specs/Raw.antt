-- The raw events of a row and of a head, over a table of kinds.
use Rattle.std.specs.Prelude.{ℕ, List, [], ◌∷◌, ◌++◌, false}
use Rattle.tokenizer.specs.declared.event.Point.{Point}
use Rattle.tokenizer.specs.declared.event.Event.{Event}
use Rattle.tokenizer.specs.Points.{past, next_line}
use Rattle.tokenizer.specs.Events.{LineEnding, GfmTableHead, GfmTableRow, GfmTableDelimiterRow, enter, leave}
use Rattle.tokenizer.specs.Lines.{Line}
use Rattle.gfm_table.specs.Rows.{Piece, Passed, Row, passed, both, raw_row, row_pieces, delimiter_pieces}

-- the row of the name n whose bytes are u, from a point on
abbrev pub row_at : ℕ → (List ℕ → List Piece) → Point → List ℕ → Row
row_at n pieces p u = record { entry = enter n p; pieces = passed p (pieces u); exit = leave n (past p u) }

-- a line end of n bytes at a point
abbrev pub line_end_at : Point → ℕ → Passed
line_end_at p n = record { entry = enter LineEnding p; exit = leave LineEnding (next_line p n) }

module _ (kind : ℕ → ℕ) where
  -- a head line or a body row
  abbrev pub text_row : Point → List ℕ → Row
  text_row = row_at GfmTableRow (row_pieces kind false)

  -- a delimiter row
  abbrev pub delimiter_row : Point → List ℕ → Row
  delimiter_row = row_at GfmTableDelimiterRow (delimiter_pieces kind)

  -- a delimiter row and the head's exit
  abbrev pub delimiter_events : Point → List ℕ → List Event
  delimiter_events p u = raw_row (delimiter_row p u) ++ leave GfmTableHead (past p u) ∷ []

  -- a head: its line, the line end, its delimiter row
  abbrev pub head_events : Point → Line → Line → List Event
  head_events p l d =
      let e = past p l.body in
      enter GfmTableHead p ∷ raw_row (text_row p l.body) ++ (both (line_end_at e l.end) ++ delimiter_events (next_line e l.end) d.body)
