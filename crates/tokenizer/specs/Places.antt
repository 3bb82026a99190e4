-- The lines of a sheet with the points where they start.
use Rattle.std.specs.Prelude.{ℕ, List, [], ◌∷◌, cond, eqb, drop}
use Rattle.tokenizer.specs.declared.event.Point.{Point}
use Rattle.tokenizer.specs.Points.{start, past, next_line}
use Rattle.tokenizer.specs.Lines.{Line, lines, first_start}
use Rattle.tokenizer.specs.Moves.{line_at, after}

-- a line and the point where it starts
pub record Placed : Type 0 where
  pub at : Point
  pub line : Line

-- where a line's bytes end
abbrev pub end_of : Placed → Point
end_of l = past l.at l.line.body

-- lines one after the other from a point on
unfoldable pub placed : Point → List Line → List Placed
placed p [] = []
placed p (l ∷ ls) = record { at = p; line = l } ∷ placed (next_line (past p l.body) l.end) ls

-- the lines from the one that starts at a point on
abbrev pub lines_from : List ℕ → Point → List Placed
lines_from s p = placed p (lines (drop p.index s))

-- the first point of a sheet: the start value, moved to where the first line starts
abbrev pub first_point : List ℕ → Point
first_point s = record { line = start.line; column = start.column; index = first_start s; vs = start.vs }

-- the lines of a sheet
abbrev pub placed_lines : List ℕ → List Placed
placed_lines s = lines_from s (first_point s)

-- the lines after the one that a point is in
abbrev pub lines_past : List ℕ → Point → List Placed
lines_past s p = cond (eqb (line_at s p).end 0) [] (lines_from s (after s p))
