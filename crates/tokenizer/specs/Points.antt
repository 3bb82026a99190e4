-- Points, and how they move over bytes.
use Rattle.std.specs.Prelude.{ℕ, ◌+◌, ◌/◌, ◌*◌, cond, List, [], ◌∷◌, eqb, length}
use Rattle.tokenizer.specs.declared.event.Point.{Point}
use Rattle.tokenizer.specs.declared.event.LineStart.{LineStart}

-- the start value of a point
abbrev pub start : Point
start = record { line = 1; column = 1; index = 0; vs = 0 }

-- the column after a byte in column c: a tab runs to the next column that is 1 more than a multiple of 4
unfoldable pub column_after : ℕ → ℕ → ℕ
column_after c b = cond (eqb b 9) ((c + 3) / 4 * 4 + 1) (c + 1)

-- the column after some bytes of a line
unfoldable pub column_past : ℕ → List ℕ → ℕ
column_past c [] = c
column_past c (b ∷ u) = column_past (column_after c b) u

-- the point after some bytes of a line
abbrev pub past : Point → List ℕ → Point
past p u = record { line = p.line; column = column_past p.column u; index = p.index + length u; vs = 0 }

-- the first point of the next line, after a line end of n bytes
abbrev pub next_line : Point → ℕ → Point
next_line p n = record { line = p.line + 1; column = 1; index = p.index + n; vs = 0 }

-- the point where a line starts
abbrev pub start_of : LineStart → Point
start_of w = record { line = w.line; column = 1; index = w.at; vs = 0 }
