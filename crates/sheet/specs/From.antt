-- The next head from a line on.
use Rattle.std.specs.Prelude.{ℕ, ◌≡◌, List, [], ◌∷◌, Bool, false, cond, ◌&&◌, not, eqb, length, drop, Option, Some, None}
use Rattle.tokenizer.specs.declared.event.Point.{Point}
use Rattle.tokenizer.specs.Lines.{line_body}
use Rattle.tokenizer.specs.Places.{Placed, lines_from, lines_past}
use Rattle.tokenizer.specs.Moves.{line_at, after, Inside}
use Rattle.gfm_table.specs.Rows.{row_pieces}
use Rattle.gfm_table.specs.Heads.{solid, lone_divider, head_cells, permitted, is_delimiter_row, values}
use Rattle.tokenizer.specs.Points.{start_of}
use Rattle.sheet.specs.declared.seek.Opening.{Opening}
use Rattle.sheet.specs.Walk.{closes, found, heads, rows}

-- the first point of a line
pub record AtLine (s : List ℕ) (p : Point) : Type 0 where
  pub inside : Inside s p
  pub first : p.column ≡ 1

-- the line that starts at a point
abbrev pub here : List ℕ → Point → Placed
here s p = record { at = p; line = line_at s p }

module _ (kind : ℕ → ℕ) where
  -- whether the line at the place i has n cells and more than a lone divider
  abbrev pub is_head_line : List ℕ → ℕ → ℕ → Bool
  is_head_line s i n = let u = line_body (drop i s) in not (lone_divider (solid (row_pieces kind false u))) && eqb n (head_cells kind u)

  -- the number n, where it is so; otherwise 0
  abbrev pub columns_if : List ℕ → ℕ → ℕ → ℕ
  columns_if s i n = cond (is_head_line s i n) n 0

  -- the columns of the head whose line starts at the place i and whose delimiter row at d, 0 where they are no head
  abbrev pub columns_of : List ℕ → Bool → ℕ → ℕ → ℕ
  columns_of s on i d =
      let u = line_body (drop i s) in
      let v = line_body (drop d s) in
      cond (is_delimiter_row kind on v && (permitted kind on u && not (closes kind u))) (columns_if s i (length (values kind v))) 0

-- where a head's line starts
abbrev pub opening_point : Opening → Point
opening_point o = start_of o.head

module _ (kind : ℕ → ℕ) where
  -- the tables from the line p on begin with the one that o opens
  pub record Opens (s : List ℕ) (on : Bool) (p : Point) (o : Opening) : Type 0 where
    pub at : AtLine s (opening_point o)
    pub ended : (line_at s (opening_point o)).end ≡ 0 → ⊥
    pub delimiter : o.delimiter ≡ (after s (opening_point o)).index
    pub columns : o.columns ≡ length (values kind (line_body (drop o.delimiter s)))
    pub tables :
        heads kind on (lines_from s p)
        ≡ found kind on (here s (opening_point o)) (here s (after s (opening_point o))) (lines_past s (after s (opening_point o))) ∷ rows kind on (lines_past s (after s (opening_point o)))

  -- the first head from a line on, or that there is none
  abbrev pub Finds : List ℕ → Bool → Point → Option Opening → Type 0
  Finds s on p (Some o) = Opens s on p o
  Finds s on p None = heads kind on (lines_from s p) ≡ []
