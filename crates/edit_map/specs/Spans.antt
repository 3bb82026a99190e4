-- How far a cell's text goes, by the bytes of its line.
use Rattle.std.specs.Prelude.{ℕ, ◌+◌, ◌≡◌, List, [], ◌∷◌, ◌++◌, Bool, false, ◌&&◌, not, eqb, length, drop}
use Rattle.tokenizer.specs.declared.event.Point.{Point}
use Rattle.tokenizer.specs.Lines.{line_body, unindented, blank}
use Rattle.tokenizer.specs.Points.{column_past, past}
use Rattle.tokenizer.specs.Events.{Data, GfmTableCellDivider, leave}
use Rattle.gfm_table.specs.Rows.{Piece, Passed, row_pieces, passed}
use Rattle.edit_map.specs.declared.cell_spans.Stop.{Stop}
use Rattle.edit_map.specs.Cells.{later, last_ahead}

module _ (kind : ℕ → ℕ) where
  -- whether a piece of the name n that ends at a place opens a cell: a divider between two pieces other than whitespace
  abbrev pub opens_at : List ℕ → Bool → ℕ → ℕ → Bool
  opens_at s seen n end = seen && (eqb n GfmTableCellDivider && not (blank kind (line_body (drop end s))))

  -- whether a text stands in front: a byte other than a pipe
  abbrev pub text_first : List ℕ → Bool
  text_first [] = false
  text_first (b ∷ u) = not (eqb (kind b) 3)

  -- whether a text comes next in what is left of a line, behind whitespace or without it
  abbrev pub text_next : List ℕ → Bool
  text_next u = text_first (unindented kind u)

  -- the pieces of a head line or a body row from a place on
  abbrev pub pieces_from : List ℕ → ℕ → List Piece
  pieces_from s i = row_pieces kind false (line_body (drop i s))

  -- a text that has reached a place goes on to r: what stands up to it is passed, and the last text before a divider is left there
  pub record Reaches (s : List ℕ) (from column : ℕ) (r : Stop) : Type 0 where
    pub text : List ℕ
    pub line : line_body (drop from s) ≡ text ++ line_body (drop r.at s)
    pub end : r.at ≡ from + length text
    pub wide : r.column ≡ column_past column text
    pub behind : (p : Point) → p.vs ≡ 0 → later (passed p (pieces_from s from)) ≡ passed (past p text) (pieces_from s r.at)
    pub last : (x : Passed) (p : Point) → p.vs ≡ 0 → x.exit ≡ leave Data p → (last_ahead x (passed p (pieces_from s from))).exit ≡ leave Data (past p text)

  -- a piece of a name that ends at a place: a text goes on to r, another piece ends there
  abbrev pub ReachesAs : ℕ → List ℕ → ℕ → ℕ → Stop → Type 0
  ReachesAs n s from column r = (n ≡ Data → Reaches s from column r) × ((n ≡ Data → ⊥) → r ≡ record { at = from; column = column })
