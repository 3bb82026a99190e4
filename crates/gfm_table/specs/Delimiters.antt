-- What the promises about delimiter rows cite: the first stretch of a line, and what it is.
use Rattle.std.specs.Prelude.{ℕ, ◌+◌, List, [], ◌∷◌, Bool, true, cond, ◌&&◌, eqb, length, Option, Some, None}
use Rattle.tokenizer.specs.Events
use Rattle.gfm_table.specs.Rows.{Piece, delimiter_name, delimiter_pieces}
use Rattle.tokenizer.specs.Moves.{rest_of}
use Rattle.tokenizer.specs.declared.event.Point.{Point}
use Rattle.gfm_table.specs.declared.delimiter.Cell.{Cell}
use Rattle.gfm_table.specs.declared.delimiter.Cell.TheVariants.{Empty, Value}
use Rattle.gfm_table.specs.declared.delimiter.Values.{Values}
use Rattle.tokenizer.specs.Points.{past}
use Rattle.tokenizer.specs.Lines.{is_empty, indent, unindented, blank}
use Rattle.gfm_table.specs.Machine.{pipe_first}
use Rattle.gfm_table.specs.Heads.{untailed, hyphens, is_value, stretches, trimmed, untrailed, all_values, values, marked, is_delimiter_row}

module _ (kind : ℕ → ℕ) where
  -- the bytes up to the first pipe
  unfoldable pub stretch : List ℕ → List ℕ
  stretch [] = []
  stretch (b ∷ u) = cond (eqb (kind b) 3) [] (b ∷ stretch u)

  -- what follows a value's hyphens in its stretch: an optional colon and whitespace
  abbrev pub closes : List ℕ → Bool
  closes [] = true
  closes (b ∷ u) = cond (eqb (kind b) 6) (blank kind (stretch u)) (blank kind (stretch (b ∷ u)))

  -- a colon in front
  abbrev pub colon : List ℕ → List ℕ
  colon [] = []
  colon (b ∷ u) = cond (eqb (kind b) 6) (b ∷ []) []

module _ (kind : ℕ → ℕ) where
  -- the stretch as it is written, whitespace off at both ends
  abbrev pub written : List ℕ → List ℕ
  written u = untailed kind (unindented kind (stretch kind u))

  -- a value where the rest of its stretch is right
  abbrev pub value_if : Bool → Point → List ℕ → Option Cell
  value_if b p u = cond b (Some (Value (past p (stretch kind u)))) None

  -- a value that is written to its end: only whitespace may be left of its stretch
  abbrev pub blank_at : Point → List ℕ → Option Cell
  blank_at p u = value_if (blank kind (stretch kind u)) p u

  -- a value behind its hyphens
  abbrev pub closed_at : Point → List ℕ → Option Cell
  closed_at p u = value_if (closes kind u) p u

  -- a value at its hyphens, behind an optional colon
  abbrev pub hyphens_at : Point → List ℕ → Option Cell
  hyphens_at p u = value_if (hyphens kind (untailed kind (stretch kind u))) p u

  -- the first stretch: nothing but whitespace, a value, or something else
  abbrev pub cell_at : Point → List ℕ → Option Cell
  cell_at p u = cond (is_empty (written u)) (Some (Empty (past p (stretch kind u)))) (value_if (is_value kind (written u)) p u)

  -- n values and those of some stretches, where each is one
  abbrev pub count_if : List (List ℕ) → ℕ → Point → Option Values
  count_if cs n e = cond (all_values kind cs) (Some (record { count = n + length cs; end = e })) None

  -- the stretches that are left after n values
  abbrev pub rest_at : ℕ → Point → List ℕ → Option Values
  rest_at n p u = count_if (untrailed (trimmed kind (stretches kind u))) n (past p u)

  -- the values of a line, the outer dividers taken off, where each stretch is one
  abbrev pub values_at : Point → List ℕ → Option Values
  values_at p u = count_if (values kind u) 0 (past p u)

  -- the number of values of a delimiter row and its end, or that the line is none
  abbrev pub delimiter_at : Bool → Point → List ℕ → Option Values
  delimiter_at on p u = cond (is_delimiter_row kind on u) (Some (record { count = length (values kind u); end = past p u })) None

  -- ## Values, counted by the places of their bytes

  -- the end of the stretch at the place i if it is a value
  abbrev pub value_end : ℕ → List ℕ → Option ℕ
  value_end i u = cond (is_value kind (written u)) (Some (i + length (stretch kind u))) None

  -- n values and those of the stretches that are left, or 0 where one is none
  abbrev pub rest_count : ℕ → List ℕ → ℕ
  rest_count n u = let cs = untrailed (trimmed kind (stretches kind u)) in cond (all_values kind cs) (n + length cs) 0

  -- where the stretches of the line u begin, which starts at the place i: behind its whitespace and a divider, if one stands there, or at i
  abbrev pub values_start : ℕ → List ℕ → ℕ
  values_start i u = cond (pipe_first kind (unindented kind u)) (i + length (indent kind u) + 1) i

  -- the values of a line, the outer dividers taken off, or 0 where a stretch is none, or the line has no colon and no divider
  abbrev pub value_count : List ℕ → ℕ
  value_count u = cond (marked kind u && all_values kind (values kind u)) (length (values kind u)) 0

-- a number above 0, or none
abbrev pub positive : ℕ → Option ℕ
positive n = cond (eqb n 0) None (Some n)

-- ## Pieces

module _ (kind : ℕ → ℕ) where
  -- the bytes in front that are named fillers
  unfoldable pub filler_run : List ℕ → List ℕ
  filler_run [] = []
  filler_run (b ∷ u) = cond (eqb (delimiter_name kind b) Events.GfmTableDelimiterFiller) (b ∷ filler_run u) []

  -- what stands behind them
  unfoldable pub filler_rest : List ℕ → List ℕ
  filler_rest [] = []
  filler_rest (b ∷ u) = cond (eqb (delimiter_name kind b) Events.GfmTableDelimiterFiller) (filler_rest u) (b ∷ u)

-- the pieces of a delimiter line from a point on
abbrev pub delimiter_pieces_at : (ℕ → ℕ) → List ℕ → Point → List Piece
delimiter_pieces_at kind s p = delimiter_pieces kind (rest_of s p)
