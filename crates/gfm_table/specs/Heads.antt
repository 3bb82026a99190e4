-- When two lines are a head, over a table of kinds.
use Rattle.std.specs.Prelude.{ℕ, ◌+◌, ◌-◌, List, [], ◌∷◌, Bool, true, false, cond, ◌||◌, ◌&&◌, not, eqb, leb, ltb, length}
use Rattle.tokenizer.specs.Points.{column_past}
use Rattle.tokenizer.specs.Events.{SpaceOrTab, GfmTableCellDivider}
use Rattle.tokenizer.specs.Lines.{Line, is_empty, is_space, indent, unindented, blank}
use Rattle.gfm_table.specs.Rows.{Piece, row_pieces}

-- ## The head line

-- whether a piece is a divider
abbrev pub is_divider : Piece → Bool
is_divider p = eqb p.name GfmTableCellDivider

-- the pieces that are no whitespace
unfoldable pub solid : List Piece → List Piece
solid [] = []
solid (p ∷ ps) = cond (eqb p.name SpaceOrTab) (solid ps) (p ∷ solid ps)

-- nothing, or one divider alone
abbrev pub lone_divider : List Piece → Bool
lone_divider [] = true
lone_divider (p ∷ []) = is_divider p
lone_divider (p ∷ q ∷ ps) = false

-- the number of dividers
unfoldable pub dividers : List Piece → ℕ
dividers [] = 0
dividers (p ∷ ps) = cond (is_divider p) (1 + dividers ps) (dividers ps)

-- 1 if the first is a divider
abbrev pub leading : List Piece → ℕ
leading [] = 0
leading (p ∷ ps) = cond (is_divider p) 1 0

-- 1 if something follows the last divider, or there is none
unfoldable pub trailing : List Piece → ℕ
trailing [] = 0
trailing (p ∷ []) = cond (is_divider p) 0 1
trailing (p ∷ q ∷ ps) = trailing (q ∷ ps)

-- 01's number of head cells: the dividers, less a leading one, and one more if something follows the last
abbrev pub cell_count : List Piece → ℕ
cell_count ps = dividers ps - leading ps + trailing ps

-- the first stretch dropped where it is empty and another follows: a divider leads
abbrev pub unled : List (List ℕ) → List (List ℕ)
unled [] = []
unled (c ∷ []) = c ∷ []
unled (c ∷ d ∷ cs) = cond (is_empty c) (d ∷ cs) (c ∷ d ∷ cs)

-- the last stretch dropped where it is empty: a divider trails
unfoldable pub untrailed : List (List ℕ) → List (List ℕ)
untrailed [] = []
untrailed (c ∷ []) = cond (is_empty c) [] (c ∷ [])
untrailed (c ∷ d ∷ cs) = c ∷ untrailed (d ∷ cs)

-- a byte put before the first stretch
abbrev pub on_stretch : ℕ → List (List ℕ) → List (List ℕ)
on_stretch b [] = (b ∷ []) ∷ []
on_stretch b (c ∷ cs) = (b ∷ c) ∷ cs

-- the last byte, or d where there is none
abbrev pub last_byte : ℕ → List ℕ → ℕ
last_byte d [] = d
last_byte d (b ∷ s) = last_byte b s

module _ (kind : ℕ → ℕ) where
  -- at most 3 units of indent
  abbrev pub shallow : List ℕ → Bool
  shallow s = leb (column_past 1 (indent kind s)) 4

  -- with the option on, at most 3 units of indent
  abbrev pub permitted : Bool → List ℕ → Bool
  permitted on s = not on || shallow s

  -- the cells of a head line, whitespace left out
  abbrev pub head_cells : List ℕ → ℕ
  head_cells s = cell_count (solid (row_pieces kind false s))

  -- the stretches between the pipes of a line
  unfoldable pub stretches : List ℕ → List (List ℕ)
  stretches [] = [] ∷ []
  stretches (b ∷ s) = cond (eqb (kind b) 3) ([] ∷ stretches s) (on_stretch b (stretches s))

  -- whitespace at the end taken off
  unfoldable pub untailed : List ℕ → List ℕ
  untailed [] = []
  untailed (b ∷ s) = cond (is_space kind b && blank kind s) [] (b ∷ untailed s)

  -- each stretch with the whitespace at both ends taken off
  unfoldable pub trimmed : List (List ℕ) → List (List ℕ)
  trimmed [] = []
  trimmed (c ∷ cs) = untailed (unindented kind c) ∷ trimmed cs

  -- what a delimiter line writes between its dividers, whitespace and the outer dividers off
  abbrev pub values : List ℕ → List (List ℕ)
  values s = untrailed (unled (trimmed (stretches s)))

  -- hyphens, with an optional colon behind
  unfoldable pub hyphens : List ℕ → Bool
  hyphens [] = false
  hyphens (b ∷ []) = eqb (kind b) 5
  hyphens (b ∷ c ∷ s) = eqb (kind b) 5 && ((is_empty s && eqb (kind c) 6) || hyphens (c ∷ s))

  -- an optional colon, one or more hyphens, an optional colon
  abbrev pub is_value : List ℕ → Bool
  is_value [] = false
  is_value (b ∷ s) = cond (eqb (kind b) 6) (hyphens s) (hyphens (b ∷ s))

  -- every stretch is a value
  unfoldable pub all_values : List (List ℕ) → Bool
  all_values [] = true
  all_values (c ∷ cs) = is_value c && all_values cs

  -- a colon or a pipe occurs
  unfoldable pub marked : List ℕ → Bool
  marked [] = false
  marked (b ∷ s) = eqb (kind b) 3 || (eqb (kind b) 6 || marked s)

  -- a delimiter line: indent permitted, a colon or a pipe in it, at least one value, and nothing but values
  abbrev pub is_delimiter_row : Bool → List ℕ → Bool
  is_delimiter_row on s = permitted on s && (marked s && (ltb 0 (length (values s)) && all_values (values s)))

  -- 1 none, 2 left, 3 right, 4 centre
  abbrev pub alignment : List ℕ → ℕ
  alignment [] = 1
  alignment (b ∷ s) =
      cond (eqb (kind b) 6)
      (cond (eqb (kind (last_byte b s)) 6) 4 2)
      (cond (eqb (kind (last_byte b s)) 6) 3 1)

  -- the alignments of some values
  unfoldable pub alignments : List (List ℕ) → List ℕ
  alignments [] = []
  alignments (c ∷ cs) = alignment c ∷ alignments cs

  -- questions 3 to 7 of two lines: the number of the first "no", or 0
  abbrev pub head_refusal : Bool → Bool → Line → Line → ℕ
  head_refusal on stray l d =
      cond (not (permitted on l.body)) 3
      (cond (eqb l.end 0 || lone_divider (solid (row_pieces kind false l.body))) 4
      (cond stray 5
      (cond (not (is_delimiter_row on d.body)) 6
      (cond (not (eqb (length (values d.body)) (head_cells l.body))) 7 0))))
