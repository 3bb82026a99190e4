-- What a line's bytes are made of, over a table of kinds.
use Rattle.std.specs.Prelude.{ℕ, List, [], ◌∷◌, ◌++◌, Bool, cond, ◌||◌, ◌&&◌, not, eqb}
use Rattle.tokenizer.specs.declared.event.Point.{Point}
use Rattle.tokenizer.specs.declared.event.Event.{Event}
use Rattle.tokenizer.specs.Points.{past}
use Rattle.tokenizer.specs.Events.{SpaceOrTab, Data, GfmTableCellDivider, GfmTableDelimiterMarker, GfmTableDelimiterFiller, enter, leave}

-- ## Pieces

-- a piece: a name, and the bytes that bear it
pub record Piece : Type 0 where
  pub name : ℕ
  pub text : List ℕ

-- neighbouring bytes of one name are one piece, but for dividers and markers
abbrev pub joins : ℕ → Bool
joins n = not (eqb n GfmTableCellDivider || eqb n GfmTableDelimiterMarker)

-- a byte of the name n in front of some pieces
abbrev pub on_pieces : ℕ → ℕ → List Piece → List Piece
on_pieces n b [] = record { name = n; text = b ∷ [] } ∷ []
on_pieces n b (p ∷ ps) = cond (joins n && eqb n p.name) (record { name = n; text = b ∷ p.text } ∷ ps) (record { name = n; text = b ∷ [] } ∷ p ∷ ps)

module _ (kind : ℕ → ℕ) where
  -- a pipe is a divider unless an odd run of backslashes stands directly before it
  abbrev pub row_name : Bool → ℕ → ℕ
  row_name odd b = cond (eqb (kind b) 1) SpaceOrTab (cond (eqb (kind b) 3 && not odd) GfmTableCellDivider Data)

  -- whether the run of backslashes that ends with b is odd
  abbrev pub odd_after : Bool → ℕ → Bool
  odd_after odd b = eqb (kind b) 4 && not odd

  -- the pieces of a head line or a body row, where odd says it of the backslashes before them
  unfoldable pub row_pieces : Bool → List ℕ → List Piece
  row_pieces odd [] = []
  row_pieces odd (b ∷ u) = on_pieces (row_name odd b) b (row_pieces (odd_after odd b) u)

  -- whitespace, a divider, a colon or a hyphen
  abbrev pub delimiter_name : ℕ → ℕ
  delimiter_name b =
      cond (eqb (kind b) 1) SpaceOrTab
      (cond (eqb (kind b) 3) GfmTableCellDivider
      (cond (eqb (kind b) 6) GfmTableDelimiterMarker GfmTableDelimiterFiller))

  -- the pieces of a delimiter line
  unfoldable pub delimiter_pieces : List ℕ → List Piece
  delimiter_pieces [] = []
  delimiter_pieces (b ∷ u) = on_pieces (delimiter_name b) b (delimiter_pieces u)

-- ## Pieces as events

-- a piece, or a line end, as its two events
pub record Passed : Type 0 where
  pub entry : Event
  pub exit : Event

-- the pieces, entered and left one after the other from a point on
unfoldable pub passed : Point → List Piece → List Passed
passed p [] = []
passed p (x ∷ xs) = record { entry = enter x.name p; exit = leave x.name (past p x.text) } ∷ passed (past p x.text) xs

-- a row: its entry, its pieces and its exit
pub record Row : Type 0 where
  pub entry : Event
  pub pieces : List Passed
  pub exit : Event

-- the two events of a piece, in order
abbrev pub both : Passed → List Event
both x = x.entry ∷ x.exit ∷ []

-- the events of pieces in order
unfoldable pub all_both : List Passed → List Event
all_both [] = []
all_both (x ∷ xs) = x.entry ∷ x.exit ∷ all_both xs

-- the events of a row in order
abbrev pub raw_row : Row → List Event
raw_row r = r.entry ∷ all_both r.pieces ++ (r.exit ∷ [])
