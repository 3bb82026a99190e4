-- What the row machine's promises cite: the line ahead, runs of data, and what a row's pieces make of a state.
use Rattle.std.specs.Prelude.{ℕ, zero, suc, ◌+◌, ◌≤◌, ◌<◌, ◌≡◌, List, [], ◌∷◌, Bool, false, cond, ◌||◌, ◌&&◌, not, eqb, leb, length, drop, Some, None}
use Rattle.tokenizer.specs.declared.event.Point.{Point}
use Rattle.tokenizer.specs.Moves.{rest_of, Inside}
use Rattle.gfm_table.specs.declared.states.Scan.{Scan}
use Rattle.std.specs.declared.ops.ControlFlow.{ControlFlow}
use Rattle.gfm_table.specs.declared.pieces.HeadRow.{HeadRow}
use Rattle.std.specs.declared.ops.ControlFlow.TheVariants.{Continue, Break}
use Rattle.tokenizer.specs.Events
use Rattle.tokenizer.specs.Points.{past}
use Rattle.tokenizer.specs.Lines.{unindented}
use Rattle.gfm_table.specs.Heads.{solid, lone_divider, head_cells}
use Rattle.gfm_table.specs.Rows.{Piece, row_name, odd_after, row_pieces}

-- ## Runs of data

module _ (kind : ℕ → ℕ) where
  -- the bytes of data at the front of a line, after an odd run of backslashes or not, and what follows them
  unfoldable pub data_run : Bool → List ℕ → List ℕ
  data_run odd [] = []
  data_run odd (b ∷ s) = cond (eqb (row_name kind odd b) Events.Data) (b ∷ data_run (odd_after kind odd b) s) []

  unfoldable pub data_rest : Bool → List ℕ → List ℕ
  data_rest odd [] = []
  data_rest odd (b ∷ s) = cond (eqb (row_name kind odd b) Events.Data) (data_rest (odd_after kind odd b) s) (b ∷ s)

  -- the byte that a backslash in front escapes, if any
  abbrev pub escaped : List ℕ → List ℕ
  escaped [] = []
  escaped (b ∷ s) = cond (eqb (kind b) 3 || eqb (kind b) 4) (b ∷ []) []

  abbrev pub unescaped : List ℕ → List ℕ
  unescaped [] = []
  unescaped (b ∷ s) = cond (eqb (kind b) 3 || eqb (kind b) 4) s (b ∷ s)

-- ## What pieces make of a state

abbrev pub is_solid : ℕ → Bool
is_solid n = not (eqb n Events.SpaceOrTab)

-- one more piece that is no whitespace: a cell begins where the one before was a divider
abbrev pub counted_as : Bool → Scan → Scan
counted_as divider q =
    record { at = q.at; from = q.from; name = q.name; count = q.count; size = cond q.seen (q.size + 1) q.size; size_b = q.size_b + 1; seen = divider }

-- a piece of the name n that ends at a point
abbrev pub passed_to : ℕ → Point → Scan → Scan
passed_to n p q = record { at = p; from = q.at; name = Some n; count = q.count + 1; size = q.size; size_b = q.size_b; seen = q.seen }

-- a piece is read: counted if it is no whitespace, and passed
abbrev pub stepped : Scan → Piece → Scan
stepped q x =
    record {
      at = past q.at x.text;
      from = q.at;
      name = Some x.name;
      count = q.count + 1;
      size = cond (is_solid x.name && q.seen) (q.size + 1) q.size;
      size_b = cond (is_solid x.name) (q.size_b + 1) q.size_b;
      seen = cond (is_solid x.name) (eqb x.name Events.GfmTableCellDivider) q.seen;
    }

-- a state after all of some pieces
unfoldable pub walked : Scan → List Piece → Scan
walked q [] = q
walked q (x ∷ xs) = walked (stepped q x) xs

-- a state after at most n of them: it goes on after n, and breaks off where there are fewer
unfoldable pub outcome : ℕ → Scan → List Piece → ControlFlow Scan Scan
outcome zero q xs = Continue q
outcome (suc n) q [] = Break q
outcome (suc n) q (x ∷ xs) = outcome n (stepped q x) xs

abbrev pub state_of : ControlFlow Scan Scan → Scan
state_of (Continue q) = q
state_of (Break q) = q

module _ (kind : ℕ → ℕ) where
  -- the pieces that are still to come at a point
  abbrev pub pieces_at : List ℕ → Point → List Piece
  pieces_at s p = row_pieces kind false (rest_of s p)

  -- the state at the end of the line
  abbrev pub whole : List ℕ → Scan → Scan
  whole s q = walked q (pieces_at s q.at)

-- no counter has passed the bytes
pub record Counted (s : List ℕ) (q : Scan) : Type 0 where
  pub inside : Inside s q.at
  pub few : q.count ≤ q.at.index
  pub cells : q.size ≤ q.at.index
  pub solids : q.size_b ≤ q.at.index + 1

module _ (kind : ℕ → ℕ) where
  -- reading n pieces from a state: the outcome, and what is still to come after it
  pub record Read (s : List ℕ) (q : Scan) (n : ℕ) (xs : List Piece) (r : ControlFlow Scan Scan) : Type 0 where
    pub is : r ≡ outcome n q xs
    pub left : (pieces_at kind) s (state_of r).at ≡ drop n xs
    pub good : Counted s (state_of r)

  abbrev pub ReadHere : List ℕ → Scan → ℕ → ControlFlow Scan Scan → Type 0
  ReadHere s q n r = Read s q n (pieces_at kind s q.at) r

  -- at a byte of data
  pub record AtData (s : List ℕ) (q : Scan) : Type 0 where
    pub counted : Counted s q
    pub some : 0 < length (data_run kind false (rest_of s q.at))

  -- the piece of data at a state
  abbrev pub data_piece : List ℕ → Scan → Piece
  data_piece s q = record { name = Events.Data; text = data_run kind false (rest_of s q.at) }

  -- ## A row from its start

  abbrev pub pipe_first : List ℕ → Bool
  pipe_first [] = false
  pipe_first (b ∷ u) = eqb (kind b) 3

  -- the state at the start of a row: the first solid byte counts double unless it is a divider
  abbrev pub start_at : List ℕ → Point → Scan
  start_at s p =
      let led = pipe_first (unindented kind (rest_of s p)) in
      record { at = p; from = p; name = None; count = 0; size = 0; size_b = cond led 0 1; seen = not led }

  -- a row with the body u is read from p to its end
  pub record RowRead (u : List ℕ) (p : Point) (r : Scan) : Type 0 where
    pub pieces : r.count ≡ length (row_pieces kind false u)
    pub cells : r.size ≡ head_cells kind u
    pub lone : leb r.size_b 1 ≡ lone_divider (solid (row_pieces kind false u))
    pub end : r.at ≡ past p u

  -- a head line with the body u is counted
  pub record HeadRead (u : List ℕ) (r : HeadRow) : Type 0 where
    pub cells : r.size ≡ head_cells kind u
    pub lone : leb r.size_b 1 ≡ lone_divider (solid (row_pieces kind false u))
