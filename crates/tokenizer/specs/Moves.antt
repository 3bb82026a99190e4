-- Moves over whole bytes of a line: what the row machine's promises cite.
use Rattle.std.specs.Prelude.{ℕ, ◌+◌, ◌*◌, ◌≤◌, ◌≡◌, List, [], ◌∷◌, cond, eqb, length, drop, get_or}
use Rattle.tokenizer.specs.declared.event.Point.{Point}
use Rattle.tokenizer.specs.Points.{past, next_line}
use Rattle.tokenizer.specs.Lines.{Line, line_body, line_of}

-- what is left of the line at a point of the sheet
abbrev pub rest_of : List ℕ → Point → List ℕ
rest_of s p = line_body (drop p.index s)

-- the point after the byte at a point
abbrev pub over_at : List ℕ → Point → Point
over_at s p = past p (get_or s p.index 0 ∷ [])

-- the line from a point on
abbrev pub line_at : List ℕ → Point → Line
line_at s p = line_of (drop p.index s)

-- where the next line starts
abbrev pub after : List ℕ → Point → Point
after s p = next_line (past p (rest_of s p)) (line_at s p).end

-- a point between two bytes of a sheet that is not too long: no column is further right than tabs can take it, and each line end took a byte
pub record Inside (s : List ℕ) (p : Point) : Type 0 where
  pub short : length s ≤ 65536
  pub within : p.index ≤ length s
  pub narrow : p.column ≤ 4 * p.index + 1
  pub lined : p.line ≤ p.index + 1
  pub flat : p.vs ≡ 0

module _ (kind : ℕ → ℕ) where
  -- the kind of the byte in front; the end of the sheet counts as a line end
  abbrev pub ahead_of : List ℕ → ℕ
  ahead_of [] = 2
  ahead_of (b ∷ u) = kind b

  -- the bytes of the kind k in front
  unfoldable pub run_of : ℕ → List ℕ → List ℕ
  run_of k [] = []
  run_of k (b ∷ u) = cond (eqb (kind b) k) (b ∷ run_of k u) []

  -- what stands behind them
  unfoldable pub after_run : ℕ → List ℕ → List ℕ
  after_run k [] = []
  after_run k (b ∷ u) = cond (eqb (kind b) k) (after_run k u) (b ∷ u)
