-- The pieces of a delimiter row by the places of its bytes: what one piece more makes of what is left, and where runs end.
-- Assumes nothing.
use Prim.Native.Nat.{ℕ, ◌+◌, ◌≤◌, ◌<◌}
use mathlib.Core.Path.{◌≡◌, ap, sym, ◌∙◌}
use mathlib.Core.List.{List}
use mathlib.Core.Logic.{◌⊎◌}
use native.Mathlib.Omega.{arith}
use lib.ListN.{length, drop}
use Rattle.tokenizer.specs.Bytes.{Reads}
use Rattle.tokenizer.specs.Lines.{indent}
use Rattle.tokenizer.specs.Moves.{ahead_of, Inside}
use Rattle.tokenizer.proofs.Ahead.{Front, ends}
use Rattle.gfm_table.specs.Rows.{delimiter_pieces}
use Rattle.gfm_table.specs.Delimiters.{filler_run}
use Rattle.gfm_table.proofs.Plans.{delimiter-few, rest-few}
use Rattle.gfm_table.proofs.Fillers.{First, filler_on, first_space, first_divider, first_marker, first_filler}
use Rattle.gfm_table.proofs.Passing.{line_from, point_of, point-inside, spaces-more}

module _ (kind : ℕ → ℕ) where
  -- the pieces that are left at a place
  abbrev pub marks_left : List ℕ → ℕ → ℕ
  marks_left s i = length (delimiter_pieces kind (line_from s i))

module _ {kind : ℕ → ℕ} (ok : Reads kind) where
  -- there are no more pieces than bytes
  pub marks-few : (s : List ℕ) (i : ℕ) → length s ≤ 65536 → i ≤ length s → marks_left kind s i ≤ 65536
  marks-few s i h l = omega (arith, delimiter-few kind (line_from s i), rest-few s (point_of i) (point-inside s i h l))

  -- nothing is left of the line
  pub no-marks : (s : List ℕ) (i : ℕ) → ahead_of kind (drop i s) ≡ 2 → marks_left kind s i ≡ 0
  unfolding delimiter_pieces
  no-marks s i e = ap (λ (u : List ℕ). length (delimiter_pieces kind u)) (ends ok (drop i s) e)

  -- a byte of a run of fillers
  pub fillers_more : (s : List ℕ) (i k : ℕ) → Front kind s i k → (k < 1) ⊎ (3 < k) → (k ≡ 6 → ⊥) → length (filler_run kind (line_from s i)) ≡ 1 + length (filler_run kind (line_from s (i + 1)))
  fillers_more s i k f h z = ap length (ap (filler_run kind) f.line ∙ filler_on kind _ _ (rw f.is h) (λ e. z (sym f.is ∙ e))) ∙ (omega arith)

module _ (kind : ℕ → ℕ) where
  -- one piece is passed, from i to j
  pub record PastMark (s : List ℕ) (i j : ℕ) : Type 0 where
    pub fewer : (marks_left kind) s i ≡ 1 + marks_left kind s j
    pub onward : i < j

module _ {kind : ℕ → ℕ} (ok : Reads kind) where
  passes : (s : List ℕ) (i j n : ℕ) (t : List ℕ) → j ≡ i + length t → First kind s (point_of i) n t → PastMark kind s i j
  passes s i j n t e f = record { fewer = ap length f.pieces ∙ rw e (omega arith); onward = omega (arith, e, f.some) }

  module _ (s : List ℕ) (i j k : ℕ) (f : (Front kind) s i k) (h : length s ≤ 65536) where
    abbrev inside : Inside s (point_of i)
    inside = point-inside s i h (omega (arith, f.below))

    pub passes_space : k ≡ 1 → j ≡ i + 1 + length (indent kind (line_from s (i + 1))) → PastMark kind s i j
    passes_space z e = passes s i j 1 (indent kind (line_from s i)) (e ∙ omega (arith, spaces-more ok s i (rw z at f))) (first_space ok s (point_of i) k f inside z)

    pub passes_divider : k ≡ 3 → j ≡ i + 1 → PastMark kind s i j
    passes_divider z e = passes s i j 10 _ e (first_divider ok s (point_of i) k f inside z)

    pub passes_marker : k ≡ 6 → j ≡ i + 1 → PastMark kind s i j
    passes_marker z e = passes s i j 12 _ e (first_marker ok s (point_of i) k f inside z)

    pub passes_filler : (k ≡ 1 → ⊥) → (k ≡ 2 → ⊥) → (k ≡ 3 → ⊥) → (k ≡ 6 → ⊥) → j ≡ i + length (filler_run kind (line_from s i)) → PastMark kind s i j
    passes_filler a b c d e = passes s i j 15 (filler_run kind (line_from s i)) e (first_filler ok s (point_of i) k f inside a b c d)
