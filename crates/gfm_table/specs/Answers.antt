-- A head by its point.
use Rattle.std.specs.Prelude.{ℕ, List, Bool, false, length, Result}
use Rattle.tokenizer.specs.declared.event.Point.{Point}
use Rattle.tokenizer.specs.declared.refusal.Refusal.{Refusal}
use Rattle.tokenizer.specs.Points.{past}
use Rattle.tokenizer.specs.Refusals.{answered}
use Rattle.tokenizer.specs.Moves.{rest_of, line_at, after}
use Rattle.gfm_table.specs.declared.heads.Opened.{Opened}
use Rattle.gfm_table.specs.Rows.{row_pieces}
use Rattle.gfm_table.specs.Heads.{head_refusal, head_cells}

module _ (kind : ℕ → ℕ) where
  -- what a head at a point opens
  abbrev pub opened_at : List ℕ → Point → Opened
  opened_at s p =
      record {
        cells = head_cells kind (rest_of s p);
        pieces = length (row_pieces kind false (rest_of s p));
        delimiter = after s p;
        end = past (after s p) (rest_of s (after s p));
      }

  -- a head at a point: what it opens, or the question that it gets a "no" to
  abbrev pub head_at : List ℕ → Point → Bool → Bool → Result Opened Refusal
  head_at s p on stray = answered (head_refusal kind on stray (line_at s p) (line_at s (after s p))) (opened_at s p)
