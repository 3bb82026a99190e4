-- The end of a line: it has the line's own end, and the lines and rows behind it are the line's.
-- Assumes nothing.
use Prim.Native.Nat.{ℕ}
use mathlib.Core.Path.{◌≡◌, refl, ap, sym, ◌∙◌}
use mathlib.Core.Bool.{cond}
use mathlib.Core.List.{List, [], ◌∷◌}
use lib.Dec.{eqb}
use lib.ListN.{drop}
use Rattle.tokenizer.specs.declared.event.Point.{Point}
use Rattle.tokenizer.specs.Points.{past, next_line}
use Rattle.tokenizer.specs.Lines.{end_at}
use Rattle.tokenizer.specs.Places.{Placed, lines_from, lines_past}
use Rattle.tokenizer.specs.Moves.{rest_of, line_at, after, Inside}
use Rattle.tokenizer.proofs.Ahead.{past-none}
use Rattle.tokenizer.proofs.Ends.{end-past, stop-rest}
use Rattle.gfm_table.specs.Rows.{Passed}
use Rattle.gfm_table.specs.Raw.{line_end_at, text_row}
use Rattle.sheet.specs.Walk.{closes, line_end, body_rows}
use Rattle.sheet.specs.From.{here}

module _ (kind : ℕ → ℕ) where
  -- body rows are told by the line end before them
  pub rows_same : (l m : Placed) (ls : List Placed) → line_end l ≡ line_end m → body_rows kind l ls ≡ body_rows kind m ls
  unfolding body_rows
  rows_same l m [] e = refl
  rows_same l m (k ∷ ls) e = ap (λ (x : Passed). cond (closes kind k.line.body) [] (record { before = x; row = text_row kind k.at k.line.body } ∷ body_rows kind k ls)) e

module _ (s : List ℕ) (p : Point) where
  abbrev stop : Point
  stop = past p (rest_of s p)

  pub stop-stop : past stop (rest_of s stop) ≡ stop
  stop-stop = ap (past stop) (stop-rest s p) ∙ past-none stop refl

  pub stop-end : (line_at s stop).end ≡ (line_at s p).end
  stop-end = sym (end-past s stop) ∙ ap (λ (q : Point). end_at (drop q.index s)) stop-stop ∙ end-past s p

  pub stop-after : after s stop ≡ after s p
  stop-after = ap (λ (q : Point). next_line q (line_at s stop).end) stop-stop ∙ ap (next_line stop) stop-end

  -- the lines after a line are those after its end
  pub stop-past : lines_past s stop ≡ lines_past s p
  stop-past = ap (λ (n : ℕ). cond (eqb n 0) [] (lines_from s (after s stop))) stop-end ∙ ap (λ (q : Point). cond (eqb (line_at s p).end 0) [] (lines_from s q)) stop-after

  pub stop-line : line_end (here s stop) ≡ line_end (here s p)
  stop-line = ap (λ (q : Point). line_end_at q (line_at s stop).end) stop-stop ∙ ap (line_end_at stop) stop-end

  -- where nothing is left, the line ends at the point
  pub stop-here : rest_of s p ≡ [] → Inside s p → stop ≡ p
  stop-here e h = ap (past p) e ∙ past-none p h.flat
