-- The body rows after a line of a table, one line at a time.
-- Assumes nothing.
use Prim.Native.Nat.{ℕ}
use mathlib.Core.Path.{◌≡◌, ap, sym, ◌∙◌}
use mathlib.Core.Bool.{Bool, true, false}
use mathlib.Core.List.{List, [], ◌∷◌}
use Rattle.tokenizer.specs.declared.event.Point.{Point}
use Rattle.tokenizer.specs.Places.{lines_from, lines_past}
use Rattle.tokenizer.specs.Moves.{rest_of, line_at, after}
use Rattle.tokenizer.proofs.Places.{lines-from}
use Rattle.sheet.specs.Walk.{closes, heads, rows}
use Rattle.sheet.specs.From.{here}
use Rattle.sheet.proofs.From.{past-last, past_more, heads_at_closing}

module _ (kind : ℕ → ℕ) (s : List ℕ) (p : Point) where
  -- ## No line is next, or one that ends the table, or a row

  pub rows_last : (line_at s p).end ≡ 0 → (on : Bool) → rows kind on (lines_past s p) ≡ []
  unfolding heads
  rows_last e on = rw (past-last s p e)

  module _ (z : (line_at s p).end ≡ 0 → ⊥) where
    pub next-lines : lines_past s p ≡ here s (after s p) ∷ lines_past s (after s p)
    next-lines = past_more s p z ∙ lines-from s (after s p)

    pub rows-closed : closes kind (rest_of s (after s p)) ≡ true → (on : Bool) → rows kind on (lines_past s p) ≡ heads kind on (lines_from s (after s p))
    unfolding heads
    rows-closed b on = ap (rows kind on) next-lines ∙ rw b (sym (heads_at_closing kind s (after s p) on b))

    pub rows_row : closes kind (rest_of s (after s p)) ≡ false → (on : Bool) → rows kind on (lines_past s p) ≡ rows kind on (lines_past s (after s p))
    unfolding heads
    rows_row b on = ap (rows kind on) next-lines ∙ rw b
