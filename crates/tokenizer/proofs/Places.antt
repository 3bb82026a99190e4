-- The lines of a sheet, the first one taken off: what is read at a point is the first line from there.
-- Assumes nothing.
use Prim.Native.Nat.{ℕ, ◌+◌}
use mathlib.Core.Path.{◌≡◌, refl, ap, sym, ◌∙◌}
use mathlib.Core.Bool.{Bool, true, false, cond}
use mathlib.Core.List.{List, [], ◌∷◌}
use native.Mathlib.Nat.{suc-add, add_assoc}
use borrow.Author.Tests.{eqb-true}
use lib.Dec.{eqb}
use lib.ListN.{length, drop}
use lib.Seq.{drop-drop}
use Rattle.tokenizer.specs.declared.event.Point.{Point}
use Rattle.tokenizer.specs.Lines.{Line, starts_lf, line_body, line_of, on_first, empty_line, crlf, lines}
use Rattle.tokenizer.specs.Places.{Placed, placed, lines_from, lines_past}
use Rattle.tokenizer.specs.Moves.{rest_of, line_at, after}

-- the lines after the first, if a line end closes it
abbrev lines_after : List ℕ → List Line
lines_after u = cond (eqb (line_of u).end 0) [] (lines (drop (length (line_body u) + (line_of u).end) u))

-- a line feed; a carriage return alone; the two
feed-first : (u : List ℕ) → empty_line 1 (lines u) ≡ line_of (10 ∷ u) ∷ lines_after (10 ∷ u)
unfolding line_body
feed-first u = refl

alone_first : (u : List ℕ) → starts_lf u ≡ false → empty_line 1 (lines u) ≡ line_of (13 ∷ u) ∷ lines_after (13 ∷ u)
unfolding line_body
alone_first u e = rw e

both_first : (u : List ℕ) → crlf (lines (10 ∷ u)) ≡ line_of (13 ∷ 10 ∷ u) ∷ lines_after (13 ∷ 10 ∷ u)
unfolding lines line_body
both_first u = refl

return_first : (u : List ℕ) → cond (starts_lf u) (crlf (lines u)) (empty_line 1 (lines u)) ≡ line_of (13 ∷ u) ∷ lines_after (13 ∷ u)
return_first [] = alone_first [] refl
return_first (c ∷ u) = go (eqb c 10) refl
  where
    go : (t : Bool) → eqb c 10 ≡ t → cond t (crlf (lines (c ∷ u))) (empty_line 1 (lines (c ∷ u))) ≡ line_of (13 ∷ c ∷ u) ∷ lines_after (13 ∷ c ∷ u)
    go true e = rw (eqb-true c 10 e) (both_first u)
    go false e = alone_first (c ∷ u) e

lines-first : (u : List ℕ) → lines u ≡ line_of u ∷ lines_after u
unfolding lines line_body
lines-first [] = refl
lines-first (b ∷ u) = go (eqb b 10) (eqb b 13) refl refl (lines-first u)
  where
    go : (s t : Bool) → eqb b 10 ≡ s → eqb b 13 ≡ t → lines u ≡ line_of u ∷ lines_after u
        → cond s (empty_line 1 (lines u)) (cond t (cond (starts_lf u) (crlf (lines u)) (empty_line 1 (lines u))) (on_first b (lines u))) ≡ line_of (b ∷ u) ∷ lines_after (b ∷ u)
    go true t e f h = rw (eqb-true b 10 e) (feed-first u)
    go false true e f h = rw (eqb-true b 13 f) (return_first u)
    go false false e f h = rw (h, e, f, suc-add)

module _ (s : List ℕ) (p : Point) where
  pub lines-from : lines_from s p ≡ record { at = p; line = line_at s p } ∷ lines_past s p
  unfolding placed
  lines-from = rw (lines-first (drop p.index s)) (ap (λ (l : List Placed). record { at = p; line = line_at s p } ∷ l) (go (eqb (line_at s p).end 0)))
    where
      go : (t : Bool) → placed (after s p) (cond t [] (lines (drop (length (rest_of s p) + (line_at s p).end) (drop p.index s)))) ≡ cond t [] (lines_from s (after s p))
      go true = refl
      go false =
          ap (λ (u : List ℕ). placed (after s p) (lines u))
          (drop-drop (length (rest_of s p) + (line_at s p).end) p.index s ∙ ap (λ (n : ℕ). drop n s) (sym (add_assoc p.index (length (rest_of s p)) (line_at s p).end)))
