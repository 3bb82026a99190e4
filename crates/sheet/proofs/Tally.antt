-- How many cells and values a row is made of.
-- Assumes nothing.
use Prim.Native.Nat.{ℕ, ◌+◌, ◌<◌}
use mathlib.Core.Path.{◌≡◌, refl}
use mathlib.Core.List.{List, [], ◌∷◌}
use mathlib.Core.Bool.{Bool, true, false, cond, ◌||◌, ◌&&◌, true≢false}
use native.Mathlib.Omega.{arith}
use native.Mathlib.Nat.{zero-lt-suc}
use lib.Dec.{eqb}
use lib.ListN.{length}
use borrow.Author.Tests.{eqb-true}
use Rattle.tokenizer.specs.declared.event.Point.{Point}
use Rattle.tokenizer.specs.Points.{past}
use Rattle.tokenizer.specs.Events.{SpaceOrTab, GfmTableCellDivider}
use Rattle.gfm_table.specs.Rows.{Piece, Passed, passed}
use Rattle.gfm_table.specs.Heads.{lone_divider, solid, is_divider, dividers, trailing, cell_count}
use Rattle.edit_map.specs.Tables.{named, is_solid, any_solid, before, cells}
use Rattle.sheet.proofs.Tests.{test, by_cases}

-- ## Cells of a row are as many as are counted on its line

before-length : (x : Passed) (cs : List (List Passed)) → 0 < length cs → length (before x cs) ≡ length cs
before-length x [] h = absurd (omega arith)
before-length x (c ∷ cs) h = refl

before-some : (x : Passed) (cs : List (List Passed)) → 0 < length (before x cs)
before-some x cs = omega arith

pub cells-some : (b : Bool) (xs : List Passed) → 0 < length (cells b xs)
unfolding cells
cells-some b [] = omega arith
cells-some b (x ∷ xs) =
    by_cases (λ (z : List (List Passed)). 0 < length z) (b && (named GfmTableCellDivider x && any_solid xs)) (λ e. zero-lt-suc _) (λ e. before-some x (cells (b || is_solid x) xs))

cells-length : (b : Bool) (x : Passed) (xs : List Passed)
    → length (cells b (x ∷ xs)) ≡ cond (b && (named GfmTableCellDivider x && any_solid xs)) (1 + length (cells true xs)) (length (cells (b || is_solid x) xs))
unfolding cells
cells-length b x xs =
    test (b && (named GfmTableCellDivider x && any_solid xs))
    (λ e. rw e (omega (arith, before-length x (cells true xs) (cells-some true xs))))
    (λ e. rw e (before-length x (cells (b || is_solid x) xs) (cells-some (b || is_solid x) xs)))

abbrev some : List Piece → Bool
some [] = false
some (q ∷ qs) = true

any_solid-some : (p : Point) (ps : List Piece) → any_solid (passed p ps) ≡ some (solid ps)
unfolding any_solid passed solid
any_solid-some p [] = refl
any_solid-some p (q ∷ ps) = test (eqb q.name SpaceOrTab) (λ e. rw e (any_solid-some (past p q.text) ps)) (λ e. rw e)

-- n cells from some pieces on, of which qs are no whitespace, where something stands before them
abbrev Tallied : ℕ → List Piece → Type 0
Tallied n qs = n + cond (some qs) 1 0 ≡ 1 + (dividers qs + trailing qs)

tally-more : (q : Piece) (qs : List Piece) (n : ℕ) → Tallied n qs → Tallied (cond (is_divider q && some qs) (1 + n) n) (q ∷ qs)
unfolding dividers trailing
tally-more q [] n h = test (is_divider q) (λ e. rw e (omega arith)) (λ e. rw e (omega arith))
tally-more q (r ∷ qs) n h = test (is_divider q) (λ e. rw e (omega arith)) (λ e. rw e (omega arith))

tally-first : (q : Piece) (qs : List Piece) (n : ℕ) → lone_divider (q ∷ qs) ≡ false → Tallied n qs → n ≡ cell_count (q ∷ qs)
unfolding dividers trailing
tally-first q [] n l h = rw l (omega arith)
tally-first q (r ∷ qs) n l h = test (is_divider q) (λ e. rw e (omega arith)) (λ e. rw e (omega arith))

-- where something stands before
cells_seen : (p : Point) (ps : List Piece) → Tallied (length (cells true (passed p ps))) (solid ps)
unfolding cells passed solid dividers trailing
cells_seen p [] = refl
cells_seen p (q ∷ ps) =
    let h = cells_seen (past p q.text) ps in
    rw (cells-length true _ (passed (past p q.text) ps))
    (test (eqb q.name SpaceOrTab) (λ e. rw (eqb-true q.name 1 e) h)
    (λ e. rw (e, any_solid-some (past p q.text) ps) (tally-more q (solid ps) _ h)))

-- from the start of a row
pub cells-counted : (p : Point) (ps : List Piece) → lone_divider (solid ps) ≡ false → length (cells false (passed p ps)) ≡ cell_count (solid ps)
unfolding passed solid
cells-counted p [] l = absurd (true≢false l)
cells-counted p (q ∷ ps) l =
    rw (cells-length false _ (passed (past p q.text) ps))
    (test (eqb q.name SpaceOrTab) (λ e. rw (eqb-true q.name 1 e) (cells-counted (past p q.text) ps (rw e at l)))
    (λ e. rw e (tally-first q (solid ps) _ (rw e at l) (cells_seen (past p q.text) ps))))
