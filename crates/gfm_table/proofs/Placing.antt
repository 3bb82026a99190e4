-- The pieces of a row by the places of its bytes: places inside the sheet, and pieces without a tab.
-- Assumes nothing.
use Prim.Native.Nat.{ℕ, ◌+◌, ◌*◌, ◌/◌, ◌≤◌}
use mathlib.Core.Path.{◌≡◌, refl, ap, sym, ◌∙◌}
use mathlib.Core.Bool.{Bool, true, false, cond, ◌||◌, true≢false}
use mathlib.Core.List.{List, [], ◌∷◌}
use native.Mathlib.Nat.{add-zero}
use native.Mathlib.Omega.{arith}
use borrow.Author.Tests.{eqb-true}
use lib.Dec.{eqb}
use lib.ListN.{length, drop}
use Rattle.tokenizer.specs.declared.event.Name.{Name}
use Rattle.tokenizer.specs.Bytes.{Reads}
use Rattle.tokenizer.specs.Points.{column_after, column_past}
use Rattle.tokenizer.specs.Moves.{ahead_of, Inside}
use Rattle.tokenizer.proofs.Ahead.{Front, goes}
use Rattle.gfm_table.specs.declared.rows.Stop.{Stop}
use Rattle.gfm_table.specs.declared.rows.Placed.{Placed}
use Rattle.gfm_table.specs.Rows.{delimiter_name}
use Rattle.gfm_table.specs.Delimiters.{filler_run}
use Rattle.gfm_table.specs.Places.{point_in, Solid, placed}

-- a place in the sheet is inside it
pub inside-at : (s : List ℕ) (i c : ℕ) → (length s ≤ 65536) × (i ≤ length s) × (c ≤ 4 * i + 1) → Inside s (point_in 0 i c)
inside-at s i c h = record { short = h.0; within = h.1; narrow = h.2; lined = omega arith; flat = refl }

-- at a byte that is no whitespace, no line end and no divider the line goes on
pub solid-front : {kind : ℕ → ℕ} → Reads kind → (s : List ℕ) (p : Stop) → length s ≤ 65536 → p.at ≤ length s → p.column ≤ 4 * p.at + 1 → Solid (ahead_of kind (drop p.at s))
    → Inside s (point_in 0 p.at p.column) × Front kind s p.at (ahead_of kind (drop p.at s))
solid-front ok s p short within narrow h = (inside-at s p.at p.column (short, within, narrow), goes ok s p.at _ refl h.1)

-- ## Columns

module _ {kind : ℕ → ℕ} (ok : Reads kind) where
  -- a tab is whitespace
  no_tab : (b : ℕ) → (kind b ≡ 1 → ⊥) → eqb b 9 ≡ false
  no_tab b h = go (eqb b 9) refl
    where
      go : (t : Bool) → eqb b 9 ≡ t → t ≡ false
      go true f = absurd (h (eqb-true (kind b) 1 (ok.spaces b ∙ ap (λ (t : Bool). t || eqb b 32) f)))
      go false f = refl

  -- a byte that is no whitespace is one column
  pub byte-column : (b c : ℕ) → (kind b ≡ 1 → ⊥) → column_past c (b ∷ []) ≡ c + 1
  unfolding column_past column_after
  byte-column b c h = rw (no_tab b h)

  untabbed : (b : ℕ) → eqb (delimiter_name kind b) 15 ≡ true → kind b ≡ 1 → ⊥
  untabbed b e f = true≢false (sym e ∙ ap (λ (k : ℕ). eqb (cond (eqb k 1) 1 (cond (eqb k 3) 10 (cond (eqb k 6) 12 15))) 15) f)

  -- no tab lies in fillers, so each byte is a column
  pub filler_columns : (u : List ℕ) (c : ℕ) → column_past c (filler_run kind u) ≡ c + length (filler_run kind u)
  unfolding column_past column_after filler_run
  filler_columns [] c = sym (add-zero c)
  filler_columns (b ∷ u) c = go (eqb (delimiter_name kind b) 15) refl (filler_columns u (c + 1))
    where
      go : (t : Bool) → eqb (delimiter_name kind b) 15 ≡ t → column_past (c + 1) (filler_run kind u) ≡ c + 1 + length (filler_run kind u) → column_past c (cond t (b ∷ filler_run kind u) []) ≡ c + length (cond t (b ∷ filler_run kind u) [])
      go true e h =
          ap (λ (k : ℕ). column_past k (filler_run kind u)) (ap (λ (t : Bool). cond t ((c + 3) / 4 * 4 + 1) (c + 1)) (no_tab b (untabbed b e))) ∙ h ∙ (omega arith)
      go false e h = sym (add-zero c)

-- a piece whose bytes are a column each
pub flat-placed : (r : Placed) (n : Name) (i e c : ℕ) (t : List ℕ) → (r.name ≡ n) × (r.end ≡ e) × (r.column + i ≡ c + e) → e ≡ i + length t → column_past c t ≡ c + length t → r ≡ placed n i c t
flat-placed r n i e c t h d f =
    let x : r.end ≡ i + length t = h.1 ∙ d in
    let y : r.column ≡ column_past c t = omega (arith, h.2, d, f) in
    λ k. record { name = h.0 k; end = x k; column = y k }
