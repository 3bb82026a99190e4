-- The counters of a head line by the places of its bytes: what one piece more makes of what is left.
-- Assumes nothing.
use Prim.Native.Nat.{ℕ, ◌+◌, ◌≤◌}
use mathlib.Core.Path.{◌≡◌, refl, ap, sym, ◌∙◌}
use mathlib.Core.Bool.{Bool, true, false, cond, not}
use mathlib.Core.List.{List, [], ◌∷◌}
use native.Mathlib.Omega.{arith}
use lib.Dec.{eqb, leb}
use mir.Val.{bool_byte}
use lib.ListN.{length, drop}
use Rattle.tokenizer.specs.Bytes.{Reads}
use Rattle.tokenizer.specs.Lines.{indent, unindented}
use Rattle.tokenizer.specs.Moves.{ahead_of}
use Rattle.gfm_table.specs.Rows.{Piece, row_pieces}
use Rattle.gfm_table.specs.Heads.{is_divider, solid}
use Rattle.gfm_table.specs.Machine.{pipe_first, HeadRead}
use Rattle.gfm_table.proofs.Count.{begun, head-cells, head-lone}
use Rattle.gfm_table.proofs.Stops.{led_ahead}
use Rattle.gfm_table.proofs.Passing.{line_from, point_of, pieces-few, PastPiece}

module _ (kind : ℕ → ℕ) where
  -- the solid pieces that are left at a place
  abbrev pub solid_from : List ℕ → ℕ → List Piece
  solid_from s i = solid (row_pieces kind false (line_from s i))

-- ## Bounds

solid-few : (xs : List Piece) → length (solid xs) ≤ length xs
unfolding solid
solid-few [] = omega arith
solid-few (x ∷ xs) = go (eqb x.name 1) (solid-few xs)
  where
    go : (t : Bool) → length (solid xs) ≤ length xs → length (cond t (solid xs) (x ∷ solid xs)) ≤ length (x ∷ xs)
    go true h = omega arith
    go false h = omega arith

begun-few : (seen : Bool) (xs : List Piece) → begun seen xs ≤ length xs
unfolding begun
begun-few seen [] = omega arith
begun-few seen (x ∷ xs) = go seen (begun-few (is_divider x) xs)
  where
    go : (t : Bool) → begun (is_divider x) xs ≤ length xs → cond t 1 0 + begun (is_divider x) xs ≤ length (x ∷ xs)
    go true h = omega arith
    go false h = omega arith

module _ {kind : ℕ → ℕ} (ok : Reads kind) (s : List ℕ) (i : ℕ) (h : length s ≤ 65536) (l : i ≤ length s) where
  -- there are no more solid pieces, and no more cells, than bytes
  pub solids-few : length (solid_from kind s i) ≤ 65536
  solids-few = omega (arith, solid-few (row_pieces kind false (line_from s i)), pieces-few ok s i h l)

  pub cells-few : (seen : Bool) → begun seen (solid_from kind s i) ≤ 65536
  cells-few seen = omega (arith, begun-few seen (solid_from kind s i), solids-few)

-- the number of a yes or no
pub bool-one : (t : Bool) → bool_byte t ≡ cond t 1 0
bool-one true = refl
bool-one false = refl

-- one where something holds
pub few-one : (t : Bool) (n : ℕ) → n ≡ cond t 1 0 → n ≤ 1
few-one true n e = omega (arith, e)
few-one false n e = omega (arith, e)

-- ## One piece more

module _ {kind : ℕ → ℕ} (ok : Reads kind) where
  module _ (s : List ℕ) (i j : ℕ) where
    -- whitespace counts for nothing
    pub past_space : (PastPiece kind) s i j 1 → solid_from kind s i ≡ solid_from kind s j
    unfolding solid
    past_space m = ap solid m.pieces

    -- a solid piece begins a cell where one is awaited; the next awaits one where this is a divider
    module _ (n : ℕ) (e : eqb n 1 ≡ false) (m : (PastPiece kind) s i j n) where
      past-solid : (solid_from kind) s i ≡ record { name = n; text = m.text } ∷ solid_from kind s j
      unfolding solid
      past-solid = ap solid m.pieces ∙ rw e

      pub solid_fewer : length (solid_from kind s i) ≡ 1 + length (solid_from kind s j)
      solid_fewer = ap length past-solid ∙ omega arith

      pub cells_fewer : (seen : Bool) → begun seen (solid_from kind s i) ≡ cond seen 1 0 + begun (eqb n 10) (solid_from kind s j)
      unfolding begun
      cells_fewer seen = ap (begun seen) past-solid

  -- nothing is left of the line
  pub no-solids : (s : List ℕ) (i : ℕ) (seen : Bool) → length (row_pieces kind false (line_from s i)) ≡ 0 → (begun seen (solid_from kind s i) ≡ 0) × (length (solid_from kind s i) ≡ 0)
  no-solids s i seen e =
      let l : length (solid_from kind s i) ≡ 0 = omega (arith, e, solid-few (row_pieces kind false (line_from s i))) in
      (omega (arith, l, begun-few seen (solid_from kind s i)), l)

-- ## The whole line

doubled : (led : Bool) → ◌≡◌ {A = ℕ} (cond (not led) 1 0) (cond led 0 1)
doubled true = refl
doubled false = refl

module _ {kind : ℕ → ℕ} (ok : Reads kind) where
  -- the counters of a line whose first solid byte stands at j and has the kind k
  pub head_read : (s : List ℕ) (at j k m b : ℕ) → j ≡ at + length (indent kind (line_from s at)) → k ≡ ahead_of kind (drop j s) → m ≡ begun (not (eqb k 3)) (solid_from kind s at)
      → b ≡ cond (not (eqb k 3)) 1 0 + length (solid_from kind s at) → HeadRead kind (line_from s at) (record { size = m; size_b = b })
  head_read s at j k m b d e f g =
      let u = line_from s at in
      let l : (pipe_first kind) (unindented kind u) ≡ eqb k 3 = led_ahead ok s (point_of at) ∙ ap (λ (x : ℕ). eqb (ahead_of kind (drop x s)) 3) (sym d) ∙ ap (λ (x : ℕ). eqb x 3) (sym e) in
      record {
        cells = f ∙ ap (λ (t : Bool). begun (not t) (solid_from kind s at)) (sym l) ∙ head-cells ok u;
        lone = ap (λ (x : ℕ). leb x 1) (g ∙ ap (λ (t : Bool). cond (not t) 1 0 + length (solid_from kind s at)) (sym l) ∙ ap (λ (x : ℕ). x + length (solid_from kind s at)) (doubled (pipe_first kind (unindented kind u)))) ∙ head-lone ok u;
      }
