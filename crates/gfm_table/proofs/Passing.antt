-- The pieces of a row by the places of its bytes: what one piece more makes of what is left, and where runs end.
-- Assumes nothing.
use Prim.Native.Nat.{ℕ, ◌+◌, ◌≤◌, ◌<◌}
use mathlib.Core.Path.{◌≡◌, refl, ap, sym, ◌∙◌}
use mathlib.Core.Bool.{false}
use mathlib.Core.List.{List, [], ◌∷◌, ◌++◌}
use mathlib.Core.Logic.{◌⊎◌}
use native.Mathlib.Omega.{arith}
use lib.ListN.{length, drop, get_or, length-append}
use Rattle.tokenizer.specs.declared.event.Point.{Point}
use Rattle.tokenizer.specs.Bytes.{Reads}
use Rattle.tokenizer.specs.Lines.{line_body, indent, unindented}
use Rattle.tokenizer.specs.Moves.{ahead_of, Inside}
use Rattle.tokenizer.proofs.Ahead.{Front, ends, rest-past, run_stops}
use Rattle.tokenizer.proofs.Runs.{indent_run, space_on, space_split}
use Rattle.gfm_table.specs.Rows.{row_pieces}
use Rattle.gfm_table.specs.Machine.{data_run, data_rest, escaped, unescaped}
use Rattle.gfm_table.proofs.Runs.{led-some, single, space_pieces, data_some, data_split, data_pieces, slash_on, plain_on, escape_on, escape_split, escape_run}
use Rattle.gfm_table.proofs.Plans.{row-few, rest-few}

-- what is left of a line at a place
abbrev pub line_from : List ℕ → ℕ → List ℕ
line_from s i = line_body (drop i s)

-- a point there
abbrev pub point_of : ℕ → Point
point_of i = record { line = 0; column = 0; index = i; vs = 0 }

-- after a stretch of a line
pub line-past : (s : List ℕ) (i : ℕ) (a t : List ℕ) → line_from s i ≡ a ++ t → line_from s (i + length a) ≡ t
line-past s i a t e = rest-past s (point_of i) a t e

pub point-inside : (s : List ℕ) (i : ℕ) → length s ≤ 65536 → i ≤ length s → Inside s (point_of i)
point-inside s i h l = record { short = h; within = l; narrow = omega arith; lined = omega arith; flat = refl }

module _ {kind : ℕ → ℕ} (ok : Reads kind) where
  -- there are no more pieces than bytes
  pub pieces-few : (s : List ℕ) (i : ℕ) → length s ≤ 65536 → i ≤ length s → length (row_pieces kind false (line_from s i)) ≤ 65536
  pieces-few s i h l = omega (arith, row-few kind false (line_from s i), rest-few s (point_of i) (point-inside s i h l))

  -- ## Runs

  module _ (s : List ℕ) (i : ℕ) where
    pub spaces-stop : (ahead_of kind (drop i s) ≡ 1 → ⊥) → length (indent kind (line_from s i)) ≡ 0
    spaces-stop h = ap length (indent_run kind (line_from s i) ∙ run_stops ok 1 (drop i s) h)

    pub spaces-more : (Front kind) s i 1 → length (indent kind (line_from s i)) ≡ 1 + length (indent kind (line_from s (i + 1)))
    spaces-more f = ap length (ap (indent kind) f.line ∙ space_on kind _ _ f.is) ∙ (omega arith)

    pub data_more : (k : ℕ) → Front kind s i k → (k < 1) ⊎ (4 < k) → length (data_run kind false (line_from s i)) ≡ 1 + length (data_run kind false (line_from s (i + 1)))
    data_more k f h = ap length (ap (data_run kind false) f.line ∙ plain_on kind _ _ (rw f.is h)) ∙ (omega arith)

    pub escape_one : (k : ℕ) → Front kind s i k → 3 ≤ k → k ≤ 4 → length (escaped kind (line_from s i)) ≡ 1
    escape_one k f g l = ap length (ap (escaped kind) f.line ∙ escape_on kind (get_or s i 0) (line_from s (i + 1)) (rw f.is g) (rw f.is l))

    -- a backslash, and what it escapes
    pub slash_more : (j : ℕ) → Front kind s i 4 → j ≡ i + 1 + length (escaped kind (line_from s (i + 1))) → i + length (data_run kind false (line_from s i)) ≡ j + length (data_run kind false (line_from s j))
    slash_more j f e =
        let u = line_from s (i + 1) in
        let a = ap length (ap (data_run kind false) f.line ∙ slash_on kind _ _ f.is ∙ ap (λ (l : List ℕ). get_or s i 0 ∷ l) (escape_run kind u)) in
        let b = length-append (escaped kind u) (data_run kind false (unescaped kind u)) in
        let c = ap (λ (l : List ℕ). length (data_run kind false l)) (ap (line_from s) e ∙ line-past s (i + 1) (escaped kind u) (unescaped kind u) (sym (escape_split kind u))) in
        omega (arith, a, b, c, e)

-- ## Pieces

module _ (kind : ℕ → ℕ) where
  -- one piece of the name n is passed, from i to j
  pub record PastPiece (s : List ℕ) (i j n : ℕ) : Type 0 where
    pub text : List ℕ
    pub pieces : row_pieces kind false (line_from s i) ≡ record { name = n; text = text } ∷ row_pieces kind false (line_from s j)
    pub onward : i < j

module _ {kind : ℕ → ℕ} (ok : Reads kind) where
  -- nothing is left of the line
  pub no_pieces : (s : List ℕ) (i : ℕ) → ahead_of kind (drop i s) ≡ 2 → length (row_pieces kind false (line_from s i)) ≡ 0
  unfolding row_pieces
  no_pieces s i e = ap (λ (u : List ℕ). length (row_pieces kind false u)) (ends ok (drop i s) e)

  passes : (s : List ℕ) (i j n : ℕ) (t u : List ℕ) → j ≡ i + length t → line_from s i ≡ t ++ u → 0 < length t → row_pieces kind false (line_from s i) ≡ record { name = n; text = t } ∷ row_pieces kind false u → PastPiece kind s i j n
  passes s i j n t u d e l f =
      let h = ap (line_from s) d ∙ line-past s i t u e in
      record {
        text = t;
        pieces = f ∙ ap (λ (r : List ℕ). record { name = n; text = t } ∷ row_pieces kind false r) (sym h);
        onward = omega (arith, d, l);
      }

  module _ (s : List ℕ) (i j : ℕ) where
    pub passes_space : (Front kind) s i 1 → j ≡ i + 1 + length (indent kind (line_from s (i + 1))) → PastPiece kind s i j 1
    passes_space f e =
        let u = line_from s i in
        let m = spaces-more ok s i f in
        let l : 0 < length (indent kind u) = omega (arith, m) in
        passes s i j 1 (indent kind u) (unindented kind u) (omega (arith, e, m)) (sym (space_split kind u)) l (space_pieces kind u ∙ led-some 1 _ _ l)

    pub passes_divider : (Front kind) s i 3 → j ≡ i + 1 → PastPiece kind s i j 10
    unfolding row_pieces
    passes_divider f e = passes s i j 10 (get_or s i 0 ∷ []) (line_from s (i + 1)) e f.line (omega arith) (rw f.line (simp f.is (single _ _)))

    pub passes_data : (k : ℕ) → Front kind s i k → (k ≡ 1 → ⊥) → (k ≡ 3 → ⊥) → j ≡ i + length (data_run kind false (line_from s i)) → PastPiece kind s i j 3
    passes_data k f d g e =
        let u = line_from s i in
        let l : 0 < length (data_run kind false u) = rw f.line (data_some kind _ _ (λ z. d (sym f.is ∙ z)) (λ z. g (sym f.is ∙ z))) in
        passes s i j 3 (data_run kind false u) (data_rest kind false u) e (sym (data_split kind false u)) l (data_pieces kind false u ∙ led-some 3 _ _ l)
