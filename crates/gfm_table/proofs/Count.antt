-- What a whole row counts: its pieces, its cells, whether it is one lone divider, and where it ends.
-- Assumes nothing.
use Prim.Native.Nat.{ℕ, ◌+◌, ◌-◌}
use mathlib.Core.Path.{◌≡◌, refl, ap, sym, ◌∙◌}
use mathlib.Core.Bool.{Bool, true, false, cond, not, ◌&&◌, true≢false, false≢true}
use mathlib.Core.List.{List, [], ◌∷◌, ◌++◌}
use native.Mathlib.Omega.{arith}
use borrow.Author.Tests.{eqb-true, lt-leb}
use lib.Dec.{eqb, leb}
use lib.ListN.{length}
use Rattle.std.specs.Prelude.{None}
use Rattle.tokenizer.specs.declared.event.Point.{Point}
use Rattle.gfm_table.specs.declared.states.Scan.{Scan}
use Rattle.tokenizer.specs.Bytes.{Reads}
use Rattle.tokenizer.specs.Points.{past}
use Rattle.gfm_table.specs.Rows.{Piece, joins, on_pieces, row_name, odd_after, row_pieces}
use Rattle.gfm_table.specs.Heads.{is_divider, solid, lone_divider, dividers, trailing, cell_count, head_cells}
use Rattle.tokenizer.specs.Lines.{unindented}
use Rattle.tokenizer.specs.Moves.{rest_of, Inside}
use Rattle.gfm_table.specs.Machine.{stepped, walked, pipe_first, start_at, whole, RowRead, Counted}
use Rattle.tokenizer.proofs.Ahead.{past-append, past-none}
use Rattle.gfm_table.proofs.Runs.{View, view, space, pipe, slash, plain, single}

-- ## Where it ends

texts : List Piece → List ℕ
texts [] = []
texts (x ∷ xs) = x.text ++ texts xs

texts_on : (n b : ℕ) (ps : List Piece) → texts (on_pieces n b ps) ≡ b ∷ texts ps
unfolding texts
texts_on n b [] = refl
texts_on n b (p ∷ ps) = go (joins n && eqb n p.name)
  where
    go : (t : Bool) → texts (cond t (record { name = n; text = b ∷ p.text } ∷ ps) (record { name = n; text = b ∷ [] } ∷ p ∷ ps)) ≡ b ∷ texts (p ∷ ps)
    go true = refl
    go false = refl

texts_row : (kind : ℕ → ℕ) (odd : Bool) (u : List ℕ) → texts (row_pieces kind odd u) ≡ u
unfolding texts row_pieces
texts_row kind odd [] = refl
texts_row kind odd (b ∷ u) =
    texts_on (row_name kind odd b) b (row_pieces kind (odd_after kind odd b) u) ∙ ap (λ (l : List ℕ). b ∷ l) (texts_row kind (odd_after kind odd b) u)

walked_at : (q : Scan) (xs : List Piece) → q.at.vs ≡ 0 → (walked q xs).at ≡ past q.at (texts xs)
unfolding walked texts
walked_at q [] e = sym (past-none q.at e)
walked_at q (x ∷ xs) e = walked_at (stepped q x) xs refl ∙ past-append q.at x.text (texts xs)

-- ## Its pieces

walked-count : (q : Scan) (xs : List Piece) → (walked q xs).count ≡ q.count + length xs
unfolding walked
walked-count q [] = omega arith
walked-count q (x ∷ xs) = let h = walked-count (stepped q x) xs in omega arith

-- ## Its solid pieces

walked-solids : (q : Scan) (xs : List Piece) → (walked q xs).size_b ≡ q.size_b + length (solid xs)
unfolding walked solid
walked-solids q [] = omega arith
walked-solids q (x ∷ xs) = walked-solids (stepped q x) xs ∙ go (eqb x.name 1) q.size_b
  where
    go : (t : Bool) (n : ℕ) → cond (not t) (n + 1) n + length (solid xs) ≡ n + length (cond t (solid xs) (x ∷ solid xs))
    go true n = refl
    go false n = omega arith

-- ## Its cells

-- the cells that begin with these pieces, where a divider stands before them or not
unfoldable pub begun : Bool → List Piece → ℕ
begun seen [] = 0
begun seen (x ∷ xs) = cond seen 1 0 + begun (is_divider x) xs

walked-cells : (q : Scan) (xs : List Piece) → (walked q xs).size ≡ q.size + begun q.seen (solid xs)
unfolding walked solid begun
walked-cells q [] = omega arith
walked-cells q (x ∷ xs) = walked-cells (stepped q x) xs ∙ go (eqb x.name 1) q.seen q.size
  where
    go : (t seen : Bool) (n : ℕ) → cond (not t && seen) (n + 1) n + begun (cond (not t) (is_divider x) seen) (solid xs) ≡ n + begun seen (cond t (solid xs) (x ∷ solid xs))
    go true seen n = refl
    go false true n = omega arith
    go false false n = omega arith

begun_true : (xs : List Piece) → begun true xs ≡ dividers xs + trailing xs
unfolding begun dividers trailing
begun_true [] = refl
begun_true (x ∷ []) = go (is_divider x)
  where
    go : (t : Bool) → ◌≡◌ {A = ℕ} 1 (cond t 1 0 + cond t 0 1)
    go true = refl
    go false = refl
begun_true (x ∷ y ∷ xs) = go (is_divider x) (begun (is_divider y) xs) (dividers (y ∷ xs)) (trailing (y ∷ xs)) (begun_true (y ∷ xs))
  where
    go : (t : Bool) (n d r : ℕ) → 1 + n ≡ d + r → 1 + (cond t 1 0 + n) ≡ cond t (1 + d) d + r
    go true n d r e = omega arith
    go false n d r e = omega arith

-- ## Its first solid piece

Starts : List Piece → Bool → Type 0
Starts [] b = b ≡ false
Starts (x ∷ xs) b = is_divider x ≡ b

solid_space : (b : ℕ) (ps : List Piece) → solid (on_pieces 1 b ps) ≡ solid ps
unfolding solid
solid_space b [] = refl
solid_space b (p ∷ ps) = go (eqb 1 p.name) refl
  where
    go : (t : Bool) → eqb 1 p.name ≡ t → solid (cond t (record { name = 1; text = b ∷ p.text } ∷ ps) (record { name = 1; text = b ∷ [] } ∷ p ∷ ps)) ≡ solid (p ∷ ps)
    go true e = rw (← eqb-true 1 p.name e)
    go false e = refl

starts_data : (b : ℕ) (ps : List Piece) → Starts (solid (on_pieces 3 b ps)) false
unfolding Starts solid
starts_data b [] = refl
starts_data b (p ∷ ps) = go (eqb 3 p.name)
  where
    go : (t : Bool) → Starts (solid (cond t (record { name = 3; text = b ∷ p.text } ∷ ps) (record { name = 3; text = b ∷ [] } ∷ p ∷ ps))) false
    go true = refl
    go false = refl

module _ {kind : ℕ → ℕ} (ok : Reads kind) where
  starts-row : (u : List ℕ) → Starts (solid (row_pieces kind false u)) (pipe_first kind (unindented kind u))
  unfolding Starts solid row_pieces unindented
  starts-row [] = refl
  starts-row (b ∷ u) = go (view (kind b)) (starts-row u)
    where
      go : View (kind b) → Starts (solid (row_pieces kind false u)) (pipe_first kind (unindented kind u)) → Starts (solid (row_pieces kind false (b ∷ u))) (pipe_first kind (unindented kind (b ∷ u)))
      go (space e) h = simp (e, solid_space b (row_pieces kind false u)) h
      go (pipe e) h = simp (e, single) refl
      go (slash e) h = simp e (starts_data b (row_pieces kind true u))
      go (plain e f g) h = simp (e, f, g) (starts_data b (row_pieces kind false u))

cells-begun : (xs : List Piece) (l : Bool) → Starts xs l → begun (not l) xs ≡ cell_count xs
unfolding Starts begun dividers trailing
cells-begun [] l e = refl
cells-begun (x ∷ xs) l e = go l (is_divider x) e (begun (is_divider x) xs) (dividers xs) (trailing (x ∷ xs)) (begun_true (x ∷ xs))
  where
    go : (l t : Bool) → t ≡ l → (n d r : ℕ) → 1 + n ≡ cond t (1 + d) d + r → cond (not l) 1 0 + n ≡ cond t (1 + d) d - cond t 1 0 + r
    go true true e n d r h = omega arith
    go false false e n d r h = omega arith
    go true false e n d r h = absurd (false≢true e)
    go false true e n d r h = absurd (true≢false e)

solids-lone : (xs : List Piece) (l : Bool) → Starts xs l → leb (cond l 0 1 + length xs) 1 ≡ lone_divider xs
unfolding Starts
solids-lone [] l e = rw e
solids-lone (x ∷ []) true e = sym e
solids-lone (x ∷ []) false e = sym e
solids-lone (x ∷ y ∷ xs) l e = lt-leb (cond l 0 1 + length (x ∷ y ∷ xs)) 1 (omega arith)

module _ {kind : ℕ → ℕ} (ok : Reads kind) where
  -- the counters of a head line, by whether a divider leads
  pub head-cells : (u : List ℕ) → begun (not (pipe_first kind (unindented kind u))) (solid (row_pieces kind false u)) ≡ head_cells kind u
  head-cells u = cells-begun (solid (row_pieces kind false u)) (pipe_first kind (unindented kind u)) (starts-row ok u)

  pub head-lone : (u : List ℕ) → leb (cond (pipe_first kind (unindented kind u)) 0 1 + length (solid (row_pieces kind false u))) 1 ≡ lone_divider (solid (row_pieces kind false u))
  head-lone u = solids-lone (solid (row_pieces kind false u)) (pipe_first kind (unindented kind u)) (starts-row ok u)

  -- ## A whole row

  pub row-whole : (s : List ℕ) (p : Point) → p.vs ≡ 0 → RowRead kind (rest_of s p) p (whole kind s (start_at kind s p))
  row-whole s p e =
      let u = rest_of s p in
      let q = start_at kind s p in
      let ps = row_pieces kind false u in
      record {
        pieces = walked-count q ps ∙ omega arith;
        cells = walked-cells q ps ∙ omega (arith, head-cells u);
        lone = ap (λ (n : ℕ). leb n 1) (walked-solids q ps) ∙ head-lone u;
        end = walked_at q ps e ∙ ap (past p) (texts_row kind false u);
      }

  pub start-counted : (s : List ℕ) (p : Point) → Inside s p → Counted s (start_at kind s p)
  start-counted s p h = go (pipe_first kind (unindented kind (rest_of s p)))
    where
      go : (l : Bool) → Counted s (record { at = p; from = p; name = None; count = 0; size = 0; size_b = cond l 0 1; seen = not l })
      go true = record { inside = h; few = omega arith; cells = omega arith; solids = omega arith }
      go false = record { inside = h; few = omega arith; cells = omega arith; solids = omega arith }
