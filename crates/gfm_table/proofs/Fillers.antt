-- The pieces of a delimiter row: whitespace, a divider, a marker, or a run of fillers, and the pieces of the rest.
-- Assumes nothing.
use Prim.Native.Nat.{ℕ, ◌≤◌, ◌<◌}
use mathlib.Core.Path.{◌≡◌, refl, ap, sym, ◌∙◌}
use mathlib.Core.Bool.{Bool, true, false, cond}
use mathlib.Core.List.{List, [], ◌∷◌, ◌++◌}
use mathlib.Core.Logic.{◌⊎◌, inl, inr}
use native.Mathlib.Omega.{arith}
use borrow.Author.Tests.{eqb-true, eqb-false, ne_eqb, ltb-true, ltb-false}
use lib.Dec.{eqb, ltb}
use lib.ListN.{length, get_or}
use Rattle.tokenizer.specs.declared.event.Point.{Point}
use Rattle.tokenizer.specs.Bytes.{Reads}
use Rattle.tokenizer.specs.Points.{past}
use Rattle.gfm_table.specs.Rows.{Piece, on_pieces, delimiter_name, delimiter_pieces}
use Rattle.tokenizer.specs.Lines.{indent, unindented}
use Rattle.tokenizer.specs.Lines.{line_body}
use Rattle.tokenizer.specs.Moves.{ahead_of, rest_of, over_at, Inside}
use Rattle.gfm_table.specs.Delimiters.{filler_run, filler_rest, delimiter_pieces_at}
use Rattle.tokenizer.proofs.Ahead.{Front, line_case, rest-past, inside_past}
use Rattle.tokenizer.proofs.Runs.{split, space_on, space_split}
use Rattle.gfm_table.proofs.Runs.{led, led-some, apart, apart_on, join}
use Rattle.gfm_table.proofs.Delimiters.{View, view, space, pipe, hyphen, colon, other}

module _ (kind : ℕ → ℕ) where
  -- ## Whitespace

  space_apart : (u : List ℕ) → apart 1 (delimiter_pieces kind (unindented kind u)) ≡ true
  unfolding unindented delimiter_pieces
  space_apart [] = refl
  space_apart (b ∷ u) = go (view (kind b)) (space_apart u)
    where
      go : View (kind b) → apart 1 (delimiter_pieces kind (unindented kind u)) ≡ true → apart 1 (delimiter_pieces kind (unindented kind (b ∷ u))) ≡ true
      go (space e) h = simp e h
      go (pipe e) h = simp e (apart_on 1 10 b (delimiter_pieces kind u) refl)
      go (hyphen e) h = simp e (apart_on 1 15 b (delimiter_pieces kind u) refl)
      go (colon e) h = simp e (apart_on 1 12 b (delimiter_pieces kind u) refl)
      go (other e f g i) h = simp (e, f, i) (apart_on 1 15 b (delimiter_pieces kind u) refl)

  pub space_led : (u : List ℕ) → delimiter_pieces kind u ≡ led 1 (indent kind u) (delimiter_pieces kind (unindented kind u))
  unfolding indent unindented delimiter_pieces
  space_led [] = refl
  space_led (b ∷ u) = go (eqb (kind b) 1) refl (space_led u)
    where
      go : (t : Bool) → eqb (kind b) 1 ≡ t → delimiter_pieces kind u ≡ led 1 (indent kind u) (delimiter_pieces kind (unindented kind u))
          → delimiter_pieces kind (b ∷ u) ≡ led 1 (cond t (b ∷ indent kind u) []) (delimiter_pieces kind (cond t (unindented kind u) (b ∷ u)))
      go true e h = rw (e, h) (join 1 refl b (indent kind u) (delimiter_pieces kind (unindented kind u)) (space_apart u))
      go false e h = refl

  -- ## Fillers

  pub filler_split : (u : List ℕ) → filler_run kind u ++ filler_rest kind u ≡ u
  unfolding filler_run filler_rest
  filler_split [] = refl
  filler_split (b ∷ u) = split (eqb (delimiter_name kind b) 15) b (filler_run kind u) (filler_rest kind u) u (filler_split u)

  filler_apart : (u : List ℕ) → apart 15 (delimiter_pieces kind (filler_rest kind u)) ≡ true
  unfolding filler_rest delimiter_pieces
  filler_apart [] = refl
  filler_apart (b ∷ u) = go (eqb (delimiter_name kind b) 15) refl (filler_apart u)
    where
      go : (t : Bool) → eqb (delimiter_name kind b) 15 ≡ t → apart 15 (delimiter_pieces kind (filler_rest kind u)) ≡ true → apart 15 (delimiter_pieces kind (cond t (filler_rest kind u) (b ∷ u))) ≡ true
      go true e h = h
      go false e h = apart_on 15 (delimiter_name kind b) b (delimiter_pieces kind u) (ne_eqb 15 (delimiter_name kind b) (λ z. eqb-false (delimiter_name kind b) 15 e (sym z)))

  pub filler_led : (u : List ℕ) → delimiter_pieces kind u ≡ led 15 (filler_run kind u) (delimiter_pieces kind (filler_rest kind u))
  unfolding filler_run filler_rest delimiter_pieces
  filler_led [] = refl
  filler_led (b ∷ u) = go (eqb (delimiter_name kind b) 15) refl (filler_led u)
    where
      go : (t : Bool) → eqb (delimiter_name kind b) 15 ≡ t → delimiter_pieces kind u ≡ led 15 (filler_run kind u) (delimiter_pieces kind (filler_rest kind u))
          → delimiter_pieces kind (b ∷ u) ≡ led 15 (cond t (b ∷ filler_run kind u) []) (delimiter_pieces kind (cond t (filler_rest kind u) (b ∷ u)))
      go true e h = rw (eqb-true (delimiter_name kind b) 15 e, h) (join 15 refl b (filler_run kind u) (delimiter_pieces kind (filler_rest kind u)) (filler_apart u))
      go false e h = refl

  -- ## A byte alone

  pub alone : (n b : ℕ) (ps : List Piece) → (n ≡ 10) ⊎ (n ≡ 12) → on_pieces n b ps ≡ record { name = n; text = b ∷ [] } ∷ ps
  alone n b [] e = refl
  alone n b (p ∷ ps) (inl e) = rw e
  alone n b (p ∷ ps) (inr e) = rw e

  pub filler_on : (b : ℕ) (u : List ℕ) → (kind b < 1) ⊎ (3 < kind b) → (kind b ≡ 6 → ⊥) → filler_run kind (b ∷ u) ≡ b ∷ filler_run kind u
  unfolding filler_run
  filler_on b u (inl l) h = simp (ne_eqb (kind b) 1 (λ z. omega arith), ne_eqb (kind b) 3 (λ z. omega arith), ne_eqb (kind b) 6 h)
  filler_on b u (inr l) h = simp (ne_eqb (kind b) 1 (λ z. omega arith), ne_eqb (kind b) 3 (λ z. omega arith), ne_eqb (kind b) 6 h)

  filler_off : (b : ℕ) (u : List ℕ) → (kind b ≡ 2 → ⊥) → (kind b ≡ 6) ⊎ ((1 ≤ kind b) × (kind b ≤ 3)) → filler_run kind (b ∷ u) ≡ []
  unfolding filler_run
  filler_off b u z (inl e) = simp e
  filler_off b u z (inr l) = go (view (kind b))
    where
      go : View (kind b) → filler_run kind (b ∷ u) ≡ []
      go (space e) = simp e
      go (pipe e) = simp e
      go (hyphen e) = absurd (omega arith)
      go (colon e) = simp e
      go (other e f g i) = absurd (let x = eqb-false (kind b) 1 e in let y = eqb-false (kind b) 3 f in omega arith)

module _ {kind : ℕ → ℕ} (ok : Reads kind) where
  pub fillers_stop : (u : List ℕ) → (ahead_of kind u ≡ 6) ⊎ ((1 ≤ ahead_of kind u) × (ahead_of kind u ≤ 3)) → filler_run kind (line_body u) ≡ []
  unfolding line_body filler_run
  fillers_stop [] h = refl
  fillers_stop (b ∷ u) h = line_case ok b u (λ l. filler_run kind l ≡ []) refl (λ z. filler_off kind b (line_body u) z h)

-- ## The first piece at a point

module _ (kind : ℕ → ℕ) where
  pub record First (s : List ℕ) (p : Point) (n : ℕ) (t : List ℕ) : Type 0 where
    pub pieces : (delimiter_pieces_at kind) s p ≡ record { name = n; text = t } ∷ delimiter_pieces_at kind s (past p t)
    pub some : 0 < length t
    pub line : rest_of s p ≡ t ++ rest_of s (past p t)
    pub inside : Inside s (past p t)

module _ {kind : ℕ → ℕ} (ok : Reads kind) where
  first : (s : List ℕ) (p : Point) (n : ℕ) (t u : List ℕ) → Inside s p → rest_of s p ≡ t ++ u → 0 < length t → delimiter_pieces_at kind s p ≡ record { name = n; text = t } ∷ delimiter_pieces kind u → First kind s p n t
  first s p n t u h e l f =
      record { pieces = f ∙ ap (λ (r : List ℕ). record { name = n; text = t } ∷ delimiter_pieces kind r) (sym (rest-past s p t u e)); some = l; line = e ∙ ap (λ (r : List ℕ). t ++ r) (sym (rest-past s p t u e)); inside = inside_past s p t u h e }

far : (k : ℕ) → (k ≡ 1 → ⊥) → (k ≡ 2 → ⊥) → (k ≡ 3 → ⊥) → (k < 1) ⊎ (3 < k)
far k a b c = go (ltb k 1) refl
  where
    go : (t : Bool) → ltb k 1 ≡ t → (k < 1) ⊎ (3 < k)
    go true e = inl (ltb-true k 1 e)
    go false e = let l = ltb-false k 1 e in inr (omega arith)

module _ {kind : ℕ → ℕ} (ok : Reads kind) (s : List ℕ) (p : Point) (k : ℕ) (f : (Front kind) s p.index k) (h : Inside s p) where
  pub first_space : k ≡ 1 → First kind s p 1 (indent kind (rest_of s p))
  first_space e =
      let u = rest_of s p in
      let l : 0 < length (indent kind u) = rw (f.line, space_on kind _ _ (f.is ∙ e)) (omega arith) in
      first ok s p 1 (indent kind u) (unindented kind u) h (sym (space_split kind u)) l (space_led kind u ∙ led-some 1 _ _ l)

  pub first_divider : k ≡ 3 → First kind s p 10 (get_or s p.index 0 ∷ [])
  unfolding delimiter_pieces
  first_divider e =
      first ok s p 10 (get_or s p.index 0 ∷ []) (rest_of s (over_at s p)) h f.line (omega arith) (rw f.line (simp (f.is, e) (alone kind 10 _ _ (inl refl))))

  pub first_marker : k ≡ 6 → First kind s p 12 (get_or s p.index 0 ∷ [])
  unfolding delimiter_pieces
  first_marker e =
      first ok s p 12 (get_or s p.index 0 ∷ []) (rest_of s (over_at s p)) h f.line (omega arith) (rw f.line (simp (f.is, e) (alone kind 12 _ _ (inr refl))))

  pub first_filler : (k ≡ 1 → ⊥) → (k ≡ 2 → ⊥) → (k ≡ 3 → ⊥) → (k ≡ 6 → ⊥) → First kind s p 15 (filler_run kind (rest_of s p))
  first_filler a b c d =
      let u = rest_of s p in
      let l : 0 < length (filler_run kind u) = rw (f.line, filler_on kind _ _ (rw f.is (far k a b c)) (λ z. d (sym f.is ∙ z))) (omega arith) in
      first ok s p 15 (filler_run kind u) (filler_rest kind u) h (sym (filler_split kind u)) l (filler_led kind u ∙ led-some 15 _ _ l)
