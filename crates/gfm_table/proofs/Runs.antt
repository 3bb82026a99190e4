-- A row's pieces begin with a run: of whitespace, of data, or one divider. What follows the run are the pieces of the rest.
-- Assumes nothing.
use Prim.Native.Nat.{ℕ, ◌+◌, ◌*◌, ◌/◌, ◌≤◌, ◌<◌}
use mathlib.Core.Path.{◌≡◌, refl, ap, sym, ◌∙◌}
use mathlib.Core.Bool.{Bool, true, false, cond, not, ◌&&◌, ◌||◌, true≢false}
use mathlib.Core.List.{List, [], ◌∷◌, ◌++◌}
use mathlib.Core.Logic.{◌⊎◌, inl, inr}
use native.Mathlib.Nat.{add-zero}
use native.Mathlib.Omega.{arith}
use borrow.Author.Tests.{eqb-true, eq-eqb, ne_eqb, eqb-false, not-true}
use lib.Dec.{eqb}
use Rattle.tokenizer.specs.Bytes.{Reads}
use Rattle.tokenizer.specs.Points.{column_after, column_past}
use Rattle.tokenizer.proofs.Runs.{split}
use lib.ListN.{length}
use Rattle.gfm_table.specs.Rows.{Piece, joins, on_pieces, row_name, odd_after, row_pieces}
use Rattle.tokenizer.specs.Lines.{indent, unindented}
use Rattle.gfm_table.specs.Machine.{data_run, data_rest, escaped, unescaped}

-- ## The kinds that a row tells apart

pub data View (k : ℕ) : Type 0 where
  space : k ≡ 1 → View k
  pipe : k ≡ 3 → View k
  slash : k ≡ 4 → View k
  plain : eqb k 1 ≡ false → eqb k 3 ≡ false → eqb k 4 ≡ false → View k

pub view : (k : ℕ) → View k
view k = go (eqb k 1) (eqb k 3) (eqb k 4) refl refl refl
  where
    go : (a b c : Bool) → eqb k 1 ≡ a → eqb k 3 ≡ b → eqb k 4 ≡ c → View k
    go true b c p q r = space (eqb-true k 1 p)
    go false true c p q r = pipe (eqb-true k 3 q)
    go false false true p q r = slash (eqb-true k 4 r)
    go false false false p q r = plain p q r

-- ## Joining

-- a stretch as one piece in front of others, if there is one
abbrev pub led : ℕ → List ℕ → List Piece → List Piece
led n [] ps = ps
led n (b ∷ t) ps = record { name = n; text = b ∷ t } ∷ ps

-- the first piece has another name
abbrev pub apart : ℕ → List Piece → Bool
apart n [] = true
apart n (p ∷ ps) = not (eqb n p.name)

pub led-some : (n : ℕ) (t : List ℕ) (ps : List Piece) → 0 < length t → led n t ps ≡ record { name = n; text = t } ∷ ps
led-some n [] ps h = absurd (omega arith)
led-some n (b ∷ t) ps h = refl

pub apart_on : (n m b : ℕ) (ps : List Piece) → eqb n m ≡ false → apart n (on_pieces m b ps) ≡ true
apart_on n m b [] e = rw e
apart_on n m b (p ∷ ps) e = go (joins m && eqb m p.name)
  where
    go : (t : Bool) → apart n (cond t (record { name = m; text = b ∷ p.text } ∷ ps) (record { name = m; text = b ∷ [] } ∷ p ∷ ps)) ≡ true
    go true = rw e
    go false = rw e

pub join : (n : ℕ) → joins n ≡ true → (b : ℕ) (t : List ℕ) (ps : List Piece) → apart n ps ≡ true → on_pieces n b (led n t ps) ≡ record { name = n; text = b ∷ t } ∷ ps
join n j b (x ∷ t) ps a = rw (j, eq-eqb n n refl)
join n j b [] [] a = refl
join n j b [] (p ∷ ps) a = rw (j, not-true (eqb n p.name) a)

pub single : (b : ℕ) (ps : List Piece) → on_pieces 10 b ps ≡ record { name = 10; text = b ∷ [] } ∷ ps
single b [] = refl
single b (p ∷ ps) = refl

module _ (kind : ℕ → ℕ) where
  -- ## Whitespace

  space_apart : (u : List ℕ) → apart 1 (row_pieces kind false (unindented kind u)) ≡ true
  unfolding unindented row_pieces
  space_apart [] = refl
  space_apart (b ∷ u) = go (view (kind b)) (space_apart u)
    where
      go : View (kind b) → apart 1 (row_pieces kind false (unindented kind u)) ≡ true → apart 1 (row_pieces kind false (unindented kind (b ∷ u))) ≡ true
      go (space e) h = simp e h
      go (pipe e) h = simp e (apart_on 1 10 b (row_pieces kind false u) refl)
      go (slash e) h = simp e (apart_on 1 3 b (row_pieces kind true u) refl)
      go (plain e f g) h = simp (e, f, g) (apart_on 1 3 b (row_pieces kind false u) refl)

  pub space_pieces : (u : List ℕ) → row_pieces kind false u ≡ led 1 (indent kind u) (row_pieces kind false (unindented kind u))
  unfolding indent unindented row_pieces
  space_pieces [] = refl
  space_pieces (b ∷ u) = go (view (kind b)) (space_pieces u)
    where
      go : View (kind b) → row_pieces kind false u ≡ led 1 (indent kind u) (row_pieces kind false (unindented kind u))
          → row_pieces kind false (b ∷ u) ≡ led 1 (indent kind (b ∷ u)) (row_pieces kind false (unindented kind (b ∷ u)))
      go (space e) h = simp (e, h) (join 1 refl b (indent kind u) (row_pieces kind false (unindented kind u)) (space_apart u))
      go (pipe e) h = simp e
      go (slash e) h = simp e
      go (plain e f g) h = simp (e, f, g)

  -- ## Data

  pub data_off : (b : ℕ) (u : List ℕ) → (kind b ≡ 1) ⊎ (kind b ≡ 3) → data_run kind false (b ∷ u) ≡ []
  unfolding data_run
  data_off b u (inl e) = rw e
  data_off b u (inr e) = rw e

  pub slash_on : (b : ℕ) (u : List ℕ) → kind b ≡ 4 → data_run kind false (b ∷ u) ≡ b ∷ data_run kind true u
  unfolding data_run
  slash_on b u e = simp e

  pub plain_on : (b : ℕ) (u : List ℕ) → (kind b < 1) ⊎ (4 < kind b) → data_run kind false (b ∷ u) ≡ b ∷ data_run kind false u
  unfolding data_run
  plain_on b u (inl l) = simp (ne_eqb (kind b) 1 (λ z. omega arith), ne_eqb (kind b) 3 (λ z. omega arith), ne_eqb (kind b) 4 (λ z. omega arith))
  plain_on b u (inr l) = simp (ne_eqb (kind b) 1 (λ z. omega arith), ne_eqb (kind b) 3 (λ z. omega arith), ne_eqb (kind b) 4 (λ z. omega arith))

  pub data_some : (b : ℕ) (u : List ℕ) → (kind b ≡ 1 → ⊥) → (kind b ≡ 3 → ⊥) → 0 < length (data_run kind false (b ∷ u))
  unfolding data_run
  data_some b u e f = rw (ne_eqb (kind b) 1 e, ne_eqb (kind b) 3 f) (omega arith)

  pub data_split : (odd : Bool) (u : List ℕ) → data_run kind odd u ++ data_rest kind odd u ≡ u
  unfolding data_run data_rest
  data_split odd [] = refl
  data_split odd (b ∷ u) =
      let o = odd_after kind odd b in
      split (eqb (row_name kind odd b) 3) b (data_run kind o u) (data_rest kind o u) u (data_split o u)

  data_apart : (odd : Bool) (u : List ℕ) → apart 3 (row_pieces kind false (data_rest kind odd u)) ≡ true
  unfolding data_rest row_pieces
  data_apart odd [] = refl
  data_apart odd (b ∷ u) = go odd (view (kind b)) (data_apart (odd_after kind odd b) u)
    where
      go : (odd : Bool) → View (kind b) → apart 3 (row_pieces kind false (data_rest kind (odd_after kind odd b) u)) ≡ true
          → apart 3 (row_pieces kind false (data_rest kind odd (b ∷ u))) ≡ true
      go odd (space e) h = simp e (apart_on 3 1 b (row_pieces kind false u) refl)
      go true (pipe e) h = simp e (simp e at h)
      go false (pipe e) h = simp e (apart_on 3 10 b (row_pieces kind false u) refl)
      go odd (slash e) h = simp e (simp e at h)
      go odd (plain e f g) h = simp (e, f, g) (simp g at h)

  -- what the pieces of a stretch are, and the same where a byte of data stands in front
  abbrev Led : Bool → List ℕ → Type 0
  Led odd u = row_pieces kind odd u ≡ led 3 (data_run kind odd u) (row_pieces kind false (data_rest kind odd u))

  data_on : (odd : Bool) (b : ℕ) (u : List ℕ) → row_name kind odd b ≡ 3 → Led (odd_after kind odd b) u → Led odd (b ∷ u)
  unfolding data_run data_rest row_pieces
  data_on odd b u n h =
      let o = odd_after kind odd b in
      rw (n, h) (join 3 refl b (data_run kind o u) (row_pieces kind false (data_rest kind o u)) (data_apart o u))

  pub data_pieces : (odd : Bool) (u : List ℕ) → Led odd u
  unfolding data_run data_rest row_pieces
  data_pieces odd [] = refl
  data_pieces odd (b ∷ u) = go odd (view (kind b)) (data_pieces (odd_after kind odd b) u)
    where
      go : (odd : Bool) → View (kind b) → Led (odd_after kind odd b) u → Led odd (b ∷ u)
      go odd (space e) h = simp e
      go true (pipe e) h = data_on true b u (simp e) h
      go false (pipe e) h = simp e
      go odd (slash e) h = data_on odd b u (simp e) h
      go odd (plain e f g) h = data_on odd b u (simp (e, f)) h

  -- ## Escapes

  pub escape_on : (b : ℕ) (u : List ℕ) → 3 ≤ kind b → kind b ≤ 4 → escaped kind (b ∷ u) ≡ b ∷ []
  escape_on b u g l = go (view (kind b))
    where
      go : View (kind b) → escaped kind (b ∷ u) ≡ b ∷ []
      go (space e) = absurd (omega arith)
      go (pipe e) = rw e
      go (slash e) = rw e
      go (plain e f h) = absurd (let x = eqb-false (kind b) 3 f in let y = eqb-false (kind b) 4 h in omega arith)

  pub escape_split : (u : List ℕ) → escaped kind u ++ unescaped kind u ≡ u
  escape_split [] = refl
  escape_split (b ∷ u) = split (eqb (kind b) 3 || eqb (kind b) 4) b [] u u refl

  pub escape_run : (u : List ℕ) → data_run kind true u ≡ escaped kind u ++ data_run kind false (unescaped kind u)
  unfolding data_run
  escape_run [] = refl
  escape_run (b ∷ u) = go (view (kind b))
    where
      go : View (kind b) → data_run kind true (b ∷ u) ≡ escaped kind (b ∷ u) ++ data_run kind false (unescaped kind (b ∷ u))
      go (space e) = simp e
      go (pipe e) = simp e
      go (slash e) = simp e
      go (plain e f g) = simp (e, f, g)

-- ## Columns

module _ {kind : ℕ → ℕ} (ok : Reads kind) where
  tabless : (odd : Bool) (b : ℕ) → eqb (row_name kind odd b) 3 ≡ true → eqb b 9 ≡ false
  tabless odd b e = go (eqb b 9) refl
    where
      go : (t : Bool) → eqb b 9 ≡ t → t ≡ false
      go true f = absurd (true≢false (sym e ∙ simp (eqb-true (kind b) 1 (ok.spaces b ∙ ap (λ (t : Bool). t || eqb b 32) f))))
      go false f = refl

  -- no tab lies in data, so each byte is a column
  pub data_columns : (odd : Bool) (u : List ℕ) (c : ℕ) → column_past c (data_run kind odd u) ≡ c + length (data_run kind odd u)
  unfolding column_past column_after data_run
  data_columns odd [] c = sym (add-zero c)
  data_columns odd (b ∷ u) c = go (eqb (row_name kind odd b) 3) refl (data_columns (odd_after kind odd b) u (c + 1))
    where
      go : (t : Bool) → eqb (row_name kind odd b) 3 ≡ t → column_past (c + 1) (data_run kind (odd_after kind odd b) u) ≡ c + 1 + length (data_run kind (odd_after kind odd b) u)
          → column_past c (cond t (b ∷ data_run kind (odd_after kind odd b) u) []) ≡ c + length (cond t (b ∷ data_run kind (odd_after kind odd b) u) [])
      go true e h =
          ap (λ (k : ℕ). column_past k (data_run kind (odd_after kind odd b) u)) (ap (λ (t : Bool). cond t ((c + 3) / 4 * 4 + 1) (c + 1)) (tabless odd b e)) ∙ h ∙ (omega arith)
      go false e h = sym (add-zero c)
