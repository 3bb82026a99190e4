-- The first stretch of a delimiter row: where it ends, and when it is a value.
-- Assumes nothing.
use Prim.Native.Nat.{ℕ, ◌+◌}
use mathlib.Core.Path.{◌≡◌, refl, ap, sym, ◌∙◌}
use mathlib.Core.Bool.{Bool, true, false, cond, ◌&&◌, and-true, and-false, or-false, true≢false, false≢true}
use mathlib.Core.List.{List, [], ◌∷◌, ◌++◌}
use native.Mathlib.Omega.{arith}
use borrow.Author.Tests.{eqb-true, eqb-false, ne_eqb}
use lib.Dec.{eqb}
use lib.ListN.{drop, get_or}
use Rattle.tokenizer.specs.declared.event.Point.{Point}
use Rattle.tokenizer.specs.Bytes.{Reads}
use Rattle.tokenizer.specs.Lines.{is_empty, is_space, indent, unindented, blank}
use Rattle.gfm_table.specs.Heads.{untailed, hyphens}
use Rattle.tokenizer.specs.Lines.{line_body}
use Rattle.tokenizer.specs.Moves.{ahead_of, rest_of, over_at, run_of, after_run, Inside}
use Rattle.gfm_table.specs.Delimiters.{stretch, closes, written, blank_at, closed_at, hyphens_at, cell_at}
use Rattle.std.specs.Prelude.{Some, None}
use Rattle.gfm_table.specs.declared.delimiter.Cell.TheVariants.{Empty, Value}
use Rattle.tokenizer.proofs.Ahead.{Front, goes, ends, run_end, end_none, end_over, rest_end, inside-end, end-end, line_case}
use Rattle.tokenizer.proofs.Runs.{space_split, run_split}

-- ## The kinds that a delimiter row tells apart

pub data View (k : ℕ) : Type 0 where
  space : k ≡ 1 → View k
  pipe : k ≡ 3 → View k
  hyphen : k ≡ 5 → View k
  colon : k ≡ 6 → View k
  other : eqb k 1 ≡ false → eqb k 3 ≡ false → eqb k 5 ≡ false → eqb k 6 ≡ false → View k

pub view : (k : ℕ) → View k
view k = go (eqb k 1) (eqb k 3) (eqb k 5) (eqb k 6) refl refl refl refl
  where
    go : (a b c d : Bool) → eqb k 1 ≡ a → eqb k 3 ≡ b → eqb k 5 ≡ c → eqb k 6 ≡ d → View k
    go true b c d o p q r = space (eqb-true k 1 o)
    go false true c d o p q r = pipe (eqb-true k 3 p)
    go false false true d o p q r = hyphen (eqb-true k 5 q)
    go false false false true o p q r = colon (eqb-true k 6 r)
    go false false false false o p q r = other o p q r

module _ (kind : ℕ → ℕ) where
  pub stretch_on : (b : ℕ) (u : List ℕ) → (kind b ≡ 3 → ⊥) → stretch kind (b ∷ u) ≡ b ∷ stretch kind u
  unfolding stretch
  stretch_on b u h = rw (ne_eqb (kind b) 3 h)

  -- whitespace in front of a stretch is whitespace in front of what it is taken from
  pub stretch-indent : (u : List ℕ) → unindented kind (stretch kind u) ≡ stretch kind (unindented kind u)
  unfolding stretch unindented
  stretch-indent [] = refl
  stretch-indent (b ∷ u) = go (view (kind b)) (stretch-indent u)
    where
      go : View (kind b) → unindented kind (stretch kind u) ≡ stretch kind (unindented kind u) → unindented kind (stretch kind (b ∷ u)) ≡ stretch kind (unindented kind (b ∷ u))
      go (space e) h = simp e h
      go (pipe e) h = simp e
      go (hyphen e) h = simp e
      go (colon e) h = simp e
      go (other e f g i) h = simp (e, f)

  -- ## A value's hyphens, and what follows them

  untailed-blank : (u : List ℕ) → is_empty (untailed kind u) ≡ blank kind u
  unfolding untailed unindented
  untailed-blank [] = refl
  untailed-blank (b ∷ u) = go (is_space kind b) (blank kind u) refl
    where
      go : (t e : Bool) → blank kind u ≡ e → is_empty (cond (t && e) [] (b ∷ untailed kind u)) ≡ is_empty (cond t (unindented kind u) (b ∷ u))
      go true true h = sym h
      go true false h = sym h
      go false e h = refl

  -- no hyphen in front
  pub hyphens_off : (b : ℕ) (u : List ℕ) → eqb (kind b) 5 ≡ false → hyphens kind (b ∷ u) ≡ false
  unfolding hyphens
  hyphens_off b [] e = e
  hyphens_off b (c ∷ u) e = rw e

  pub hyphens-none : (b : ℕ) (u : List ℕ) → eqb (kind b) 5 ≡ false → hyphens kind (untailed kind (stretch kind (b ∷ u))) ≡ false
  unfolding stretch untailed hyphens
  hyphens-none b u e = go (eqb (kind b) 3)
    where
      go : (t : Bool) → hyphens kind (untailed kind (cond t [] (b ∷ stretch kind u))) ≡ false
      go true = refl
      go false = go' (is_space kind b && blank kind (stretch kind u))
        where
          go' : (t : Bool) → hyphens kind (cond t [] (b ∷ untailed kind (stretch kind u))) ≡ false
          go' true = refl
          go' false = hyphens_off b (untailed kind (stretch kind u)) e

  -- after a hyphen
  module _ (b : ℕ) (e : kind b ≡ 5) where
    then_none : hyphens kind (b ∷ []) ≡ true
    unfolding hyphens
    then_none = rw e

    then_hyphen : (c : ℕ) (y : List ℕ) → kind c ≡ 5 → hyphens kind (b ∷ c ∷ y) ≡ hyphens kind (c ∷ y)
    unfolding hyphens
    then_hyphen c y f = rw (e, f, and-false (is_empty y))

    then_colon : (c : ℕ) (y : List ℕ) → kind c ≡ 6 → hyphens kind (b ∷ c ∷ y) ≡ is_empty y
    unfolding hyphens
    then_colon c y f = rw (e, hyphens_off c y (rw f), f, and-true (is_empty y), or-false (is_empty y))

    then_other : (c : ℕ) (y : List ℕ) → eqb (kind c) 5 ≡ false → eqb (kind c) 6 ≡ false → hyphens kind (b ∷ c ∷ y) ≡ false
    unfolding hyphens
    then_other c y f g = rw (e, hyphens_off c y f, g, and-false (is_empty y))

  -- more hyphens, an optional colon and whitespace
  after_hyphen : (b : ℕ) (u : List ℕ) → kind b ≡ 5 → hyphens kind (b ∷ untailed kind (stretch kind u)) ≡ closes kind (after_run kind 5 u)
  unfolding stretch untailed unindented after_run
  after_hyphen b [] e = then_none b e
  after_hyphen b (c ∷ w) e = go (view (kind c)) (after_hyphen c w)
    where
      spaces : (t : Bool) → kind c ≡ 1 → hyphens kind (b ∷ cond t [] (c ∷ untailed kind (stretch kind w))) ≡ t
      spaces true f = then_none b e
      spaces false f = then_other b e c (untailed kind (stretch kind w)) (rw f) (rw f)

      go : View (kind c) → (kind c ≡ 5 → hyphens kind (c ∷ untailed kind (stretch kind w)) ≡ closes kind (after_run kind 5 w))
          → hyphens kind (b ∷ untailed kind (stretch kind (c ∷ w))) ≡ closes kind (after_run kind 5 (c ∷ w))
      go (space f) h = simp f (spaces (blank kind (stretch kind w)) f)
      go (pipe f) h = simp f (then_none b e)
      go (hyphen f) h = simp f (then_hyphen b e c (untailed kind (stretch kind w)) f ∙ h f)
      go (colon f) h = simp f (then_colon b e c (untailed kind (stretch kind w)) f ∙ untailed-blank (stretch kind w))
      go (other f g i j) h = simp (f, g, i, j) (then_other b e c (untailed kind (stretch kind w)) i j)

  -- a run of hyphens in front
  pub hyphens_on : (b : ℕ) (u : List ℕ) → kind b ≡ 5 → hyphens kind (untailed kind (stretch kind (b ∷ u))) ≡ closes kind (after_run kind 5 (b ∷ u))
  unfolding stretch untailed after_run
  hyphens_on b u e = simp e (after_hyphen b u e)

  -- ## A stretch, whitespace off

  -- what is in front of a stretch is in front of what follows the stretch's first run
  stretch_cond : (t : Bool) (b : ℕ) (a r u : List ℕ) → (t ≡ true → kind b ≡ 3 → ⊥) → stretch kind u ≡ a ++ stretch kind r → stretch kind (b ∷ u) ≡ cond t (b ∷ a) [] ++ stretch kind (cond t r (b ∷ u))
  stretch_cond true b a r u h e = stretch_on b u (h refl) ∙ ap (λ (l : List ℕ). b ∷ l) e
  stretch_cond false b a r u h e = refl

  pub stretch_space : (u : List ℕ) → stretch kind u ≡ indent kind u ++ stretch kind (unindented kind u)
  unfolding indent unindented
  stretch_space [] = refl
  stretch_space (b ∷ u) = stretch_cond (eqb (kind b) 1) b (indent kind u) (unindented kind u) u (λ e z. let f = eqb-true (kind b) 1 e in omega arith) (stretch_space u)

  pub stretch-hyphens : (u : List ℕ) → stretch kind u ≡ run_of kind 5 u ++ stretch kind (after_run kind 5 u)
  unfolding run_of after_run
  stretch-hyphens [] = refl
  stretch-hyphens (b ∷ u) = stretch_cond (eqb (kind b) 5) b (run_of kind 5 u) (after_run kind 5 u) u (λ e z. let f = eqb-true (kind b) 5 e in omega arith) (stretch-hyphens u)

  unindented-first : (u : List ℕ) (b : ℕ) (w : List ℕ) → unindented kind u ≡ b ∷ w → eqb (kind b) 1 ≡ false
  unfolding unindented
  unindented-first [] b w e = absurd (let z : ◌≡◌ {A = ℕ} 0 1 = cc in omega arith)
  unindented-first (c ∷ u) b w e = go (eqb (kind c) 1) refl (λ i. unindented-first u b w i) e
    where
      go : (t : Bool) → eqb (kind c) 1 ≡ t → (unindented kind u ≡ b ∷ w → eqb (kind b) 1 ≡ false) → cond t (unindented kind u) (c ∷ u) ≡ b ∷ w → eqb (kind b) 1 ≡ false
      go true h r e = r e
      go false h r e = let i : c ≡ b = cc in rw (← i) h

  -- a stretch that does not end after its whitespace begins with the byte there
  pub written_on : (u : List ℕ) (b : ℕ) (w : List ℕ) → unindented kind u ≡ b ∷ w → (kind b ≡ 3 → ⊥) → untailed kind (unindented kind (stretch kind u)) ≡ b ∷ untailed kind (stretch kind w)
  unfolding untailed
  written_on u b w e h = rw (stretch-indent u, e, stretch_on b w h, unindented-first u b w e)

  pub written_none : (u : List ℕ) → is_empty (stretch kind (unindented kind u)) ≡ true → untailed kind (unindented kind (stretch kind u)) ≡ []
  unfolding untailed
  written_none u e = rw (stretch-indent u) (go (stretch kind (unindented kind u)) e)
    where
      go : (v : List ℕ) → is_empty v ≡ true → untailed kind v ≡ []
      go [] e = refl
      go (b ∷ v) e = absurd (false≢true e)

-- ## Cells at points

empty-none : (u : List ℕ) → is_empty u ≡ true → u ≡ []
empty-none [] e = refl
empty-none (b ∷ u) e = absurd (false≢true e)

module _ {kind : ℕ → ℕ} (ok : Reads kind) where
  pub ends_two : (u : List ℕ) → ahead_of kind u ≡ 2 → true ≡ is_empty (stretch kind (line_body u))
  unfolding stretch
  ends_two u e = rw (ends ok u e)

  pub ends-front : (s : List ℕ) (i k : ℕ) → Front kind s i k → eqb k 3 ≡ is_empty (stretch kind (line_body (drop i s)))
  unfolding stretch
  ends-front s i k f = rw (f.line, f.is) (go (eqb k 3))
    where
      go : (t : Bool) → t ≡ is_empty (cond t [] (get_or s i 0 ∷ stretch kind (line_body (drop (i + 1) s))))
      go true = refl
      go false = refl

  -- a stretch that does not end here goes on
  pub goes_in : (s : List ℕ) (i k : ℕ) → k ≡ ahead_of kind (drop i s) → is_empty (stretch kind (line_body (drop i s))) ≡ false → Front kind s i k × (k ≡ 3 → ⊥)
  goes_in s i k e h =
      let f = goes ok s i k e (λ z. true≢false (ends_two (drop i s) (sym e ∙ z) ∙ h)) in
      (f, eqb-false k 3 (ends-front s i k f ∙ h))

  module _ (s : List ℕ) (p : Point) where
    -- after the whitespace
    abbrev solid_at : Point
    solid_at = run_end (indent kind) s p

    solid-rest : rest_of s solid_at ≡ unindented kind (rest_of s p)
    solid-rest = rest_end (indent kind) (unindented kind) (space_split kind) s p

    pub solid-inside : Inside s p → Inside s solid_at
    solid-inside = inside-end (indent kind) (unindented kind) (space_split kind) s p

    solid-end : run_end (stretch kind) s solid_at ≡ run_end (stretch kind) s p
    solid-end = end-end (indent kind) (unindented kind) (space_split kind) s p (stretch kind) (stretch kind) (stretch_space kind)

    solid-ends : Inside s p → is_empty (stretch kind (rest_of s solid_at)) ≡ true → solid_at ≡ run_end (stretch kind) s p
    solid-ends h e = sym (end_none (stretch kind) s solid_at (solid-inside h) (empty-none (stretch kind (rest_of s solid_at)) e)) ∙ solid-end

    -- whitespace to the end of the stretch, or not
    blank-solid : is_empty (stretch kind (rest_of s solid_at)) ≡ blank kind (stretch kind (rest_of s p))
    blank-solid = ap (λ (l : List ℕ). is_empty (stretch kind l)) solid-rest ∙ ap is_empty (sym (stretch-indent kind (rest_of s p)))

    pub blank_value : Inside s p → is_empty (stretch kind (rest_of s solid_at)) ≡ true → Some (Value solid_at) ≡ blank_at kind p (rest_of s p)
    blank_value h e = rw (← blank-solid, e) (ap (λ (q : Point). Some (Value q)) (solid-ends h e))

    pub blank_bad : is_empty (stretch kind (rest_of s solid_at)) ≡ false → None ≡ blank_at kind p (rest_of s p)
    blank_bad e = rw (← blank-solid, e)

    -- after the hyphens

    pub closed-colon : (f : (Front kind) s p.index 6) → blank_at kind (over_at s p) (rest_of s (over_at s p)) ≡ closed_at kind p (rest_of s p)
    closed-colon f =
        let l : closes kind (rest_of s p) ≡ blank kind (stretch kind (rest_of s (over_at s p))) = rw (f.line, f.is) in
        rw (l, end_over s p 6 f (stretch kind) (stretch kind) (λ b u e. stretch_on kind b u (λ z. omega arith)))

    closes-blank : (v : List ℕ) → (ahead_of kind v ≡ 6 → ⊥) → closes kind (line_body v) ≡ blank kind (stretch kind (line_body v))
    unfolding line_body stretch unindented
    closes-blank [] h = refl
    closes-blank (b ∷ v) h = line_case ok b v (λ l. closes kind l ≡ blank kind (stretch kind l)) refl (λ z. rw (ne_eqb (kind b) 6 h))

    pub closed_none : (ahead_of kind (drop p.index s) ≡ 6 → ⊥) → blank_at kind p (rest_of s p) ≡ closed_at kind p (rest_of s p)
    closed_none h = rw (closes-blank (drop p.index s) h)

    -- at the hyphens

    abbrev filled_at : Point
    filled_at = run_end (run_of kind 5) s p

    pub filled-inside : Inside s p → Inside s filled_at
    filled-inside = inside-end (run_of kind 5) (after_run kind 5) (run_split kind 5) s p

    pub hyphens_value : (f : (Front kind) s p.index 5) → closed_at kind filled_at (rest_of s filled_at) ≡ hyphens_at kind p (rest_of s p)
    hyphens_value f =
        let e : run_end (stretch kind) s filled_at ≡ run_end (stretch kind) s p = end-end (run_of kind 5) (after_run kind 5) (run_split kind 5) s p (stretch kind) (stretch kind) (stretch-hyphens kind) in
        let r : rest_of s filled_at ≡ after_run kind 5 (rest_of s p) = rest_end (run_of kind 5) (after_run kind 5) (run_split kind 5) s p in
        let l : hyphens kind (untailed kind (stretch kind (rest_of s p))) ≡ closes kind (rest_of s filled_at) = rw (r, f.line) (hyphens_on kind _ _ f.is) in
        rw (l, e)

    hyphens_bad' : (v : List ℕ) → (ahead_of kind v ≡ 5 → ⊥) → hyphens kind (untailed kind (stretch kind (line_body v))) ≡ false
    unfolding line_body stretch untailed hyphens
    hyphens_bad' [] h = refl
    hyphens_bad' (b ∷ v) h = line_case ok b v (λ l. hyphens kind (untailed kind (stretch kind l)) ≡ false) refl (λ z. hyphens-none kind b (line_body v) (ne_eqb (kind b) 5 h))

    pub hyphens_bad : (ahead_of kind (drop p.index s) ≡ 5 → ⊥) → None ≡ hyphens_at kind p (rest_of s p)
    hyphens_bad h = rw (hyphens_bad' (drop p.index s) h)

    -- the whole stretch

    pub cell-empty : Inside s p → is_empty (stretch kind (rest_of s solid_at)) ≡ true → Some (Empty solid_at) ≡ cell_at kind p (rest_of s p)
    cell-empty h e = rw (written_none kind (rest_of s p) (rw (← solid-rest) e)) (ap (λ (q : Point). Some (Empty q)) (solid-ends h e))

    -- the stretch goes on with a byte of the kind k
    module _ (k : ℕ) (f : (Front kind) s solid_at.index k) (h : k ≡ 3 → ⊥) where
      written-solid : (written kind) (rest_of s p) ≡ get_or s solid_at.index 0 ∷ untailed kind (stretch kind (rest_of s (over_at s solid_at)))
      written-solid = written_on kind (rest_of s p) _ _ (sym solid-rest ∙ f.line) (λ z. h (sym f.is ∙ z))

      pub cell-colon : k ≡ 6 → hyphens_at kind (over_at s solid_at) (rest_of s (over_at s solid_at)) ≡ cell_at kind p (rest_of s p)
      cell-colon e =
          rw (written-solid, f.is, e, end_over s solid_at k f (stretch kind) (stretch kind) (λ b u g. stretch_on kind b u (λ z. h (sym g ∙ z))), solid-end)

      pub cell-plain : (k ≡ 6 → ⊥) → hyphens_at kind solid_at (rest_of s solid_at) ≡ cell_at kind p (rest_of s p)
      cell-plain e =
          let l : untailed kind (stretch kind (rest_of s solid_at)) ≡ written kind (rest_of s p) = rw (solid-rest, stretch-indent kind (rest_of s p)) in
          rw (l, written-solid, f.is, ne_eqb k 6 e, solid-end)
