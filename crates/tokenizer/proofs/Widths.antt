-- Whitespace by units and by bytes: a run of at most n units that the whitespace does not exceed ends where the bytes end, and a run that
-- it exceeds ends before more whitespace. So a tab counts as its columns.
-- Assumes nothing.
use Prim.Native.Nat.{ℕ, zero, suc, ◌+◌, ◌*◌, ◌/◌, ◌%◌, ◌≤◌, ◌<◌}
use mathlib.Core.Path.{◌≡◌, refl, ap, subst, sym, ◌∙◌}
use mathlib.Core.Bool.{Bool, true, false, cond, not}
use mathlib.Core.List.{List, [], ◌∷◌}
use native.Mathlib.Omega.{arith}
use borrow.Author.Tests.{eq-eqb, eqb-true, eqb-false, leb-true, leb-false}
use lib.Dec.{eqb, leb}
use lib.ListN.{length, drop}
use lib.Seq.{drop-drop}
use Rattle.tokenizer.specs.declared.event.Point.{Point}
use Rattle.tokenizer.specs.Bytes.{kind_of, is_end, Reads}
use Rattle.tokenizer.specs.Points.{column_after, column_past, past}
use Rattle.tokenizer.specs.Lines.{line_body, indent}
use Rattle.tokenizer.specs.Feed.{unit_of}
use Rattle.tokenizer.specs.Spaces.{space_at, next_unit, spaces_past, space_ends}
use Rattle.tokenizer.specs.Moves.{ahead_of, rest_of}
use Rattle.tokenizer.proofs.Bytes.{built, no_end, same_space}
use Rattle.tokenizer.proofs.Runs.{space_on}
use Rattle.tokenizer.proofs.Ahead.{past-none, past-append}

-- ## What a unit reads as is whitespace where its byte is

unit_kind : (b vs : ℕ) → eqb (kind_of (unit_of vs b)) 1 ≡ eqb (kind_of b) 1
unfolding kind_of
unit_kind b vs = go (eqb b 13) (eqb b 9) (eqb vs 0) refl refl refl
  where
    go : (r t z : Bool) → eqb b 13 ≡ r → eqb b 9 ≡ t → eqb vs 0 ≡ z → eqb (kind_of (unit_of vs b)) 1 ≡ eqb (kind_of b) 1
    go true t z e f g = rw (eqb-true b 13 e)
    go false true true e f g = rw (eqb-true b 9 f, g)
    go false true false e f g = rw (eqb-true b 9 f, g)
    go false false z e f g = simp (e, f)

module _ (s : List ℕ) (p : Point) where
  space_front : (u : List ℕ) → drop p.index s ≡ u → space_at s p ≡ eqb (ahead_of kind_of u) 1
  space_front [] e = rw e
  space_front (b ∷ u) e = rw e (unit_kind b p.vs)

  drop-next : (b : ℕ) (u : List ℕ) → drop p.index s ≡ b ∷ u → drop (p.index + 1) s ≡ u
  drop-next b u e = sym (drop-drop 1 p.index s) ∙ ap (drop 1) e

-- ## Columns grow

after_more : (c b : ℕ) → c < column_after c b
unfolding column_after
after_more c b = go (eqb b 9)
  where
    go : (t : Bool) → c < cond t ((c + 3) / 4 * 4 + 1) (c + 1)
    go true = omega arith
    go false = omega arith

-- a byte is a unit or more
pub bytes-wide : (c : ℕ) (u : List ℕ) → c + length u ≤ column_past c u
unfolding column_past
bytes-wide c [] = omega arith
bytes-wide c (b ∷ u) = let h = bytes-wide (column_after c b) u in omega (arith, after_more c b)

-- ## Runs

-- a run of at most n units at a point, where the bytes of whitespace lead to the column e and the point q, and none stands there
pub record Runs (s : List ℕ) (n : ℕ) (p : Point) (e : ℕ) (q : Point) : Type 0 where
  pub whole : e ≤ p.column + n → spaces_past s n p ≡ q
  pub part : p.column + n < e → space_at s (spaces_past s n p) ≡ true
  pub bare : space_at s q ≡ false

-- no whitespace
none : (s : List ℕ) (n : ℕ) (p : Point) → space_at s p ≡ false → Runs s n p p.column p
unfolding spaces_past
none s zero p e = record { whole = λ h. refl; part = λ h. absurd (omega arith); bare = e }
none s (suc n) p e = record { whole = λ h. rw e; part = λ h. absurd (omega arith); bare = e }

-- a unit of whitespace before a run
one : (s : List ℕ) (n : ℕ) (p p' : Point) (e : ℕ) (q : Point) → space_at s p ≡ true → next_unit s p ≡ p' → p'.column ≡ p.column + 1 → p.column < e
    → Runs s n p' e q → Runs s (suc n) p e q
unfolding spaces_past
one s n p p' e q t m c l r = record { whole = λ h. rw (t, m) (r.whole (omega arith)); part = λ h. rw (t, m) (r.part (omega arith)); bare = r.bare }

-- no unit is passed
still : (s : List ℕ) (p : Point) (e : ℕ) (q : Point) → space_at s p ≡ true → p.column < e → space_at s q ≡ false → Runs s 0 p e q
unfolding spaces_past
still s p e q t l b = record { whole = λ h. absurd (omega arith); part = λ h. t; bare = b }

-- ## A byte of whitespace before a run

tab_kind : eqb (kind_of 9) 1 ≡ true
unfolding kind_of
tab_kind = refl

-- the point behind a tab
abbrev behind : Point → ℕ → Point
behind p c = record { line = p.line; column = c; index = p.index + 1; vs = 0 }

abbrev stop_of : ℕ → ℕ
stop_of c = (c + 3) / 4 * 4 + 1

-- a tab: its units lead to the next stop, from wherever the run stands in it
tab : (s : List ℕ) (n : ℕ) (p : Point) (v : List ℕ) (e : ℕ) (q : Point) → drop p.index s ≡ 9 ∷ v
    → ((m : ℕ) → Runs s m (behind p (stop_of p.column)) e q) → stop_of p.column ≤ e → Runs s n p e q
tab s zero p v e q d k l = still s p e q (space_front s p (9 ∷ v) d ∙ tab_kind) (omega arith) (k 0).bare
tab s (suc n) p v e q d k l = go (eqb (p.column % 4) 0) refl (λ p'. tab s n p' v e q)
  where
    t : space_at s p ≡ true
    t = space_front s p (9 ∷ v) d ∙ tab_kind

    go : (z : Bool) → eqb (p.column % 4) 0 ≡ z
        → ((p' : Point) → drop p'.index s ≡ 9 ∷ v → ((m : ℕ) → Runs s m (behind p' (stop_of p'.column)) e q) → stop_of p'.column ≤ e → Runs s n p' e q)
        → Runs s (suc n) p e q
    go true z r =
        let h = eqb-true (p.column % 4) 0 z in
        let x : p.column + 1 ≡ stop_of p.column = omega arith in
        one s n p (behind p (stop_of p.column)) e q t (rw (d, z) (ap (behind p) x)) (sym x) (omega arith) (k n)
    go false z r =
        let h = eqb-false (p.column % 4) 0 z in
        let x : stop_of p.column ≡ stop_of (p.column + 1) = omega arith in
        let p' : Point = record { line = p.line; column = p.column + 1; index = p.index; vs = p.vs + 1 } in
        one s n p p' e q t (rw (d, z)) refl (omega arith) (r p' d (λ m. subst (λ (c : ℕ). Runs s m (behind p c) e q) x (k m)) (omega arith))

column-one : (c b : ℕ) → eqb b 9 ≡ false → column_past c (b ∷ []) ≡ c + 1
unfolding column_past column_after
column-one c b z = rw z

column_tab : (c b : ℕ) → eqb b 9 ≡ true → column_past c (b ∷ []) ≡ stop_of c
unfolding column_past column_after
column_tab c b z = rw z

-- a space
blank : (s : List ℕ) (n : ℕ) (p : Point) (b : ℕ) (v : List ℕ) (e : ℕ) (q : Point) → drop p.index s ≡ b ∷ v → eqb (kind_of b) 1 ≡ true → is_end b ≡ false → eqb b 9 ≡ false
    → ((m : ℕ) → Runs s m (past p (b ∷ [])) e q) → p.column < e → Runs s n p e q
blank s zero p b v e q d f i g k l = still s p e q (space_front s p (b ∷ v) d ∙ f) l (k 0).bare
blank s (suc n) p b v e q d f i g k l =
    one s n p (past p (b ∷ [])) e q (space_front s p (b ∷ v) d ∙ f) (rw (d, i, g)) (column-one p.column b g) l (k n)

-- ## Whitespace at a point

indent_on : (b : ℕ) (u : List ℕ) → kind_of b ≡ 1 → indent kind_of (line_body (b ∷ u)) ≡ b ∷ indent kind_of (line_body u)
unfolding line_body
indent_on b u e = rw (no_end built b (λ z. absurd (let y : ◌≡◌ {A = ℕ} 1 2 = sym e ∙ z in omega arith))) (space_on kind_of b (line_body u) e)

indent_off : (b : ℕ) (u : List ℕ) → eqb (kind_of b) 1 ≡ false → indent kind_of (line_body (b ∷ u)) ≡ []
unfolding line_body indent
indent_off b u e = go (is_end b)
  where
    go : (t : Bool) → indent kind_of (cond t [] (b ∷ line_body u)) ≡ []
    go true = refl
    go false = rw e

abbrev white : List ℕ → List ℕ
white u = indent kind_of (line_body u)

abbrev Widths : List ℕ → ℕ → Point → List ℕ → Type 0
Widths s n p w = Runs s n p (column_past p.column w) (past p w)

nothing : (s : List ℕ) (n : ℕ) (p : Point) → p.vs ≡ 0 → space_at s p ≡ false → Widths s n p []
unfolding column_past
nothing s n p f e = subst (λ (q : Point). Runs s n p p.column q) (sym (past-none p f)) (none s n p e)

front : (s : List ℕ) (n : ℕ) (p : Point) (b : ℕ) (v w : List ℕ) → drop p.index s ≡ b ∷ v → kind_of b ≡ 1 → ((m : ℕ) → Widths s m (past p (b ∷ [])) w) → Widths s n p (b ∷ w)
unfolding column_past
front s n p b v w d f k = go (eqb b 9) refl (λ m. subst (λ (q : Point). Runs s m (past p (b ∷ [])) e q) (past-append p (b ∷ []) w) (k m))
  where
    e : ℕ
    e = column_past p.column (b ∷ w)

    go : (t : Bool) → eqb b 9 ≡ t → ((m : ℕ) → Runs s m (past p (b ∷ [])) e (past p (b ∷ w))) → Runs s n p e (past p (b ∷ w))
    go true z r =
        let x = column_tab p.column b z in
        tab s n p v e (past p (b ∷ w)) (d ∙ ap (λ (y : ℕ). y ∷ v) (eqb-true b 9 z))
        (λ m. subst (λ (c : ℕ). Runs s m (behind p c) e (past p (b ∷ w))) x (r m))
        (omega (arith, bytes-wide (column_after p.column b) w))
    go false z r =
        blank s n p b v e (past p (b ∷ w)) d (eq-eqb (kind_of b) 1 f) (no_end built b (λ y. absurd (let o : ◌≡◌ {A = ℕ} 1 2 = sym f ∙ y in omega arith))) z r
        (omega (arith, after_more p.column b, bytes-wide (column_after p.column b) w))

pub widths : (u : List ℕ) (s : List ℕ) (n : ℕ) (p : Point) → drop p.index s ≡ u → p.vs ≡ 0 → Widths s n p (white u)
unfolding line_body indent
widths [] s n p d f = nothing s n p f (space_front s p [] d)
widths (b ∷ u) s n p d f = go (eqb (kind_of b) 1) refl (λ m. widths u s m (past p (b ∷ [])) (drop-next s p b u d) refl)
  where
    go : (t : Bool) → eqb (kind_of b) 1 ≡ t → ((m : ℕ) → Widths s m (past p (b ∷ [])) (white u)) → Widths s n p (white (b ∷ u))
    go true e k = rw (indent_on b u (eqb-true (kind_of b) 1 e)) (front s n p b u (white u) d (eqb-true (kind_of b) 1 e) k)
    go false e k = rw (indent_off b u e) (nothing s n p f (space_front s p (b ∷ u) d ∙ e))

-- a run that the whitespace at a point does not exceed ends where its bytes end, and one that it exceeds ends before more whitespace
pub run_whole : (s : List ℕ) (n : ℕ) (p : Point) → p.vs ≡ 0 → column_past p.column (indent kind_of (rest_of s p)) ≤ p.column + n → spaces_past s n p ≡ past p (indent kind_of (rest_of s p))
run_whole s n p f = (widths (drop p.index s) s n p refl f).whole

pub run_part : (s : List ℕ) (n : ℕ) (p : Point) → p.vs ≡ 0 → p.column + n < column_past p.column (indent kind_of (rest_of s p)) → space_at s (spaces_past s n p) ≡ true
run_part s n p f = (widths (drop p.index s) s n p refl f).part

pub same-indent : {kind : ℕ → ℕ} (ok : Reads kind) (u : List ℕ) → indent kind_of u ≡ indent kind u
unfolding indent
same-indent ok [] = refl
same-indent {kind} ok (b ∷ u) = rw (same_space ok b) (ap (λ (r : List ℕ). cond (eqb (kind b) 1) (b ∷ r) []) (same-indent ok u))

-- so whether whitespace ends within n units is told by the column that its bytes lead to, by any kinds
pub ends-within : {kind : ℕ → ℕ} → Reads kind → (s : List ℕ) (n : ℕ) (p : Point) → p.vs ≡ 0 → space_ends s n p ≡ leb (column_past p.column (indent kind (rest_of s p))) (p.column + n)
ends-within ok s n p f = go (leb e (p.column + n)) refl ∙ ap (λ (w : List ℕ). leb (column_past p.column w) (p.column + n)) (same-indent ok (rest_of s p))
  where
    e : ℕ
    e = column_past p.column (indent kind_of (rest_of s p))

    go : (t : Bool) → leb e (p.column + n) ≡ t → space_ends s n p ≡ t
    go true h = ap not (ap (space_at s) (run_whole s n p f (leb-true e (p.column + n) h)) ∙ (widths (drop p.index s) s n p refl f).bare)
    go false h = ap not (run_part s n p f (leb-false e (p.column + n) h))
