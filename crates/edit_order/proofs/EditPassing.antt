-- Passes over the edits: a test of every edit, and a sum over them up to a limit.
-- Assumes nothing.
use Rattle.std.proofs.Common.{ℕ, ◌+◌, map, ◌≤◌, ◌<◌, ◌≡◌, ◌∙◌, refl, sym, ap, List, [], ◌∷◌, Bool, true, false, cond, eqb, ◌&&◌, sum_by, arith, Some, None, leb}
use native.Mathlib.Nat.{add-zero}
use borrow.Author.Tests.{lt-leb, le-leb}
use Rattle.std.proofs.lemmas.Bool.{leb-true, leb-false}
use Rattle.std.proofs.lemmas.List.Sums.{sum_by-cons}
use Rattle.edit_order.specs.declared.edit_slots.Edit.{Edit}
use Rattle.std.specs.List.{list_all}
use Rattle.edit_order.proofs.EditFolding.{through, through-none}
use Rattle.edit_order.specs.EditFives.{edit_of}
use Rattle.edit_order.specs.Edits.{every, here, removed}
use Rattle.edit_order.specs.EditCount.{adding, capped}

-- ## Every edit

every-all : (f : Edit → Bool) (gs : List (List ℕ)) → list_all (λ x. f (edit_of x)) gs ≡ every f (map edit_of gs)
unfolding every
every-all f [] = refl
every-all f (g ∷ gs) = ap (λ b. f (edit_of g) && b) (every-all f gs)

-- a test of every group is one of every edit
pub passes : (f : Edit → Bool) (gs : List (List ℕ)) (es : List Edit) → map edit_of gs ≡ es → list_all (λ x. f (edit_of x)) gs ≡ every f es
passes f gs es h = every-all f gs ∙ ap (every f) h

-- ## Sums

removed-all : (gs : List (List ℕ)) → sum_by (λ g. (edit_of g).removes) gs ≡ removed (map edit_of gs)
unfolding removed
removed-all [] = refl
removed-all (g ∷ gs) = sum_by-cons (λ (x : List ℕ). (edit_of x).removes) g gs ∙ ap (λ n. (edit_of g).removes + n) (removed-all gs)

-- what the groups remove is what the edits remove
pub removes : (gs : List (List ℕ)) (es : List Edit) → map edit_of gs ≡ es → sum_by (λ g. (edit_of g).removes) gs ≡ removed es
removes gs es h = removed-all gs ∙ ap removed h

pub adding_sum : (es : List Edit) → adding es ≡ sum_by (λ e. e.adds) es
unfolding adding
adding_sum [] = refl
adding_sum (e ∷ es) = ap (λ n. e.adds + n) (adding_sum es) ∙ sym (sum_by-cons (λ (f : Edit). f.adds) e es)

-- what an edit removes at a position
abbrev pub own : ℕ → Edit → ℕ
own p e = cond (eqb e.at p) e.removes 0

pub own-cons : (p : ℕ) (e : Edit) (es : List Edit) → removed (here p (e ∷ es)) ≡ own p e + removed (here p es)
unfolding removed here
own-cons p e es = go (eqb e.at p)
  where
    go : (b : Bool) → removed (cond b (e ∷ here p es) (here p es)) ≡ cond b e.removes 0 + removed (here p es)
    go true = refl
    go false = omega arith

pub here_sum : (p : ℕ) (es : List Edit) → removed (here p es) ≡ sum_by (own p) es
unfolding removed here
here_sum p [] = refl
here_sum p (e ∷ es) = own-cons p e es ∙ ap (λ n. own p e + n) (here_sum p es) ∙ sym (sum_by-cons (own p) e es)

-- ## A sum up to a limit

-- each number is added where the sum stays within the limit
pub summing : (limit : ℕ) (f : Edit → ℕ) (gs : List (List ℕ)) (a : ℕ) → a ≤ limit
    → through (λ b x. capped limit (b + f (edit_of x))) gs (Some a) ≡ capped limit (a + sum_by f (map edit_of gs))
unfolding through
summing limit f [] a h = rw (le-leb (a + 0) limit (omega (arith, h)), add-zero a)
summing limit f (x ∷ gs) a h = go (leb (a + n) limit) refl (summing limit f gs (a + n))
  where
    n : ℕ
    n = f (edit_of x)

    es : List Edit
    es = map edit_of gs

    on : a + n + sum_by f es ≡ a + sum_by f (edit_of x ∷ es)
    on = omega (arith, sum_by-cons f (edit_of x) es)

    go : (t : Bool) → leb (a + n) limit ≡ t → (a + n ≤ limit → through (λ b y. capped limit (b + f (edit_of y))) gs (Some (a + n)) ≡ capped limit (a + n + sum_by f es))
        → through (λ b y. capped limit (b + f (edit_of y))) gs (cond t (Some (a + n)) None) ≡ capped limit (a + sum_by f (edit_of x ∷ es))
    go true t ih = ih (leb-true (a + n) limit t) ∙ ap (capped limit) on
    go false t ih = through-none _ gs ∙ sym (rw (lt-leb (a + sum_by f (edit_of x ∷ es)) limit (omega (arith, on, leb-false (a + n) limit t))))

-- ## What a capped sum tells

pub is-capped : (limit n k : ℕ) → capped limit n ≡ Some k → (n ≡ k) × (n ≤ limit)
is-capped limit n k e = go (leb n limit) refl e
  where
    go : (b : Bool) → leb n limit ≡ b → cond b (Some n) None ≡ Some k → (n ≡ k) × (n ≤ limit)
    go true t x = (cc, leb-true n limit t)
    go false t x = cc

pub over_capped : (limit n : ℕ) → capped limit n ≡ None → limit < n
over_capped limit n e = go (leb n limit) refl e
  where
    go : (b : Bool) → leb n limit ≡ b → cond b (Some n) None ≡ None → limit < n
    go true t x = absurd (cc)
    go false t x = leb-false n limit t
