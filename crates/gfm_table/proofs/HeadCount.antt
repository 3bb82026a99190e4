-- The head's counter, which stands still at 2: counting on from what is held, and what it tells at the end of a line.
-- Assumes nothing.
use Prim.Native.Nat.{ℕ, ◌+◌, ◌-◌, ◌≤◌}
use mathlib.Core.Path.{◌≡◌, refl, ap, sym, ◌∙◌}
use mathlib.Core.Bool.{Bool, true, false, cond}
use mathlib.Core.List.{List, [], ◌∷◌}
use native.Mathlib.Omega.{arith}
use borrow.Author.Tests.{ltb-true, ltb-false, lt-ltb, le-ltb, lt-leb}
use lib.Dec.{leb, ltb}
use Rattle.gfm_table.specs.Rows.{Piece}
use Rattle.gfm_table.specs.Heads.{is_divider, lone_divider}
use Rattle.gfm_table.specs.HeadCount.{size_b_of, saturated, saturating_inc}

pub saturated-most : (n : ℕ) → saturated n ≤ 2
saturated-most n = go (ltb n 2) refl
  where
    go : (t : Bool) → ltb n 2 ≡ t → cond t n 2 ≤ 2
    go true e = omega (arith, ltb-true n 2 e)
    go false e = omega arith

-- up to 2 a count is held whole
pub saturated-small : (n : ℕ) → n ≤ 2 → saturated n ≡ n
saturated-small n h = go (ltb n 2) refl
  where
    go : (t : Bool) → ltb n 2 ≡ t → cond t n 2 ≡ n
    go true e = refl
    go false e = omega (arith, h, ltb-false n 2 e)

-- what is the same for all counts from 2 on is told by what is held
saturated_tells : {A : Type 0} (f : ℕ → A) → ((n : ℕ) → 2 ≤ n → f 2 ≡ f n) → (n : ℕ) → f (saturated n) ≡ f n
saturated_tells f h n = go (ltb n 2) refl
  where
    go : (t : Bool) → ltb n 2 ≡ t → f (cond t n 2) ≡ f n
    go true e = refl
    go false e = h n (ltb-false n 2 e)

-- ## Counting on

-- counting on from what is held comes to what is held of the whole
saturated_on : (n m : ℕ) → saturated (saturated n + m) ≡ saturated (n + m)
saturated_on n m = saturated_tells (λ (k : ℕ). saturated (k + m)) (λ k l. rw (le-ltb (2 + m) 2 (omega arith), le-ltb (k + m) 2 (omega (arith, l)))) n

inc_held : (n : ℕ) → n ≤ 2 → saturating_inc n ≡ saturated (n + 1)
inc_held n h = go (ltb n 2) refl
  where
    go : (t : Bool) → ltb n 2 ≡ t → cond t (n + 1) n ≡ saturated (n + 1)
    go true e = sym (saturated-small (n + 1) (omega (arith, ltb-true n 2 e)))
    go false e = rw (le-ltb (n + 1) 2 (omega (arith, ltb-false n 2 e))) (omega (arith, h, ltb-false n 2 e))

-- one more piece of n that are left: what is held comes to the same with the m that are left behind it
pub one_held : (b r m n x : ℕ) → r ≡ saturating_inc b → n ≡ 1 + m → (saturated (b + n) ≡ x) × (b ≤ 2) → (saturated (r + m) ≡ x) × (r ≤ 2)
one_held b r m n x e f h =
    let i = e ∙ inc_held b h.1 in
    let g : b + 1 + m ≡ b + n = omega (arith, f) in
    (ap (λ (k : ℕ). saturated (k + m)) i ∙ saturated_on (b + 1) m ∙ ap saturated g ∙ h.0, rw i (saturated-most (b + 1)))

-- ## At the end of a line

-- the crate's count is above 1 exactly where there is more than nothing and more than one lone divider
size-lone : (ps : List Piece) → leb (size_b_of ps) 1 ≡ lone_divider ps
unfolding size_b_of
size-lone [] = refl
size-lone (p ∷ []) = go (is_divider p)
  where
    go : (t : Bool) → leb (1 - cond t 1 0 + 1) 1 ≡ t
    go true = refl
    go false = refl
size-lone (p ∷ q ∷ ps) = lt-leb (size_b_of (p ∷ q ∷ ps)) 1 (omega arith)

-- a counter that holds the crate's count
module _ (n : ℕ) (ps : List Piece) (held : n ≡ saturated (size_b_of ps)) where
  -- is above 1 exactly where that is (02, U4)
  pub above-one : ltb 1 n ≡ ltb 1 (size_b_of ps)
  above-one = ap (ltb 1) held ∙ saturated_tells (ltb 1) (λ k l. sym (lt-ltb 1 k (omega (arith, l)))) (size_b_of ps)

  -- and so answers the second part of question 4
  pub held_lone : leb n 1 ≡ lone_divider ps
  held_lone = ap (λ (m : ℕ). leb m 1) held ∙ saturated_tells (λ (m : ℕ). leb m 1) (λ k l. sym (lt-leb k 1 (omega (arith, l)))) (size_b_of ps) ∙ size-lone ps
