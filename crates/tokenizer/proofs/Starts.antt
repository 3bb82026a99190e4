-- Line starts and line numbers, told by the bytes next to an offset.
-- Assumes nothing.
use Prim.Native.Nat.{ℕ, zero, suc, ◌+◌, ◌-◌, ◌≤◌, ◌<◌}
use mathlib.Core.Path.{◌≡◌, refl, ap, ap₂, sym, ◌∙◌}
use mathlib.Core.Bool.{Bool, true, false, cond, ◌&&◌, false≢true}
use mathlib.Core.List.{List, [], ◌∷◌, ◌++◌}
use native.Mathlib.Nat.{add-zero, zero-add, add_assoc, not-suc-le-zero, le_of_suc-le-suc}
use native.Mathlib.Numerals.{add-one, sub-one}
use native.Mathlib.Omega.{arith}
use lib.ListN.{length, drop, get_or}
use borrow.Author.Tests.{eqb-true, ne_eqb}
use lib.Dec.{eqb}
use Rattle.tokenizer.specs.Lines.{bom, begins_with, first_start, ends_line, ends_before, starts_line, ends_within, line_number}

-- ## The first line

-- a sheet with a byte order mark, or without
pub data BomCase : List ℕ → Type 0 where
  with : (u : List ℕ) → BomCase (bom ++ u)
  without : (s : List ℕ) → first_start s ≡ 0 → BomCase s

-- what begins with t is t and more
front : (t s : List ℕ) → begins_with t s ≡ true → (u : List ℕ) × (s ≡ t ++ u)
front [] s e = (s, refl)
front (a ∷ t) [] e = absurd (false≢true e)
front (a ∷ t) (b ∷ s) e = go (eqb b a) refl (λ h. front t s h) e
  where
    go : (x : Bool) → eqb b a ≡ x → (begins_with t s ≡ true → (u : List ℕ) × (s ≡ t ++ u)) → x && begins_with t s ≡ true → (u : List ℕ) × (b ∷ s ≡ a ∷ t ++ u)
    go true f r h = ((r h).0, ap₂ ◌∷◌ (eqb-true b a f) (r h).1)
    go false f r h = absurd (false≢true h)

pub bom_case : (s : List ℕ) → BomCase s
bom_case s = go (begins_with bom s) refl
  where
    go : (t : Bool) → begins_with bom s ≡ t → BomCase s
    go true e = let r = front bom s e in rw r.1 (with r.0)
    go false e = without s (rw e)

-- within the sheet, and at 3 at most
pub first-within : (s : List ℕ) → (first_start s ≤ length s) × (first_start s ≤ 3)
first-within s = go s (bom_case s)
  where
    go : (s : List ℕ) → BomCase s → (first_start s ≤ length s) × (first_start s ≤ 3)
    go s (BomCase.with u) = (omega arith, omega arith)
    go s (BomCase.without _ e) = (omega (arith, e), omega (arith, e))

-- it starts at 0 in few bytes, and otherwise as the first three say
pub first-few : (s : List ℕ) → length s < 3 → first_start s ≡ 0
first-few s h = go s (bom_case s) h
  where
    go : (s : List ℕ) → BomCase s → length s < 3 → first_start s ≡ 0
    go s (BomCase.with u) h = absurd (omega arith)
    go s (BomCase.without _ e) h = e

first_three : (s : List ℕ) → 3 ≤ length s → first_start s ≡ cond (eqb (get_or s 0 0) 0xEF && (eqb (get_or s 1 0) 0xBB && (eqb (get_or s 2 0) 0xBF && true))) 3 0
first_three [] h = absurd (omega arith)
first_three (a ∷ []) h = absurd (omega arith)
first_three (a ∷ b ∷ []) h = absurd (omega arith)
first_three (a ∷ b ∷ c ∷ u) h = refl

module _ (s : List ℕ) (h : 3 ≤ length s) where
  pub first_other : (get_or s 0 0 ≡ 0xEF → ⊥) → first_start s ≡ 0
  first_other z = first_three s h ∙ rw (ne_eqb (get_or s 0 0) 0xEF z)

  module _ (a : get_or s 0 0 ≡ 0xEF) where
    pub first-second : (get_or s 1 0 ≡ 0xBB → ⊥) → first_start s ≡ 0
    first-second z = first_three s h ∙ rw (a, ne_eqb (get_or s 1 0) 0xBB z)

    module _ (b : get_or s 1 0 ≡ 0xBB) where
      pub first_third : (get_or s 2 0 ≡ 0xBF → ⊥) → first_start s ≡ 0
      first_third z = first_three s h ∙ rw (a, b, ne_eqb (get_or s 2 0) 0xBF z)

      pub first-marked : get_or s 2 0 ≡ 0xBF → first_start s ≡ 3
      first-marked c = first_three s h ∙ rw (a, b, c)

-- so three bytes in front tell it
pub first-front : (x u v : List ℕ) → 3 ≤ length x → first_start (x ++ u) ≡ first_start (x ++ v)
first-front [] u v h = absurd (omega arith)
first-front (a ∷ []) u v h = absurd (omega arith)
first-front (a ∷ b ∷ []) u v h = absurd (omega arith)
first-front (a ∷ b ∷ c ∷ x) u v h = refl

-- no line ends within the mark: line numbers behind it count from the first line
pub bom-number : (u : List ℕ) (i : ℕ) → line_number (bom ++ u) (suc (suc (suc i))) ≡ line_number u i
unfolding ends_within
bom-number u i = omega arith

-- ## Line starts

-- no line end is past the end
before_far : (u : List ℕ) (i : ℕ) → length u < i → ends_before u i ≡ false
unfolding ends_before
before_far u zero h = refl
before_far [] (suc i) h = refl
before_far (b ∷ u) (suc zero) h = absurd (not-suc-le-zero (le_of_suc-le-suc h))
before_far (b ∷ u) (suc (suc i)) h = before_far u (suc i) (le_of_suc-le-suc h)

-- no line starts past the end
pub starts_far : (u : List ℕ) (i : ℕ) → length u < i → starts_line u i ≡ false
starts_far u i h = rw (ne_eqb i (first_start u) (λ e. omega (arith, (first-within u).0)), before_far u i h)

-- a line ends before an offset where the byte there ends one
from : (u : List ℕ) (i : ℕ) → i < length u → ends_before u (suc i) ≡ ends_line (get_or u i 0) (drop (suc i) u)
unfolding ends_before
from [] i h = absurd (not-suc-le-zero h)
from (b ∷ u) zero h = refl
from (b ∷ u) (suc i) h = from u i (le_of_suc-le-suc h)

module _ (u : List ℕ) (i : ℕ) (z : i ≡ first_start u → ⊥) where
  starts-before : starts_line u i ≡ ends_before u i
  starts-before = rw (ne_eqb i (first_start u) z)

  pub starts_none : i ≡ 0 → starts_line u i ≡ false
  unfolding ends_before
  starts_none e = starts-before ∙ ap (ends_before u) e

  pub starts-at : (i ≡ 0 → ⊥) → i ≤ length u → starts_line u i ≡ ends_line (get_or u (i - 1) 0) (drop i u)
  starts-at n h = starts-before ∙ go i n h
    where
      go : (j : ℕ) → (j ≡ 0 → ⊥) → j ≤ length u → ends_before u j ≡ ends_line (get_or u (j - 1) 0) (drop j u)
      go zero n h = absurd (n refl)
      go (suc j) n h = rw sub-one (from u j h)

-- one more byte, one more line end if it ends a line
more : (n : ℕ) (u : List ℕ) → n < length u → ends_within (suc n) u ≡ ends_within n u + cond (ends_line (get_or u n 0) (drop (suc n) u)) 1 0
unfolding ends_within
more n [] h = absurd (not-suc-le-zero h)
more zero (b ∷ u) h = add-zero _ ∙ sym (zero-add _)
more (suc n) (b ∷ u) h = ap (λ (k : ℕ). cond (ends_line b u) 1 0 + k) (more n u (le_of_suc-le-suc h)) ∙ sym (add_assoc (cond (ends_line b u) 1 0) (ends_within n u) _)

module _ (u : List ℕ) (n : ℕ) (h : n < length u) where
  pub ends_more : ends_line (get_or u n 0) (drop (n + 1) u) ≡ true → ends_within (n + 1) u ≡ ends_within n u + 1
  ends_more e = rw add-one (more n u h ∙ ap (λ (t : Bool). ends_within n u + cond t 1 0) (rw add-one at e))

  pub ends_same : ends_line (get_or u n 0) (drop (n + 1) u) ≡ false → ends_within (n + 1) u ≡ ends_within n u
  ends_same e = rw add-one (more n u h ∙ ap (λ (t : Bool). ends_within n u + cond t 1 0) (rw add-one at e) ∙ add-zero _)

pub ends-few : (n : ℕ) (u : List ℕ) → ends_within n u ≤ n
unfolding ends_within
ends-few zero u = omega arith
ends-few (suc n) [] = omega arith
ends-few (suc n) (b ∷ u) = go (ends_line b u) (ends-few n u)
  where
    go : (t : Bool) → ends_within n u ≤ n → cond t 1 0 + ends_within n u ≤ suc n
    go true h = omega arith
    go false h = omega arith
