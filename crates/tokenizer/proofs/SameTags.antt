-- An enum whose cases have numbers, where the test of two cases is that of their numbers.
-- Assumes nothing.
use Prim.Native.Nat.{ℕ}
use mathlib.Core.Path.{◌≡◌, refl, sym, ◌∙◌}
use mathlib.Core.Bool.{Bool, true, false, not}
use borrow.Author.Tests.{eq-eqb, eqb-true}
use lib.Dec.{eqb}

module _ {A : Type 0} (test : A → A → Bool) (number : A → ℕ) (as_numbers : (a b : A) → test a b ≡ eqb (number a) (number b)) where
  -- where it answers yes, the numbers are equal
  pub same : (a b : A) {t : Bool} → t ≡ test a b → t ≡ true → number a ≡ number b
  same a b e h = eqb-true _ _ (sym (as_numbers a b) ∙ sym e ∙ h)

  -- where it answers no, they differ
  pub other : (a b : A) {t : Bool} → t ≡ test a b → t ≡ false → number a ≡ number b → ⊥
  other a b e h z = let f : true ≡ false = sym (eq-eqb _ _ z) ∙ sym (as_numbers a b) ∙ sym e ∙ h in cc

  -- and so for the opposite test
  pub not_unlike : (a b : A) {t : Bool} → t ≡ not (test a b) → t ≡ false → number a ≡ number b
  not_unlike a b e h = same a b {t = true} (go (test a b) (sym e ∙ h)) refl
    where
      go : (v : Bool) → not v ≡ false → true ≡ v
      go true q = refl
      go false q = q

  pub unlike : (a b : A) {t : Bool} → t ≡ not (test a b) → t ≡ true → number a ≡ number b → ⊥
  unlike a b e h = other a b {t = false} (go (test a b) (sym e ∙ h)) refl
    where
      go : (v : Bool) → not v ≡ true → false ≡ v
      go true q = q
      go false q = refl
