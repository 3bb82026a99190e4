-- Slots that are filled from the left, and slots that are cleared.
-- Assumes nothing.
use Prim.Native.Nat.{ℕ, zero, suc, ◌+◌, ◌<◌, ◌≤◌}
use mathlib.Core.Path.{◌≡◌, refl, ap, sym, ◌∙◌}
use mathlib.Core.List.{List, [], ◌∷◌}
use native.Mathlib.Nat.{not-suc-le-zero, le_of_suc-le-suc}
use native.Mathlib.Numerals.{add-one}
use lib.ListN.{length, set, replicate}
use Rattle.tokenizer.specs.declared.event.Event.{Event}
use Rattle.tokenizer.specs.Events.{blank_event}
use Rattle.tokenizer.specs.Slots.{slots_of, cleared}

-- slots without an event
pub slots_none : (n : ℕ) → slots_of n [] ≡ replicate n blank_event
unfolding slots_of
slots_none zero = refl
slots_none (suc n) = ap {B = List Event} (λ r. blank_event ∷ r) (slots_none n)

-- all are cleared
pub cleared_all : (xs : List Event) → cleared blank_event 0 xs ≡ replicate (length xs) blank_event
unfolding cleared
cleared_all [] = refl
cleared_all (x ∷ xs) = ap {B = List Event} (λ r. blank_event ∷ r) (cleared_all xs)

module _ {A : Type 0} (blank : A) where
  -- none is
  pub cleared_none : (n : ℕ) (xs : List A) → length xs ≤ n → cleared blank n xs ≡ xs
  unfolding cleared
  cleared_none n [] l = refl
  cleared_none zero (x ∷ xs) l = absurd (not-suc-le-zero l)
  cleared_none (suc n) (x ∷ xs) l = ap {B = List A} (λ r. x ∷ r) (cleared_none n xs (le_of_suc-le-suc l))

  -- one is
  pub cleared_one : (n : ℕ) (xs : List A) → n < length xs → cleared blank n xs ≡ cleared blank (n + 1) (set xs n blank)
  unfolding cleared
  cleared_one n xs l = go n xs l ∙ ap (λ (k : ℕ). cleared blank k (set xs n blank)) (sym (add-one n))
    where
      go : (m : ℕ) (ys : List A) → m < length ys → cleared blank m ys ≡ cleared blank (suc m) (set ys m blank)
      go m [] k = absurd (not-suc-le-zero k)
      go zero (y ∷ ys) k = refl
      go (suc m) (y ∷ ys) k = ap {B = List A} (λ r. y ∷ r) (go m ys (le_of_suc-le-suc k))
