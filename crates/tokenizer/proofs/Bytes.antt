-- Kinds and line ends.
-- Assumes nothing.
use Prim.Native.Nat.{ℕ, ◌≤◌}
use mathlib.Core.Path.{◌≡◌, refl, sym, ◌∙◌}
use mathlib.Core.Bool.{Bool, true, false, cond, ◌||◌}
use borrow.Author.Tests.{eq-eqb, ne_eqb, eqb-true}
use lib.Dec.{eqb}
use Rattle.std.proofs.Common.{lit≤}
use Rattle.tokenizer.specs.Bytes.{kind_of, is_end, Reads}

-- ## The built-in kinds

others : (t v w x y : Bool) → eqb (cond t 1 (cond v 3 (cond w 4 (cond x 5 (cond y 6 0))))) 2 ≡ false
others true v w x y = refl
others false true w x y = refl
others false false true x y = refl
others false false false true y = refl
others false false false false true = refl
others false false false false false = refl

-- the bytes of kind 2 are those that end a line
ends : (b : ℕ) → eqb (kind_of b) 2 ≡ is_end b
unfolding kind_of
ends b = go (eqb b 10) refl (eqb b 13) refl
  where
    go : (t : Bool) → eqb b 10 ≡ t → (v : Bool) → eqb b 13 ≡ v → eqb (kind_of b) 2 ≡ is_end b
    go true e v f = rw (eqb-true b 10 e)
    go false e true f = rw (eqb-true b 13 f)
    go false e false f = rw (e, f) (others (eqb b 9 || eqb b 32) (eqb b 124) (eqb b 92) (eqb b 45) (eqb b 58))

ones : (s t v w x y : Bool) → eqb (cond s 1 (cond t 2 (cond v 3 (cond w 4 (cond x 5 (cond y 6 0)))))) 1 ≡ s
ones true t v w x y = refl
ones false true v w x y = refl
ones false false true w x y = refl
ones false false false true x y = refl
ones false false false false true y = refl
ones false false false false false true = refl
ones false false false false false false = refl

mosts : (s t v w x y : Bool) → cond s 1 (cond t 2 (cond v 3 (cond w 4 (cond x 5 (cond y 6 0))))) ≤ 6
mosts true t v w x y = lit≤ tt
mosts false true v w x y = lit≤ tt
mosts false false true w x y = lit≤ tt
mosts false false false true x y = lit≤ tt
mosts false false false false true y = lit≤ tt
mosts false false false false false true = lit≤ tt
mosts false false false false false false = lit≤ tt

-- no kind is above 6
pub most : (b : ℕ) → kind_of b ≤ 6
unfolding kind_of
most b = mosts (eqb b 9 || eqb b 32) (eqb b 10 || eqb b 13) (eqb b 124) (eqb b 92) (eqb b 45) (eqb b 58)

pub built : Reads kind_of
unfolding kind_of
built = record { spaces = λ b. ones (eqb b 9 || eqb b 32) (eqb b 10 || eqb b 13) (eqb b 124) (eqb b 92) (eqb b 45) (eqb b 58); ends = ends; quote = refl }

-- ## Any kinds that can be read by

module _ {kind : ℕ → ℕ} (ok : Reads kind) where
  pub is-end : (b : ℕ) → kind b ≡ 2 → is_end b ≡ true
  is-end b e = sym (ok.ends b) ∙ eq-eqb (kind b) 2 e

  pub no_end : (b : ℕ) → (kind b ≡ 2 → ⊥) → is_end b ≡ false
  no_end b h = sym (ok.ends b) ∙ ne_eqb (kind b) 2 h

  -- whitespace is the same by all of them
  pub same_space : (b : ℕ) → eqb (kind_of b) 1 ≡ eqb (kind b) 1
  same_space b = built.spaces b ∙ sym (ok.spaces b)
