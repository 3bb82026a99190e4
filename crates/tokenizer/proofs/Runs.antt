-- Runs in front of a line: of one kind, and of whitespace.
-- Assumes nothing.
use Prim.Native.Nat.{ℕ, ◌<◌}
use mathlib.Core.Path.{◌≡◌, refl, ap}
use mathlib.Core.Bool.{Bool, true, false, cond}
use mathlib.Core.List.{List, [], ◌∷◌, ◌++◌}
use native.Mathlib.Omega.{arith}
use borrow.Author.Tests.{eq-eqb, ne_eqb}
use lib.Dec.{eqb}
use Rattle.tokenizer.specs.Bytes.{kind_in, Passes}
use Rattle.tokenizer.specs.Lines.{indent, unindented}
use Rattle.tokenizer.specs.Moves.{run_of, after_run}

pub split : (t : Bool) (b : ℕ) (a r u : List ℕ) → a ++ r ≡ u → cond t (b ∷ a) [] ++ cond t r (b ∷ u) ≡ b ∷ u
split true b a r u e = ap (λ (l : List ℕ). b ∷ l) e
split false b a r u e = refl

module _ (kind : ℕ → ℕ) where
  -- ## One kind

  pub run_on : (k b : ℕ) (u : List ℕ) → kind b ≡ k → run_of kind k (b ∷ u) ≡ b ∷ run_of kind k u
  unfolding run_of
  run_on k b u e = rw (eq-eqb (kind b) k e)

  pub run_off : (k b : ℕ) (u : List ℕ) → (kind b ≡ k → ⊥) → run_of kind k (b ∷ u) ≡ []
  unfolding run_of
  run_off k b u h = rw (ne_eqb (kind b) k h)

  pub run_split : (k : ℕ) (u : List ℕ) → run_of kind k u ++ after_run kind k u ≡ u
  unfolding run_of after_run
  run_split k [] = refl
  run_split k (b ∷ u) = split (eqb (kind b) k) b (run_of kind k u) (after_run kind k u) u (run_split k u)

  -- ## Whitespace

  pub indent_run : (u : List ℕ) → indent kind u ≡ run_of kind 1 u
  unfolding indent run_of
  indent_run [] = refl
  indent_run (b ∷ u) = ap (λ (r : List ℕ). cond (eqb (kind b) 1) (b ∷ r) []) (indent_run u)

  pub space_split : (u : List ℕ) → indent kind u ++ unindented kind u ≡ u
  unfolding indent unindented
  space_split [] = refl
  space_split (b ∷ u) = split (eqb (kind b) 1) b (indent kind u) (unindented kind u) u (space_split u)

  pub space_on : (b : ℕ) (u : List ℕ) → kind b ≡ 1 → indent kind (b ∷ u) ≡ b ∷ indent kind u
  unfolding indent
  space_on b u e = rw e

-- by a table that passes no byte has a kind above 6
pub no_run : (t : List ℕ) → Passes t → (k : ℕ) → 6 < k → (u : List ℕ) → run_of (kind_in t) k u ≡ []
unfolding run_of
no_run t p k h [] = refl
no_run t p k h (b ∷ u) = rw (ne_eqb (kind_in t b) k (λ e. omega (arith, e, h, p.most b)))
