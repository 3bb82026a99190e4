-- What an answer that is told by a number says of the number.
-- Assumes nothing.
use Prim.Native.Nat.{ℕ, ◌≤◌}
use mathlib.Core.Path.{◌≡◌, refl}
use mathlib.Core.Bool.{Bool, true, false, cond}
use mathlib.Core.List.{List}
use native.Mathlib.Omega.{arith}
use borrow.Author.Tests.{eq-eqb, ne_eqb, eqb-true, eqb-false, ltb-false}
use lib.Dec.{eqb, ltb}
use lib.ListN.{length}
use Rattle.std.specs.Prelude.{Ok, Err}
use Rattle.tokenizer.specs.declared.refusal.Refusal.{Refusal}
use Rattle.tokenizer.specs.Refusals.{refusal_of, length_refusal, answered}

module _ {A : Type 0} where
  -- accepted: the number is 0
  pub ok-answered : (n : ℕ) (x y : A) → Ok y ≡ answered n x → (y ≡ x) × (n ≡ 0)
  ok-answered n x y e = go (eqb n 0) (λ z. eqb-true n 0 z) e
    where
      go : (t : Bool) → (t ≡ true → n ≡ 0) → Ok y ≡ cond t (Ok x) (Err (refusal_of n)) → (y ≡ x) × (n ≡ 0)
      go true k h = (cc, k cc)
      go false k h = absurd (let z : ◌≡◌ {A = ℕ} 0 1 = cc in omega arith)

  -- refused: it is not, and tells the refusal
  pub err-answered : (n : ℕ) (x : A) (r : Refusal) → Err r ≡ answered n x → (r ≡ refusal_of n) × (n ≡ 0 → ⊥)
  err-answered n x r e = go (eqb n 0) (λ z. eqb-false n 0 z) e
    where
      go : (t : Bool) → (t ≡ false → n ≡ 0 → ⊥) → Err r ≡ cond t (Ok x) (Err (refusal_of n)) → (r ≡ refusal_of n) × (n ≡ 0 → ⊥)
      go true k h = absurd (let z : ◌≡◌ {A = ℕ} 0 1 = cc in omega arith)
      go false k h = (cc, k cc)

  -- and the other way round
  pub answered-ok : (n : ℕ) (x : A) → n ≡ 0 → Ok x ≡ answered n x
  answered-ok n x e = rw (eq-eqb n 0 e)

  pub answered-err : (n : ℕ) (x : A) → (n ≡ 0 → ⊥) → Err (refusal_of n) ≡ answered n x
  answered-err n x h = rw (ne_eqb n 0 h)

-- question 1 is answered yes of a sheet of at most 65,536 bytes
pub short_enough : (s : List ℕ) → length_refusal s ≡ 0 → length s ≤ 65536
short_enough s e = go (ltb 65536 (length s)) refl e
  where
    go : (t : Bool) → ltb 65536 (length s) ≡ t → ◌≡◌ {A = ℕ} (cond t 1 0) 0 → length s ≤ 65536
    go true h z = absurd (omega (arith, z))
    go false h z = ltb-false 65536 (length s) h
