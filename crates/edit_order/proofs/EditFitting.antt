-- What fitting edits tell: removals stay in the list, and additions in the pool.
-- Assumes nothing.
use Prim.Native.Nat.{ℕ, zero, suc, ◌+◌, ◌≤◌, ◌<◌}
use mathlib.Core.Path.{◌≡◌, refl}
use mathlib.Core.List.{List, [], ◌∷◌}
use mathlib.Core.Bool.{Bool, true, false, cond, ◌||◌}
use mathlib.Core.Logic.{◌⊎◌, inl, inr, ⊎_elim}
use native.Mathlib.Omega.{arith}
use native.Mathlib.Nat.{le_of_suc-le-suc, not-suc-le-zero}
use lib.Dec.{eqb, leb}
use borrow.Author.Tests.{eqb-true, ne_eqb, leb-true}
use lib.ListN.{length, get_or, drop}
use Rattle.edit_order.specs.declared.edit_slots.Edit.{Edit}
use Rattle.edit_order.specs.EditFives.{no_edit}
use Rattle.edit_order.specs.Edits.{here, removed, removed_at, every, dropped, stretch, in_pool, fine, edits_fit}
use Rattle.std.proofs.lemmas.Bool.{and_parts}
use Rattle.std.proofs.Math.Bool.{and-false}

-- ## Tests

or_right : (a b : Bool) → a ≡ false → a || b ≡ true → b ≡ true
or_right a b e t = rw e at t

pub every-at : (f : Edit → Bool) (es : List Edit) (i : ℕ) → i < length es → every f es ≡ true → f (get_or es i no_edit) ≡ true
unfolding every
every-at f [] i h t = absurd (not-suc-le-zero h)
every-at f (e ∷ es) zero h t = (and_parts (f e) (every f es) t).0
every-at f (e ∷ es) (suc i) h t = every-at f es i (le_of_suc-le-suc h) (and_parts (f e) (every f es) t).1

-- ## Edits that fit

module _ (len n : ℕ) (es : List Edit) where
  pub fine-stretch : (e : Edit) → dropped e ≡ false → fine len n es e ≡ true → stretch len es e.at ≡ true
  fine-stretch e d t = (and_parts (stretch len es e.at) (in_pool n e) (or_right (dropped e) _ d t)).0

  pub fine_pool : (e : Edit) → 0 < e.adds → fine len n es e ≡ true → e.from + e.adds ≤ n
  fine_pool e h t =
      let z : eqb e.adds 0 ≡ false = ne_eqb e.adds 0 (omega arith) in
      let s = (and_parts (stretch len es e.at) (in_pool n e) (or_right (dropped e) _ (rw z (and-false (eqb e.removes 0))) t)).1 in
      leb-true (e.from + e.adds) n (or_right (eqb e.adds 0) _ z s)

  -- the added records are in the pool
  pub fit_pool : edits_fit len n es ≡ true → (i : ℕ) → i < length es → 0 < (get_or es i no_edit).adds → (get_or es i no_edit).from + (get_or es i no_edit).adds ≤ n
  fit_pool t i h p = fine_pool (get_or es i no_edit) p (every-at (fine len n es) es i h t)

  -- nothing is removed at p, or what is removed there stays in the list and apart from the other edits
  some-removed : (p : ℕ) (xs : List Edit) → every (fine len n es) xs ≡ true → (removed (here p xs) ≡ 0) ⊎ (stretch len es p ≡ true)
  unfolding every here removed
  some-removed p [] t = inl refl
  some-removed p (e ∷ xs) t = go (eqb e.at p) (eqb e.removes 0) refl refl (some-removed p xs (and_parts (fine len n es e) (every (fine len n es) xs) t).1)
    where
      go : (a b : Bool) → eqb e.at p ≡ a → eqb e.removes 0 ≡ b → (removed (here p xs) ≡ 0) ⊎ (stretch len es p ≡ true)
          → (removed (cond a (e ∷ here p xs) (here p xs)) ≡ 0) ⊎ (stretch len es p ≡ true)
      go false b q z ih = ih
      go true true q z ih = ⊎_elim (λ x. inl (omega (arith, eqb-true e.removes 0 z))) (λ x. inr x) ih
      go true false q z ih =
          inr (rw (eqb-true e.at p q) at (fine-stretch e (rw z) (and_parts (fine len n es e) (every (fine len n es) xs) t).0))

  pub fit-stretch : edits_fit len n es ≡ true → (p : ℕ) → (removed_at es p ≡ 0) ⊎ (stretch len es p ≡ true)
  fit-stretch t p = some-removed p es t

  pub stretch_in : (p : ℕ) → stretch len es p ≡ true → p + removed_at es p ≤ len
  stretch_in p s = leb-true (p + removed_at es p) len (and_parts (leb (p + removed_at es p) len) _ s).0

  pub fit-removed : edits_fit len n es ≡ true → (p : ℕ) → p ≤ len → p + removed_at es p ≤ len
  fit-removed t p h = ⊎_elim (λ z. omega (arith, z)) (stretch_in p) (fit-stretch t p)

pub removed-drop : (p : ℕ) (es : List Edit) (i : ℕ) → removed (here p (drop i es)) ≤ removed (here p es)
unfolding here removed
removed-drop p es zero = omega arith
removed-drop p [] (suc i) = omega arith
removed-drop p (e ∷ es) (suc i) = go (eqb e.at p) (removed-drop p es i)
  where
    go : (b : Bool) → removed (here p (drop i es)) ≤ removed (here p es) → removed (here p (drop i es)) ≤ removed (cond b (e ∷ here p es) (here p es))
    go true ih = omega arith
    go false ih = ih
