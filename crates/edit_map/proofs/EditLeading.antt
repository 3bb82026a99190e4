-- The group of edits at one position that a list of edits begins with.
-- Assumes nothing.
use Prim.Native.Nat.{ℕ, zero, suc, ◌+◌, ◌≤◌, ◌<◌}
use mathlib.Core.Path.{◌≡◌, refl, ap, sym, ◌∙◌}
use mathlib.Core.List.{List, [], ◌∷◌}
use mathlib.Core.Bool.{Bool, true, false, cond}
use native.Mathlib.Omega.{arith}
use native.Mathlib.Nat.{le_refl}
use native.Mathlib.Numerals.{add-one}
use lib.Dec.{eqb}
use borrow.Author.Tests.{eq-eqb, ne_eqb, eqb-true, eqb-false}
use lib.ListN.{length, get_or, take, drop, drop_of_length-le}
use lib.Seq.{drop-cons}
use Rattle.edit_order.specs.declared.edit_slots.Edit.{Edit}
use Rattle.edit_order.specs.EditFives.{no_edit}
use Rattle.edit_order.specs.Edits.{here, removed}
use Rattle.edit_order.specs.EditOrder.{Rises}
use Rattle.edit_map.specs.EditCursor.{leading}
use Rattle.edit_order.proofs.EditOrder.{here-below, rises-from}

-- ## Its size and its removals, counted one edit after the other

module _ (p : ℕ) (es : List Edit) (j : ℕ) where
  pub leads_on : j < length es → (get_or es j no_edit).at ≡ p → leading p (drop j es) ≡ get_or es j no_edit ∷ leading p (drop (j + 1) es)
  unfolding leading
  leads_on h e = rw (add-one j, drop-cons es j no_edit h, leading, eq-eqb (get_or es j no_edit).at p e)

  pub leads_off : j < length es → ((get_or es j no_edit).at ≡ p → ⊥) → leading p (drop j es) ≡ []
  unfolding leading
  leads_off h e = rw (drop-cons es j no_edit h, leading, ne_eqb (get_or es j no_edit).at p e)

  pub leads_end : length es ≤ j → leading p (drop j es) ≡ []
  unfolding leading
  leads_end h = rw (drop_of_length-le es {i = j} h)

pub leading_le : (p : ℕ) (xs : List Edit) → length (leading p xs) ≤ length xs
unfolding leading
leading_le p [] = omega arith
leading_le p (e ∷ xs) = go (eqb e.at p) (leading_le p xs)
  where
    go : (b : Bool) → length (leading p xs) ≤ length xs → length (cond b (e ∷ leading p xs) []) ≤ suc (length xs)
    go true ih = omega arith
    go false ih = omega arith

pub removed-cons : (e : Edit) (es : List Edit) → removed (e ∷ es) ≡ e.removes + removed es
unfolding removed
removed-cons e es = refl

pub removed_nil : removed [] ≡ 0
unfolding removed
removed_nil = refl

pub record Gathering (es : List Edit) (p j n sum : ℕ) : Type 0 where
  pub upto : j ≤ length es
  pub size : length (leading p es) ≡ n + length (leading p (drop j es))
  pub sums : removed (leading p es) ≡ sum + removed (leading p (drop j es))

module _ (es : List Edit) (p j n sum : ℕ) (g : Gathering es p j n sum) where
  gathered : leading p (drop j es) ≡ [] → (n ≡ length (leading p es)) × (sum ≡ removed (leading p es))
  gathered e = (omega (arith, g.size, ap length e), omega (arith, g.sums, ap removed e ∙ removed_nil))

  pub gather_end : length es ≤ j → (n ≡ length (leading p es)) × (sum ≡ removed (leading p es))
  gather_end h = gathered (leads_end p es j h)

  -- at edit j
  module _ (e : Edit) (q : e ≡ get_or es j no_edit) (l : j < length es) where
    pub gather_off : (e.at ≡ p → ⊥) → (n ≡ length (leading p es)) × (sum ≡ removed (leading p es))
    gather_off h = gathered (leads_off p es j l (λ r. h (ap (λ (x : Edit). x.at) q ∙ r)))

    goes_on_lem : e.at ≡ p → leading p (drop j es) ≡ e ∷ leading p (drop (j + 1) es)
    goes_on_lem h = rw q (leads_on p es j l (ap (λ (x : Edit). x.at) (sym q) ∙ h))

    pub gather_fits : e.at ≡ p → (n < length es) × (sum + e.removes ≤ removed (leading p es))
    gather_fits h = (
      omega (arith, g.size, ap length (goes_on_lem h), leading_le p es),
      omega (arith, g.sums, ap removed (goes_on_lem h) ∙ removed-cons e (leading p (drop (j + 1) es))),
    )

    pub gather_on : e.at ≡ p → Gathering es p (j + 1) (n + 1) (sum + e.removes)
    gather_on h = record {
      upto = omega arith;
      size = g.size ∙ rw (goes_on_lem h) (omega arith);
      sums = g.sums ∙ rw (goes_on_lem h, removed-cons) (omega arith);
    }

-- ## Among edits that rise, it is the edits at that position

pub rises-drop : (p : ℕ) (es : List Edit) (i : ℕ) → Rises p es → Rises p (drop i es)
rises-drop p es zero r = r
rises-drop p [] (suc i) r = r
rises-drop p (e ∷ es) (suc i) r = rises-from (drop i es) r.0 (rises-drop e.at es i r.1)

pub leading-here : (p : ℕ) (xs : List Edit) → Rises p xs → leading p xs ≡ here p xs
unfolding leading here
leading-here p [] r = refl
leading-here p (e ∷ xs) r = go (eqb e.at p) refl (λ q. leading-here p xs (rw q at r).1)
  where
    go : (b : Bool) → eqb e.at p ≡ b → (e.at ≡ p → leading p xs ≡ here p xs) → cond b (e ∷ leading p xs) [] ≡ cond b (e ∷ here p xs) (here p xs)
    go true t ih = ap (λ (x : List Edit). e ∷ x) (ih (eqb-true e.at p t))
    go false t ih = sym (here-below xs (omega (arith, r.0, eqb-false e.at p t)) r.1)

abbrev pub rest : ℕ → List Edit → List Edit
rest p xs = drop (length (leading p xs)) xs

pub take-leading : (p : ℕ) (xs : List Edit) → take (length (leading p xs)) xs ≡ leading p xs
unfolding leading
take-leading p [] = refl
take-leading p (e ∷ xs) = go (eqb e.at p) (take-leading p xs)
  where
    go : (b : Bool) → take (length (leading p xs)) xs ≡ leading p xs → take (length (cond b (e ∷ leading p xs) [])) (e ∷ xs) ≡ cond b (e ∷ leading p xs) []
    go true ih = ap (λ (x : List Edit). e ∷ x) ih
    go false ih = refl

-- behind it stand the edits of later positions alone
pub here-rest : (p q : ℕ) (xs : List Edit) → p < q → here q xs ≡ here q (rest p xs)
unfolding leading here
here-rest p q [] h = refl
here-rest p q (e ∷ xs) h = go (eqb e.at p) refl (here-rest p q xs h)
  where
    go : (b : Bool) → eqb e.at p ≡ b → here q xs ≡ here q (rest p xs) → here q (e ∷ xs) ≡ here q (drop (length (cond b (e ∷ leading p xs) [])) (e ∷ xs))
    go true t ih = rw (ne_eqb e.at q (omega (arith, eqb-true e.at p t))) ih
    go false t ih = refl

pub none_rest : (p : ℕ) (xs : List Edit) → Rises p xs → here p (rest p xs) ≡ []
unfolding leading here
none_rest p [] r = refl
none_rest p (e ∷ xs) r = go (eqb e.at p) refl (λ q. none_rest p xs (rw q at r).1)
  where
    go : (b : Bool) → eqb e.at p ≡ b → (e.at ≡ p → here p (rest p xs) ≡ []) → here p (drop (length (cond b (e ∷ leading p xs) [])) (e ∷ xs)) ≡ []
    go true t ih = ih (eqb-true e.at p t)
    go false t ih = here-below {q = e.at} (e ∷ xs) (omega (arith, r.0, eqb-false e.at p t)) (le_refl e.at, r.1)
