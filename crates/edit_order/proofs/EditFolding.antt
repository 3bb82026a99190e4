-- What `try_fold` over an `Option` gives: a fold that ends at the first none.
-- Assumes nothing.
use mathlib.Core.Path.{◌≡◌, refl, ap, ap₂, sym, ◌∙◌, subst}
use mathlib.Core.List.{List, [], ◌∷◌}
use denote.Param.Members.{Mut}
use Rattle.std.specs.Prelude.{Option, Some, None}
use Rattle.std.specs.Option.{MatchOption}
use Rattle.std.specs.Fn.{Called}
use Rattle.std.specs.List.{FoldsTo}
use Rattle.std.specs.Iterator.{AlwaysYields, Yields, YieldsThen}
use Rattle.std.proofs.lemmas.Iterator.{YieldsList}

-- the fold from what there is so far
unfoldable pub through : {B C : Type 0} → (C → B → Option C) → List B → Option C → Option C
through h [] o = o
through h (x ∷ xs) None = None
through h (x ∷ xs) (Some a) = through h xs (h a x)

pub through-none : {B C : Type 0} (h : C → B → Option C) (xs : List B) → through h xs None ≡ None
unfolding through
through-none h [] = refl
through-none h (x ∷ xs) = refl

module _ {S A B C F : Type 0} (E : Type 0) (steps : S → Option A → S → Type 0) (v : A → B) (g : Mut F (C × (A × Unit {0})) (Option C)) (h : C → B → Option C) (f : F)
    (k : (a : C) (x : A) (r : Option C) (q : F) → Called g f (a, (x, tt)) r q → (q ≡ f) × (r ≡ h a (v x))) where
  -- a turn goes on
  abbrev Turn : F × C → A → F × C → Type 0
  Turn p x q = (w : Option C) × Called g p.0 (p.1, (x, tt)) w q.0 × (w ≡ Some q.1)

  -- the items end, or a turn breaks off
  abbrev Stops : Option A → Option C → F → C → Type 0
  Stops o r j a = MatchOption o (r ≡ Some a) (λ x. (w : Option C) × (l : F) × (e : E) × Called g j (a, (x, tt)) w l × (w ≡ None) × (r ≡ None))

  folding : (xs : List A) (all : List B) (s t u : S) (o : Option A) (p q : F × C) (r : Option C) → p.0 ≡ f → AlwaysYields steps v s all → Yields steps s xs t → steps t o u
      → FoldsTo {P = F × C} Turn p xs q → Stops o r q.0 q.1 → r ≡ through h all (Some p.1)
  unfolding through
  folding [] [] s t u None p q r i e y m c d = d ∙ ap Some (sym (ap (λ w. w.1) c))
  folding [] [] s t u (Some x) p q r i e y m c d = absurd (e x u (subst (λ w. steps w (Some x) u) (sym y) m))
  folding [] (z ∷ all) s t u None p q r i e y m c d = absurd (e.0 u (subst (λ w. steps w None u) (sym y) m))
  folding [] (z ∷ all) s t u (Some x) p q r i e y m c d =
      let step = k q.1 x d.0 d.1 (subst (λ w. Called g w (q.1, (x, tt)) d.0 d.1) (sym (ap (λ w. w.0) c) ∙ i) d.3) in
      let none : h p.1 z ≡ None
      = ap₂ h (ap (λ w. w.1) c) (sym (e.1 x u (subst (λ w. steps w (Some x) u) (sym y) m)).0) ∙ sym step.1 ∙ d.4 in
      d.5 ∙ sym (ap (through h all) none ∙ through-none h all)
  folding (x ∷ xs) [] s t u o p q r i e y m c d = absurd (e x y.0 y.1)
  folding (x ∷ xs) (z ∷ all) s t u o p q r i e y m c d =
      let step = k p.1 x c.1.0 c.0.0 (subst (λ w. Called g w (p.1, (x, tt)) c.1.0 c.0.0) i c.1.1) in
      let some : h p.1 z ≡ Some c.0.1
      = ap (h p.1) (sym (e.1 x y.0 y.1).0) ∙ sym step.1 ∙ c.1.2 in
      folding xs all y.0 t u o c.0 q r step.0 (e.1 x y.0 y.1).1 y.2 m c.2 d ∙ ap (through h all) (sym some)

  pub folded : (all : List B) (s u : S) (a : C) (r : Option C)
      → (xs : List A) × (o : Option A) × (j : F) × (b : C) × YieldsThen steps s xs o u × FoldsTo {P = F × C} Turn (f, a) xs (j, b) × Stops o r j b
      → YieldsList steps v s all → r ≡ through h all (Some a)
  folded all s u a r d e = folding d.0 all s d.4.0 u d.1 (f, a) (d.2, d.3) r refl e.runs d.4.1 d.4.2 d.5 d.6
