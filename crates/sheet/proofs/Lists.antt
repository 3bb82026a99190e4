-- What holds of all elements of a list, and of the elements of two lists one by one.
-- Assumes nothing.
use mathlib.Core.Path.{◌≡◌, refl}
use mathlib.Core.List.{List, [], ◌∷◌, ◌++◌, Memᴰ}
use mathlib.Core.Bool.{Bool, true, false, cond, true≢false, false≢true}
use Rattle.sheet.specs.Demands.{Each, none, more}

module _ {A : Type 0} where
  pub data All (P : A → Type 0) : List A → Type 0 where
    empty : All P []
    also : {a : A} {xs : List A} → P a → All P xs → All P (a ∷ xs)

  pub all_append : {P : A → Type 0} {xs ys : List A} → All P xs → All P ys → All P (xs ++ ys)
  all_append empty k = k
  all_append (also h hs) k = also h (all_append hs k)

  pub all_members : {P : A → Type 0} (xs : List A) → ((a : A) → Memᴰ a xs → P a) → All P xs
  all_members [] f = empty
  all_members (x ∷ xs) f = also (f x (Memᴰ.head refl)) (all_members xs (λ a m. f a (Memᴰ.tail m)))

module _ {A B : Type 0} where
  pub each_append : {R : A → B → Type 0} {xs us : List A} {ys vs : List B} → Each R xs ys → Each R us vs → Each R (xs ++ us) (ys ++ vs)
  each_append none q = q
  each_append (more h p) q = more h (each_append p q)

  pub each_cond : {R : A → B → Type 0} {b c : Bool} {xs us : List A} {ys vs : List B} → b ≡ c → Each R xs ys → Each R us vs → Each R (cond b xs us) (cond c ys vs)
  each_cond {b = true} {c = true} e p q = p
  each_cond {b = true} {c = false} e p q = absurd (true≢false e)
  each_cond {b = false} {c = true} e p q = absurd (false≢true e)
  each_cond {b = false} {c = false} e p q = q

  pub each_weaken : {R S : A → B → Type 0} {xs : List A} {ys : List B} → ((a : A) (b : B) → R a b → S a b) → Each R xs ys → Each S xs ys
  each_weaken f none = none
  each_weaken f (more h p) = more (f _ _ h) (each_weaken f p)

  pub each_with : {R : A → B → Type 0} {P : A → Type 0} {Q : B → Type 0} {xs : List A} {ys : List B} → Each R xs ys → All P xs → All Q ys → Each (λ a b. R a b × P a × Q b) xs ys
  each_with none empty empty = none
  each_with (more h hs) (also p ps) (also q qs) = more (h, p, q) (each_with hs ps qs)
