-- What deeds make of a list where their positions rise, and that the edit map makes the same.
-- Assumes nothing.
use Prim.Native.Nat.{ℕ, zero, suc, ◌+◌, ◌-◌, ◌≤◌, ◌<◌}
use mathlib.Core.Path.{◌≡◌, refl, sym, ap, ◌∙◌, subst}
use mathlib.Core.List.{List, [], ◌∷◌, ◌++◌, append_assoc, append-nil}
use mathlib.Core.Bool.{Bool, true, false, cond}
use lib.Dec.{eqb, eqb-suc-zero}
use lib.ListN.{length, take, drop}
use lib.Seq.{drop-drop}
use native.Mathlib.Omega.{arith}
use native.Mathlib.Numerals.{add-one}
use borrow.Author.Tests.{eq-eqb, ne_eqb}
use Rattle.tokenizer.specs.declared.event.Event.{Event}
use Rattle.tokenizer.specs.Events.{linked}
use Rattle.edit_order.specs.declared.edit_slots.Edit.{Edit}
use Rattle.edit_order.specs.Edits.{here, removed, added, removed_at, edited}
use Rattle.edit_map.specs.RustEdits.{Deed, add, link, pool_of, edits_from, is_linked, link_all}

-- from the position p, the deeds ds and the events xs on, some events are made, up to another position
pub data Makes : ℕ → List Deed → List Event → List Event → ℕ → List Deed → List Event → Type 0 where
  none : {p : ℕ} {ds : List Deed} {xs : List Event} → Makes p ds xs [] p ds xs
  copy : {p q : ℕ} {ds es : List Deed} {x : Event} {xs ys out : List Event} → Makes (suc p) ds xs out q es ys → Makes p ds (x ∷ xs) (x ∷ out) q es ys
  adds : {p q : ℕ} {ds es : List Deed} {new xs ys out : List Event} → Makes p ds xs out q es ys → Makes p (add p 0 new ∷ ds) xs (new ++ out) q es ys
  removes : {p q : ℕ} {ds es : List Deed} {x : Event} (gone : List Event) {xs ys out : List Event} → Makes (suc p + length gone) ds xs out q es ys → Makes p (add p (suc (length gone)) [] ∷ ds) (x ∷ (gone ++ xs)) out q es ys
  links : {p q : ℕ} {ds es : List Deed} {x : Event} {xs ys out : List Event} → Makes (suc p) ds xs out q es ys → Makes p (link p ∷ ds) (x ∷ xs) (linked x ∷ out) q es ys

-- the same by equal deeds and lists
pub moved : {p q : ℕ} {ds es fs : List Deed} {xs ys zs a b : List Event} → ds ≡ fs → xs ≡ zs → a ≡ b → Makes p fs zs b q es ys → Makes p ds xs a q es ys
moved {p} {q} {ds} {es} {fs} {xs} {ys} {zs} {a} {b} e f g m =
    subst (λ (l : List Deed). Makes p l xs a q es ys) (sym e) (subst (λ (l : List Event). Makes p fs l a q es ys) (sym f) (subst (λ (l : List Event). Makes p fs zs l q es ys) (sym g) m))

-- one after the other
pub then : {p q r : ℕ} {ds es fs : List Deed} {xs ys zs a b : List Event} → Makes p ds xs a q es ys → Makes q es ys b r fs zs → Makes p ds xs (a ++ b) r fs zs
then none k = k
then (copy m) k = copy (then m k)
then {b = b} (adds {new = new} {out = out} m) k = moved refl refl (append_assoc new out b) (adds {new = new} (then m k))
then (removes gone m) k = removes gone (then m k)
then (links m) k = links (then m k)

-- ## Edits from a position on

-- every deed stands at p or later
pub data Late (p : ℕ) : List Deed → Type 0 where
  none : Late p []
  adds : {i k : ℕ} {new : List Event} {ds : List Deed} → p ≤ i → Late p ds → Late p (add i k new ∷ ds)
  links : {i : ℕ} {ds : List Deed} → p ≤ i → Late p ds → Late p (link i ∷ ds)

later : {p q : ℕ} {ds : List Deed} → q ≤ p → Late p ds → Late q ds
later h Late.none = Late.none
later h (Late.adds {i = i} l r) = Late.adds {i = i} (omega (arith, l, h)) (later h r)
later h (Late.links {i = i} l r) = Late.links {i = i} (omega (arith, l, h)) (later h r)

late : {p q : ℕ} {ds : List Deed} {xs out : List Event} → Makes p ds xs out q [] [] → Late p ds
late Makes.none = Late.none
late {p} (copy m) = later {q = p} (omega arith) (late m)
late {p} (adds m) = Late.adds {i = p} (omega arith) (late m)
late {p} (removes gone m) = Late.adds {i = p} (omega arith) (later {q = p} (omega arith) (late m))
late {p} (links m) = Late.links {i = p} (omega arith) (later {q = p} (omega arith) (late m))

not_here : {p i : ℕ} {ds : List Deed} (n : ℕ) → Late p ds → i < p → here i (edits_from n ds) ≡ []
unfolding here edits_from
not_here n Late.none h = refl
not_here {p} {i} n (Late.adds {i = j} {new = new} l r) h = rw (ne_eqb j i (λ e. omega arith)) (not_here (n + length new) r h)
not_here n (Late.links l r) h = not_here n r h

not_linked : {p i : ℕ} {ds : List Deed} → Late p ds → i < p → is_linked i ds ≡ false
unfolding is_linked
not_linked Late.none h = refl
not_linked (Late.adds l r) h = not_linked r h
not_linked {p} {i} (Late.links {i = j} l r) h = rw (ne_eqb i j (λ e. omega arith)) (not_linked r h)

-- ## One position more

module _ (pool : List Event) where
  -- an edit before the position does not count
  past : (e : Edit) (es : List Edit) (p g : ℕ) (xs : List Event) → e.at < p → edited pool (e ∷ es) p g xs ≡ edited pool es p g xs
  unfolding edited here
  past e es p g [] h = rw (ne_eqb e.at p (λ q. omega arith))
  past e es p zero (x ∷ xs) h = rw (ne_eqb e.at p (λ q. omega arith), past e es (p + 1) 0 xs (omega arith), past e es (p + 1) (removed_at es p - 1) xs (omega arith))
  past e es p (suc g) (x ∷ xs) h = past e es (p + 1) g xs (omega arith)

  -- nothing stands at the position
  copied : (es : List Edit) (p : ℕ) (x : Event) (xs : List Event) → here p es ≡ [] → edited pool es p 0 (x ∷ xs) ≡ x ∷ edited pool es (p + 1) 0 xs
  unfolding edited removed added
  copied es p x xs h = rw h

  -- additions stand in the order of the deeds
  so-first : (p n : ℕ) (ds : List Deed) (so : List Event) → added pool so (here p (edits_from n ds)) ≡ so ++ added pool [] (here p (edits_from n ds))
  unfolding here edits_from added
  so-first p n [] so = sym (append-nil so)
  so-first p n (link i ∷ ds) so = so-first p n ds so
  so-first p n (add i k new ∷ ds) so = go (eqb i p) (so-first p (n + length new) ds)
    where
      more : List Event
      more = take (length new) (drop n pool)

      left : List Edit
      left = edits_from (n + length new) ds

      e : Edit
      e = record { at = i; removes = k; from = n; adds = length new; before = 0 }

      go : (b : Bool) → ((s : List Event) → added pool s (here p left) ≡ s ++ added pool [] (here p left))
          → added pool so (cond b (e ∷ here p left) (here p left)) ≡ so ++ added pool [] (cond b (e ∷ here p left) (here p left))
      go true ih = ih (so ++ more) ∙ append_assoc so more (added pool [] (here p left)) ∙ ap (λ (l : List Event). so ++ l) (sym (ih more))
      go false ih = ih so

  -- an addition at the position comes first
  front : (p n : ℕ) (ds : List Deed) (new xs : List Event) → take (length new) (drop n pool) ≡ new
      → edited pool (edits_from n (add p 0 new ∷ ds)) p 0 xs ≡ new ++ edited pool (edits_from (n + length new) ds) p 0 xs
  unfolding edited here edits_from added removed
  front p n ds new xs t = go xs
    where
      left : List Edit
      left = edits_from (n + length new) ds

      e : Edit
      e = record { at = p; removes = 0; from = n; adds = length new; before = 0 }

      head : added pool [] (cond (eqb p p) (e ∷ here p left) (here p left)) ≡ new ++ added pool [] (here p left)
      head = rw (eq-eqb p p refl) (so-first p (n + length new) ds (take (length new) (drop n pool)) ∙ ap (λ (l : List Event). l ++ added pool [] (here p left)) t)

      gone : removed (cond (eqb p p) (e ∷ here p left) (here p left)) ≡ removed (here p left)
      gone = rw (eq-eqb p p refl) (omega arith)

      go : (ys : List Event) → edited pool (e ∷ left) p 0 ys ≡ new ++ edited pool left p 0 ys
      go [] = head
      go (y ∷ ys) =
          rw (head, gone, past e left (p + 1) 0 ys (omega arith), past e left (p + 1) (removed (here p left) - 1) ys (omega arith))
          (append_assoc new (added pool [] (here p left)) (cond (eqb (removed (here p left)) 0) (y ∷ edited pool left (p + 1) 0 ys) (edited pool left (p + 1) (removed (here p left) - 1) ys)))

  -- a stretch is removed
  skipped : (es : List Edit) (p : ℕ) (gone xs : List Event) → edited pool es p (length gone) (gone ++ xs) ≡ edited pool es (p + length gone) 0 xs
  unfolding edited
  skipped es p [] xs = ap (λ (k : ℕ). edited pool es k 0 xs) (sym (none p))
    where
      none : (k : ℕ) → k + 0 ≡ k
      none k = omega arith
  skipped es p (x ∷ gone) xs = skipped es (p + 1) gone xs ∙ ap (λ (k : ℕ). edited pool es k 0 xs) (onward p (length gone))
    where
      onward : (k m : ℕ) → k + 1 + m ≡ k + suc m
      onward k m = omega arith

  cleared : (p n : ℕ) (ds : List Deed) (x : Event) (gone xs : List Event) → Late (suc p) ds
      → edited pool (edits_from n (add p (suc (length gone)) [] ∷ ds)) p 0 (x ∷ (gone ++ xs)) ≡ edited pool (edits_from (n + 0) ds) (suc p + length gone) 0 xs
  unfolding edited here edits_from added removed
  cleared p n ds x gone xs l =
      ap (λ (k : List Event). k ++ cond (eqb (removed at_p) 0) (x ∷ edited pool (e ∷ left) (p + 1) 0 (gone ++ xs)) (edited pool (e ∷ left) (p + 1) (removed at_p - 1) (gone ++ xs))) none_new
      ∙ ap (λ (k : ℕ). cond (eqb k 0) (x ∷ edited pool (e ∷ left) (p + 1) 0 (gone ++ xs)) (edited pool (e ∷ left) (p + 1) (k - 1) (gone ++ xs))) all_gone
      ∙ ap (λ (b : Bool). cond b (x ∷ edited pool (e ∷ left) (p + 1) 0 (gone ++ xs)) (edited pool (e ∷ left) (p + 1) (suc (length gone) - 1) (gone ++ xs))) (eqb-suc-zero (length gone))
      ∙ past e left (p + 1) (suc (length gone) - 1) (gone ++ xs) (omega arith)
      ∙ ap (λ (k : ℕ). edited pool left (p + 1) k (gone ++ xs)) (one (length gone))
      ∙ skipped left (p + 1) gone xs
      ∙ ap (λ (k : ℕ). edited pool left k 0 xs) (onward p (length gone))
    where
      left : List Edit
      left = edits_from (n + 0) ds

      e : Edit
      e = record { at = p; removes = suc (length gone); from = n; adds = 0; before = 0 }

      at_p : List Edit
      at_p = cond (eqb p p) (e ∷ here p left) (here p left)

      at_p_is : at_p ≡ e ∷ []
      at_p_is = rw (eq-eqb p p refl, not_here {i = p} (n + 0) l (omega arith))

      none_new : added pool [] at_p ≡ []
      none_new = ap (added pool []) at_p_is

      all_gone : removed at_p ≡ suc (length gone)
      all_gone = ap removed at_p_is ∙ sum (length gone)
        where
          sum : (k : ℕ) → suc k + 0 ≡ suc k
          sum k = omega arith

      one : (k : ℕ) → suc k - 1 ≡ k
      one k = omega arith

      onward : (k m : ℕ) → k + 1 + m ≡ suc k + m
      onward k m = omega arith

-- ## Links

link-add : (i k : ℕ) (new : List Event) (ds : List Deed) (p : ℕ) (xs : List Event) → link_all (add i k new ∷ ds) p xs ≡ link_all ds p xs
unfolding link_all is_linked
link-add i k new ds p [] = refl
link-add i k new ds p (x ∷ xs) = ap (λ (l : List Event). cond (is_linked p ds) (linked x) x ∷ l) (link-add i k new ds (suc p) xs)

link-past : (i : ℕ) (ds : List Deed) (p : ℕ) (xs : List Event) → i < p → link_all (link i ∷ ds) p xs ≡ link_all ds p xs
unfolding link_all is_linked
link-past i ds p [] h = refl
link-past i ds p (x ∷ xs) h = rw (ne_eqb p i (λ e. omega arith)) (ap (λ (l : List Event). cond (is_linked p ds) (linked x) x ∷ l) (link-past i ds (suc p) xs (omega arith)))

link_join : (ds : List Deed) (p : ℕ) (xs ys : List Event) → link_all ds p (xs ++ ys) ≡ link_all ds p xs ++ link_all ds (p + length xs) ys
unfolding link_all
link_join ds p [] ys = ap (λ (k : ℕ). link_all ds k ys) (sym (none p))
  where
    none : (k : ℕ) → k + 0 ≡ k
    none k = omega arith
link_join ds p (x ∷ xs) ys = ap (λ (l : List Event). cond (is_linked p ds) (linked x) x ∷ l) (link_join ds (suc p) xs ys ∙ ap (λ (k : ℕ). link_all ds (suc p) xs ++ link_all ds k ys) (onward p (length xs)))
  where
    onward : (k m : ℕ) → suc k + m ≡ k + suc m
    onward k m = omega arith

link-length : (ds : List Deed) (p : ℕ) (xs : List Event) → length (link_all ds p xs) ≡ length xs
unfolding link_all
link-length ds p [] = refl
link-length ds p (x ∷ xs) = ap suc (link-length ds (suc p) xs)

-- ## The law: what is made by rising deeds, the edit map makes

take-front : (xs ys : List Event) → take (length xs) (xs ++ ys) ≡ xs
take-front [] ys = refl
take-front (x ∷ xs) ys = ap (λ (l : List Event). x ∷ l) (take-front xs ys)

drop-front : (xs ys : List Event) → drop (length xs) (xs ++ ys) ≡ ys
drop-front [] ys = refl
drop-front (x ∷ xs) ys = drop-front xs ys

module _ (pool : List Event) where
  -- what the edit map makes from a position on, with the links
  abbrev makes : ℕ → ℕ → List Deed → List Event → List Event
  makes n p ds xs = edited pool (edits_from n ds) p 0 (link_all ds p xs)

  at-end : (n p : ℕ) → makes n p [] [] ≡ []
  unfolding edited edits_from link_all here added
  at-end n p = refl

  at_copy : (n p : ℕ) (ds : List Deed) (x : Event) (xs : List Event) → Late (suc p) ds → makes n p ds (x ∷ xs) ≡ x ∷ makes n (suc p) ds xs
  unfolding link_all
  at_copy n p ds x xs l = rw (not_linked {i = p} l (omega arith)) (copied pool (edits_from n ds) p x (link_all ds (suc p) xs) (not_here {i = p} n l (omega arith)) ∙ ap (λ (k : ℕ). x ∷ edited pool (edits_from n ds) k 0 (link_all ds (suc p) xs)) (add-one p))

  at-link : (n p : ℕ) (ds : List Deed) (x : Event) (xs : List Event) → Late (suc p) ds → makes n p (link p ∷ ds) (x ∷ xs) ≡ linked x ∷ makes n (suc p) ds xs
  unfolding link_all is_linked edits_from
  at-link n p ds x xs l =
      rw (eq-eqb p p refl, link-past p ds (suc p) xs (omega arith))
      (copied pool (edits_from n ds) p (linked x) (link_all ds (suc p) xs) (not_here {i = p} n l (omega arith)) ∙ ap (λ (k : ℕ). linked x ∷ edited pool (edits_from n ds) k 0 (link_all ds (suc p) xs)) (add-one p))

  at-adds : (n p : ℕ) (ds : List Deed) (new xs : List Event) → take (length new) (drop n pool) ≡ new → makes n p (add p 0 new ∷ ds) xs ≡ new ++ makes (n + length new) p ds xs
  at-adds n p ds new xs h = ap (λ (l : List Event). edited pool (edits_from n (add p 0 new ∷ ds)) p 0 l) (link-add p 0 new ds p xs) ∙ front pool p n ds new (link_all ds p xs) h

  link-split : (p k : ℕ) (ds : List Deed) (x : Event) (gone xs : List Event)
      → link_all (add p k [] ∷ ds) p (x ∷ (gone ++ xs)) ≡ cond (is_linked p ds) (linked x) x ∷ (link_all ds (suc p) gone ++ link_all ds (suc p + length gone) xs)
  unfolding link_all is_linked
  link-split p k ds x gone xs = ap (λ (l : List Event). cond (is_linked p ds) (linked x) x ∷ l) (link-add p k [] ds (suc p) (gone ++ xs) ∙ link_join ds (suc p) gone xs)

  at_removes : (n p : ℕ) (ds : List Deed) (x : Event) (gone xs : List Event) → Late (suc p) ds → makes n p (add p (suc (length gone)) [] ∷ ds) (x ∷ (gone ++ xs)) ≡ makes (n + 0) (suc p + length gone) ds xs
  at_removes n p ds x gone xs l =
      ap (λ (k : List Event). edited pool (edits_from n (add p (suc (length gone)) [] ∷ ds)) p 0 k) (link-split p (suc (length gone)) ds x gone xs)
      ∙ subst (λ (k : ℕ). edited pool (edits_from n (add p (suc k) [] ∷ ds)) p 0 (y ∷ (link_all ds (suc p) gone ++ rest)) ≡ edited pool (edits_from (n + 0) ds) (suc p + k) 0 rest) (link-length ds (suc p) gone)
      (cleared pool p n ds y (link_all ds (suc p) gone) rest l)
    where
      y : Event
      y = cond (is_linked p ds) (linked x) x

      rest : List Event
      rest = link_all ds (suc p + length gone) xs

  pub made : {p q : ℕ} {ds : List Deed} {xs out : List Event} → Makes p ds xs out q [] [] → (n : ℕ) → drop n pool ≡ pool_of ds → makes n p ds xs ≡ out
  unfolding pool_of
  made {p} Makes.none n h = at-end n p
  made {p} {ds = ds} (copy {x = x} {xs = xs} m) n h = at_copy n p ds x xs (late m) ∙ ap (λ (l : List Event). x ∷ l) (made m n h)
  made {p} (adds {ds = ds} {new = new} {xs = xs} m) n h =
      at-adds n p ds new xs (ap (take (length new)) h ∙ take-front new (pool_of ds))
      ∙ ap (λ (l : List Event). new ++ l) (made m (n + length new) (sym (drop-drop (length new) n pool) ∙ ap (drop (length new)) h ∙ drop-front new (pool_of ds)))
  made {p} (removes {ds = ds} {x = x} gone {xs = xs} m) n h = at_removes n p ds x gone xs (later {q = suc p} (omega arith) (late m)) ∙ made m (n + 0) (ap (λ (k : ℕ). drop k pool) (same n) ∙ h)
    where
      same : (k : ℕ) → k + 0 ≡ k
      same k = omega arith
  made {p} (links {ds = ds} {x = x} {xs = xs} m) n h = at-link n p ds x xs (late m) ∙ ap (λ (l : List Event). linked x ∷ l) (made m n h)
