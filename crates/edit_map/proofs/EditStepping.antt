-- What is still to come, from one step of the cursor to the next.
-- Assumes nothing.
use Prim.Native.Nat.{ℕ, zero, suc, ◌+◌, ◌-◌, ◌≤◌, ◌<◌}
use mathlib.Core.Path.{◌≡◌, refl, ap, sym, ◌∙◌}
use mathlib.Core.List.{List, [], ◌∷◌, ◌++◌, append_assoc, append-nil}
use mathlib.Core.Bool.{Bool, true, false, cond}
use native.Mathlib.Omega.{arith}
use native.Mathlib.Nat.{le_of_suc-le-suc, not-suc-le-zero, add-zero}
use native.Mathlib.Numerals.{add-one}
use lib.Dec.{eqb}
use borrow.Author.Tests.{ne_eqb}
use lib.ListN.{length, get_or, take, drop, length-drop, length-take, drop_of_length-le}
use lib.Seq.{drop-cons, take-suc, get_or-take, get_or-drop}
use Rattle.tokenizer.specs.declared.event.Event.{Event}
use Rattle.edit_order.specs.declared.edit_slots.Edit.{Edit}
use Rattle.edit_order.specs.EditFives.{no_edit}
use Rattle.edit_order.specs.Edits.{here, removed, added, addition, edited}
use Rattle.edit_order.specs.EditOrder.{Rises}
use Rattle.tokenizer.specs.Events.{blank_event}
use Rattle.edit_map.specs.EditCursor.{leading, front, fronts, backs, backward, forward}
use Rattle.edit_order.proofs.EditSorted.{edited_cong}
use Rattle.edit_map.proofs.EditLeading.{leading-here, leading_le, take-leading, rest, here-rest, none_rest}

-- ## A position with no edits, and one with a group

pub edited-none : (pool : List Event) (es : List Edit) (p : ℕ) (z : Event) (zs : List Event) → here p es ≡ [] → edited pool es p 0 (z ∷ zs) ≡ z ∷ edited pool es (p + 1) 0 zs
unfolding edited added removed
edited-none pool es p z zs e = rw e

pub edited-end : (pool : List Event) (es : List Edit) (p : ℕ) → here p es ≡ [] → edited pool es p 0 [] ≡ []
unfolding edited added
edited-end pool es p e = rw e

edited_nil : (pool : List Event) (es : List Edit) (p : ℕ) → edited pool es p 0 [] ≡ added pool [] (here p es)
unfolding edited
edited_nil pool es p = refl

edited-cons : (pool : List Event) (es : List Edit) (p : ℕ) (z : Event) (zs : List Event)
    → edited pool es p 0 (z ∷ zs)
    ≡ added pool [] (here p es) ++ cond (eqb (removed (here p es)) 0) (z ∷ edited pool es (p + 1) 0 zs) (edited pool es (p + 1) (removed (here p es) - 1) zs)
unfolding edited
edited-cons pool es p z zs = refl

-- removed records are passed over
edited_gone : (pool : List Event) (es : List Edit) (p m : ℕ) (zs : List Event) → m ≤ length zs → edited pool es p m zs ≡ edited pool es (p + m) 0 (drop m zs)
unfolding edited
edited_gone pool es p zero zs h = rw (add-zero p)
edited_gone pool es p (suc m) [] h = absurd (not-suc-le-zero h)
edited_gone pool es p (suc m) (z ∷ zs) h =
    edited_gone pool es (p + 1) m zs (le_of_suc-le-suc h)
    ∙ ap (λ (k : ℕ). edited pool es k 0 (drop m zs)) (omega arith)

-- xs are the edits g at p, and those of ys behind p
module _ (pool : List Event) (xs ys g : List Edit) (p : ℕ) (a : here p xs ≡ g) (b : here p ys ≡ []) (c : (q : ℕ) → p < q → here q xs ≡ here q ys) where
  pub edited_group : (zs : List Event) → removed g ≤ length zs → edited pool xs p 0 zs ≡ added pool [] g ++ edited pool ys (p + removed g) 0 (drop (removed g) zs)
  edited_group zs h = go (removed g) refl zs h
    where
      later : (m : ℕ) (zs : List Event) → edited pool xs (p + 1) m zs ≡ edited pool ys (p + 1) m zs
      later m zs = edited_cong pool (p + 1) m zs xs ys (λ q l. c q (omega arith))

      nothing : (zs : List Event) → removed g ≡ 0 → edited pool xs p 0 zs ≡ added pool [] g ++ edited pool ys p 0 zs
      nothing [] e = edited_nil pool xs p ∙ rw (a, edited-end pool ys p b, append-nil)
      nothing (z ∷ zs) e = edited-cons pool xs p z zs ∙ rw (a, e, later 0 zs, edited-none pool ys p z zs b)

      go : (m : ℕ) → removed g ≡ m → (zs : List Event) → m ≤ length zs → edited pool xs p 0 zs ≡ added pool [] g ++ edited pool ys (p + m) 0 (drop m zs)
      go zero e zs h = rw (add-zero p) (nothing zs e)
      go (suc m) e [] h = absurd (not-suc-le-zero h)
      go (suc m) e (z ∷ zs) h =
          let less : suc m - 1 ≡ m = omega arith in
          let far : p + 1 + m ≡ p + suc m = omega arith in
          edited-cons pool xs p z zs ∙ rw (a, e, ne_eqb (suc m) 0 (omega arith), less, later m zs, edited_gone pool ys (p + 1) m zs (le_of_suc-le-suc h), far)

-- ## A group's additions

pub added-split : (pool so : List Event) (g : List Edit) → added pool so g ≡ fronts pool g ++ so ++ backs pool g
unfolding added fronts backs
added-split pool so [] = sym (append-nil so)
added-split pool so (e ∷ g) = go (eqb e.before 0) (λ x. added-split pool x g)
  where
    go : (b : Bool) → ((x : List Event) → added pool x g ≡ fronts pool g ++ x ++ backs pool g)
        → added pool (cond b (so ++ addition pool e) (addition pool e ++ so)) g ≡ fronts pool g ++ cond b [] (addition pool e) ++ so ++ (cond b (addition pool e) [] ++ backs pool g)
    go true ih = ih (so ++ addition pool e) ∙ simp (append_assoc, append-nil)
    go false ih = ih (addition pool e ++ so) ∙ simp append_assoc

fronts_snoc : (pool : List Event) (es : List Edit) (e : Edit) → fronts pool (es ++ e ∷ []) ≡ front pool e ++ fronts pool es
unfolding fronts
fronts_snoc pool [] e = sym (append-nil (front pool e))
fronts_snoc pool (x ∷ es) e = rw (fronts_snoc pool es e) (append_assoc (front pool e) (fronts pool es) (front pool x))

pub backward-start : (pool : List Event) (es : List Edit) (k : ℕ) → k ≤ length es → backward pool es 0 k ≡ fronts pool (take k es)
unfolding backward fronts
backward-start pool es zero h = refl
backward-start pool es (suc k) h = rw (take-suc es k no_edit h) (sym (fronts_snoc pool (take k es) (get_or es k no_edit)))

pub forward-start : (pool : List Event) (es : List Edit) (k : ℕ) → k ≤ length es → forward pool es 0 k ≡ backs pool (take k es)
unfolding forward backs
forward-start pool es zero h = refl
forward-start pool [] (suc k) h = absurd (not-suc-le-zero h)
forward-start pool (e ∷ es) (suc k) h = refl

-- an addition, from its record `off` on
pub addition_on : (pool : List Event) (e : Edit) (off : ℕ) → off < e.adds → e.from + e.adds ≤ length pool
    → drop off (addition pool e) ≡ get_or pool (e.from + off) blank_event ∷ drop (off + 1) (addition pool e)
addition_on pool e off h l =
    drop-cons (addition pool e) off blank_event (rw (length-take, length-drop) (omega arith))
    ∙ rw (add-one off, get_or-take e.adds (drop e.from pool) off blank_event h, get_or-drop)

pub addition_off : (pool : List Event) (e : Edit) (off : ℕ) → e.adds ≤ off → drop off (addition pool e) ≡ []
addition_off pool e off h = drop_of_length-le (addition pool e) {i = off} (rw length-take (omega arith))

-- a group's records, and then the list behind what it removes
pub comes_group : (pool : List Event) (xs : List Edit) (p : ℕ) (zs : List Event) → Rises p xs → removed (leading p xs) ≤ length zs
    → edited pool xs p 0 zs
    ≡ backward pool xs 0 (length (leading p xs)) ++ (backs pool (take (length (leading p xs)) xs) ++ edited pool (rest p xs) (p + removed (leading p xs)) 0 (drop (removed (leading p xs)) zs))
comes_group pool xs p zs r h =
    edited_group pool xs (rest p xs) (leading p xs) p (sym (leading-here p xs r)) (none_rest p xs r) (λ q l. here-rest p q xs l) zs h
    ∙ rw (added-split pool [] (leading p xs), backward-start pool xs (length (leading p xs)) (leading_le p xs), take-leading p xs)
    (simp (append-nil, append_assoc))
