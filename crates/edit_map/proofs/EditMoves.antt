-- The steps of the cursor: each gives one record of what is still to come, or none and goes on.
-- Assumes nothing.
use Prim.Native.Nat.{ℕ, suc, ◌+◌, ◌≤◌, ◌<◌}
use mathlib.Core.Path.{◌≡◌, refl, ap, sym, ◌∙◌}
use mathlib.Core.List.{List, [], ◌∷◌}
use mathlib.Core.Bool.{Bool, true, false, cond}
use mathlib.Core.Logic.{◌⊎◌, inl, inr}
use native.Mathlib.Omega.{arith}
use native.Mathlib.Nat.{le_refl, add-zero}
use native.Mathlib.Numerals.{add-one}
use lib.Dec.{eqb}
use borrow.Author.Tests.{eq-eqb, ne_eqb}
use lib.ListN.{length, get_or, drop, length-drop, drop_of_length-le}
use lib.Seq.{drop-cons, drop-drop, drop-nil, get_or-drop}
use Rattle.tokenizer.specs.declared.event.Event.{Event}
use Rattle.edit_order.specs.declared.edit_slots.Edit.{Edit}
use Rattle.edit_map.specs.declared.edit_walk.Backward.{Backward}
use Rattle.edit_map.specs.declared.edit_walk.Forward.{Forward}
use Rattle.edit_map.specs.declared.edit_walk.Cursor.{Cursor}
use Rattle.edit_map.specs.declared.edit_walk.Cursor.TheVariants.{Between, Back, Forth}
use Rattle.edit_map.specs.declared.edit_walk.Stepped.TheVariants as step
use Rattle.edit_order.specs.EditFives.{no_edit}
use Rattle.edit_order.specs.Edits.{here, removed, addition}
use Rattle.edit_order.specs.EditOrder.{Rises}
use Rattle.tokenizer.specs.Events.{blank_event}
use Rattle.tokenizer.specs.Slots.{event_at}
use Rattle.edit_map.specs.EditCursor.{leading, front, back, backward, forward, to_come, Stands, Ordered, Steps}
use Rattle.edit_order.proofs.EditOrder.{here-below, rises-after}
use Rattle.edit_order.proofs.EditSorted.{edited_cong}
use Rattle.edit_map.proofs.EditLeading.{leading-here, leading_le, leads_on}
use Rattle.edit_order.proofs.EditFitting.{fit_pool, fit-removed, removed-drop}
use Rattle.edit_map.proofs.EditStepping.{edited-none, edited-end, comes_group, backward-start, forward-start, addition_on, addition_off}

-- the edits from number i on rise from the position of edit i
rises-own : (es : List Edit) (i : ℕ) → i < length es → Rises 0 es → Rises (get_or es i no_edit).at (drop i es)
rises-own es i h r = rw (drop-cons es i no_edit h) (le_refl _, rises-after 0 es i h r)

-- the same edits, with a cursor elsewhere
keeps : {len n : ℕ} {es : List Edit} {c d : Cursor} → Ordered len n es c → Stands len es d → Ordered len n es d
keeps r s = record { rise = r.rise; fit = r.fit; stand = s }

-- ## Between two groups

module _ (list pool : List Event) (es : List Edit) (at i : ℕ) (r : Ordered (length list) (length pool) es (Between at i)) where
  module _ (e : Edit) (q : e ≡ get_or es i no_edit) (h : i < length es) where
    same_at : (get_or es i no_edit).at ≡ e.at
    same_at = ap (λ (x : Edit). x.at) (sym q)

    -- an edit of an earlier position
    pub between_skip : e.at < at → Steps list pool es (Between at i) (step.On (Between at (i + 1)))
    unfolding here
    between_skip l = (omega arith, keeps r (r.stand.0, omega arith), edited_cong pool at 0 (drop at list) (drop i es) (drop (i + 1) es) skipped)
      where
        skipped : (k : ℕ) → at ≤ k → here k (drop i es) ≡ here k (drop (i + 1) es)
        skipped k m = rw (add-one i, drop-cons es i no_edit h, ne_eqb (get_or es i no_edit).at k (omega (arith, same_at)))

    pub none_above : at < e.at → here at (drop i es) ≡ []
    none_above l = here-below (drop i es) (rw same_at l) (rises-own es i h r.rise)

    module _ (o : e.at ≡ at) where
      rises-here : Rises at (drop i es)
      rises-here = rw (same_at ∙ o) at (rises-own es i h r.rise)

      pub between-room : at + removed (leading at (drop i es)) ≤ length list
      between-room =
          omega (arith, ap removed (leading-here at (drop i es) rises-here), removed-drop at es i, fit-removed (length list) (length pool) es r.fit at r.stand.0)

      pub between_group : (s m : ℕ) → s ≡ length (leading at (drop i es)) → m ≡ removed (leading at (drop i es)) → Steps list pool es (Between at i) (step.On (Back (record { edit = i; size = s; left = s; off = 0; next = at + m })))
      between_group s m a b = (
        omega (arith, some, fits),
        keeps r (omega (arith, between-room), omega (arith, fits), le_refl s),
        comes_group pool (drop i es) at (drop at list) rises-here (rw length-drop (omega (arith, between-room)))
            ∙ rw (a, b, drop-drop (removed (leading at (drop i es))) at list),
      )
        where
          some : 0 < s
          some = omega (arith, ap length (leads_on at es i h (same_at ∙ o)))

          fits : i + s ≤ length es
          fits = omega (arith, leading_le at (drop i es), length-drop i es)

  pub none_end : length es ≤ i → here at (drop i es) ≡ []
  unfolding here
  none_end h = rw (drop_of_length-le es {i = i} h)

  module _ (z : here at (drop i es) ≡ []) where
    pub between_list : at < length list → Steps list pool es (Between at i) (step.Gives (event_at list at) (Between (at + 1) i))
    between_list h = (
      keeps r (omega arith, r.stand.1),
      rw (drop-cons list at blank_event h, add-one at)
          (edited-none pool (drop i es) at (get_or list at blank_event) (drop (suc at) list) z ∙ rw (add-one at)),
    )

    pub between-end : length list ≤ at → Steps list pool es (Between at i) step.End
    between-end h = rw (drop_of_length-le list {i = at} h) (edited-end pool (drop i es) at z)

-- ## In a group

drop-one : (k : ℕ) (es : List Edit) → drop k (drop 1 es) ≡ drop (suc k) es
drop-one k [] = drop-nil k
drop-one k (e ∷ es) = refl

off_front : (pool : List Event) (e : Edit) (off : ℕ) → (e.before ≡ 0) ⊎ (e.adds ≤ off) → drop off (front pool e) ≡ []
off_front pool e off (inl z) = rw (eq-eqb e.before 0 z) (drop-nil off)
off_front pool e off (inr h) = go (eqb e.before 0)
  where
    go : (b : Bool) → drop off (cond b [] (addition pool e)) ≡ []
    go true = drop-nil off
    go false = addition_off pool e off h

off_back : (pool : List Event) (e : Edit) (off : ℕ) → (e.before ≡ 0 → ⊥) ⊎ (e.adds ≤ off) → drop off (back pool e) ≡ []
off_back pool e off (inl z) = rw (ne_eqb e.before 0 z) (drop-nil off)
off_back pool e off (inr h) = go (eqb e.before 0)
  where
    go : (b : Bool) → drop off (cond b (addition pool e) []) ≡ []
    go true = addition_off pool e off h
    go false = drop-nil off

module _ (list pool : List Event) (es : List Edit) (b : Backward) (r : Ordered (length list) (length pool) es (Back b)) where
  pub back-turn : b.left ≡ 0 → Steps list pool es (Back b) (step.On (Forth (record { edit = b.edit; left = b.size; off = 0; next = b.next })))
  unfolding backward
  back-turn z = (
    omega arith,
    keeps r (r.stand.0, r.stand.1),
    rw (z, forward-start pool (drop b.edit es) b.size (rw length-drop (omega (arith, r.stand.1)))),
  )

  -- at the last of the edits that are left
  module _ (k : ℕ) (l : b.left ≡ suc k) (e : Edit) (q : e ≡ get_or es (b.edit + k) no_edit) where
    last-is : get_or (drop b.edit es) k no_edit ≡ e
    last-is = get_or-drop b.edit es k no_edit ∙ sym q

    pub back_fits : b.off < e.adds → e.from + e.adds ≤ length pool
    back_fits o = rw (← q) at (fit_pool (length list) (length pool) es r.fit (b.edit + k) (omega (arith, r.stand.1, r.stand.2)) (rw (← q) (omega arith)))

    pub back_pool : (e.before ≡ 0 → ⊥) → b.off < e.adds → Steps list pool es (Back b) (step.Gives (event_at pool (e.from + b.off)) (Back (record { edit = b.edit; size = b.size; left = b.left; off = b.off + 1; next = b.next })))
    unfolding backward
    back_pool y o = (
      keeps r r.stand,
      rw (l, last-is, ne_eqb e.before 0 y, addition_on pool e b.off o (back_fits o)),
    )

    pub back_on : (e.before ≡ 0) ⊎ (e.adds ≤ b.off) → Steps list pool es (Back b) (step.On (Back (record { edit = b.edit; size = b.size; left = k; off = 0; next = b.next })))
    unfolding backward
    back_on o = (
      omega arith,
      keeps r (r.stand.0, r.stand.1, omega (arith, r.stand.2)),
      rw (l, last-is, off_front pool e b.off o, backward-start pool (drop b.edit es) k (rw length-drop (omega (arith, r.stand.1, r.stand.2)))),
    )

module _ (list pool : List Event) (es : List Edit) (f : Forward) (r : Ordered (length list) (length pool) es (Forth f)) where
  pub forth_turn : f.left ≡ 0 → Steps list pool es (Forth f) (step.On (Between f.next f.edit))
  unfolding forward
  forth_turn z = (omega arith, keeps r (r.stand.0, omega (arith, r.stand.1)), rw z)

  -- at the first of the edits that are left
  module _ (k : ℕ) (l : f.left ≡ suc k) (e : Edit) (q : e ≡ get_or es f.edit no_edit) where
    first-is : get_or (drop f.edit es) 0 no_edit ≡ e
    first-is = get_or-drop f.edit es 0 no_edit ∙ rw (add-zero f.edit) (sym q)

    pub forth_fits : f.off < e.adds → e.from + e.adds ≤ length pool
    forth_fits o = rw (← q) at (fit_pool (length list) (length pool) es r.fit f.edit (omega (arith, r.stand.1)) (rw (← q) (omega arith)))

    pub forth_pool : e.before ≡ 0 → f.off < e.adds → Steps list pool es (Forth f) (step.Gives (event_at pool (e.from + f.off)) (Forth (record { edit = f.edit; left = f.left; off = f.off + 1; next = f.next })))
    unfolding forward
    forth_pool b o = (
      keeps r r.stand,
      rw (l, first-is, eq-eqb e.before 0 b, addition_on pool e f.off o (forth_fits o)),
    )

    pub forth_on : (e.before ≡ 0 → ⊥) ⊎ (e.adds ≤ f.off) → Steps list pool es (Forth f) (step.On (Forth (record { edit = f.edit + 1; left = k; off = 0; next = f.next })))
    unfolding forward
    forth_on o = (
      omega arith,
      keeps r (r.stand.0, omega (arith, r.stand.1)),
      rw (l, first-is, off_back pool e f.off o, ← (drop-drop 1 f.edit es), forward-start pool (drop 1 (drop f.edit es)) k short, drop-one k (drop f.edit es)),
    )
      where
        short : k ≤ length (drop 1 (drop f.edit es))
        short = omega (arith, length-drop 1 (drop f.edit es), length-drop f.edit es, r.stand.1)

-- ## From the step to the next record

-- what was still to come at c is still to come at d
pub record Walking (list pool : List Event) (es : List Edit) (c d : Cursor) : Type 0 where
  pub ready : Ordered (length list) (length pool) es d
  pub comes : to_come list pool es c ≡ to_come list pool es d

module _ {list pool : List Event} {es : List Edit} {c d : Cursor} (w : Walking list pool es c d) where
  pub next_given : (e : Event) (f : Cursor) → Steps list pool es d (step.Gives e f) → Ordered (length list) (length pool) es f × (to_come list pool es c ≡ e ∷ to_come list pool es f)
  next_given e f v = (v.0, w.comes ∙ v.1)

  pub next-end : Steps list pool es d step.End → to_come list pool es c ≡ []
  next-end v = w.comes ∙ v
