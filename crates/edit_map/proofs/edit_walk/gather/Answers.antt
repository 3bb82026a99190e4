-- `edit_walk::gather` meets its contract: a turn counts one edit more of the group.
-- Assumes nothing.
use Prim.Native.Nat.{ℕ, ◌-◌, ◌<◌}
use mathlib.Core.Path.{◌≡◌, ap, sym, ◌∙◌}
use mathlib.Core.List.{List, map}
use native.Mathlib.Omega.{arith}
use lib.ListN.{length, get_or, take, drop, length-drop}
use lib.Seq.{take_all}
use Rattle.std.proofs.lemmas.List.{drop-map, length-map}
use Rattle.edit_order.specs.declared.edit_slots.Edit.{Edit}
use Rattle.edit_order.specs.EditFives.{no_edit, edit_of}
use Rattle.edit_order.specs.EditSlots.{edits_of}
use Rattle.edit_order.proofs.EditSlots.{get_is, room}
use Rattle.edit_map.proofs.EditLeading.{gather_on, gather_fits, gather_off, gather_end}
use Rattle.edit_map.proofs.edit_walk.gather.Goals.{After-from-e}
use Rattle.edit_map.proofs.edit_walk.gather.Goals as goal

-- the groups from number i on are the edits from there on
module _ (gs : List (List ℕ)) (es : List Edit) (i : ℕ) (h : map edit_of gs ≡ es) where
  on_from : map edit_of (take (length gs - i) (drop i gs)) ≡ drop i es
  on_from = ap (map edit_of) (take_all (length gs - i) (drop i gs) (omega (arith, length-drop i gs))) ∙ sym (drop-map edit_of i gs) ∙ ap (drop i) h

  as_many : length (take (length gs - i) (drop i gs)) ≡ length (drop i es)
  as_many = sym (length-map (take (length gs - i) (drop i gs)) edit_of) ∙ ap length on_from

-- a turn reads the next edit
next_is : (c : After-from-e) → (c.loop-group.group-index < length (drop c.args.i (edits_of c.args.edits.now))) × (c.from-e.result ≡ get_or (drop c.args.i (edits_of c.args.edits.now)) c.loop-group.group-index no_edit)
next_is c =
    let i = c.args.i in
    let l : c.loop-group.group-index < length (drop i (edits_of c.args.edits.now)) = omega (arith, as_many c.groups.result.now _ i c.groups.ensures) in
    (l, c.from-e.ensures ∙ get_is _ _ (on_from c.groups.result.now _ i c.groups.ensures) c.loop-group.group-index _ l)

pub returns-then-e-at : goal.returns-then-e-at
returns-then-e-at c =
    let n = next_is (goal.at.returns-then-e-at c).After-from-e in
    gather_off _ _ _ _ _ c.loop-group.invariant _ n.1 n.0 c.if-e-at.true

pub overflow_add-g : goal.overflow_add-g
overflow_add-g c =
    let n = next_is (goal.at.overflow_add-g c).After-from-e in
    omega (arith, (gather_fits _ _ _ _ _ c.loop-group.invariant _ n.1 n.0 c.if-e-at.false).0, length-drop c.args.i (edits_of c.args.edits.now), room c.args.edits.now)

pub overflow_add-g-in-loop-group : goal.overflow_add-g-in-loop-group
overflow_add-g-in-loop-group c =
    let n = next_is (goal.at.overflow_add-g-in-loop-group c).After-from-e in
    omega (arith, (gather_fits _ _ _ _ _ c.loop-group.invariant _ n.1 n.0 c.if-e-at.false).1)

pub loop-group-preserved : goal.loop-group-preserved
loop-group-preserved c =
    let n = next_is (goal.at.loop-group-preserved c).After-from-e in
    gather_on _ _ _ _ _ c.loop-group.invariant _ n.1 n.0 c.if-e-at.false

pub returns : goal.returns
returns c = gather_end _ _ _ _ _ c.loop-group.invariant (omega (arith, as_many c.groups.result.now _ c.args.i c.groups.ensures))
