-- `edit_walk::Walk::between` meets its contract.
-- Assumes nothing.
use mathlib.Core.Path.{◌≡◌}
use mathlib.Core.List.{[]}
use native.Mathlib.Omega.{arith}
use lib.ListN.{drop}
use Rattle.edit_order.specs.EditSlots.{edits_of}
use Rattle.edit_order.specs.Edits.{here}
use Rattle.edit_map.proofs.EditMoves.{between_skip, between-room, between_group, between_list, between-end, none_above, none_end}
use Rattle.edit_map.proofs.edit_walk.Walk.between.Goals as goal
use Rattle.edit_map.proofs.edit_walk.Walk.between.Goals.{then-edit-number+else-e-at+else-e-at-2, else-edit-number}

pub returns-then-e-at : goal.returns-then-e-at
returns-then-e-at c = between_skip _ _ _ _ _ c.requires _ c.get-e.ensures (omega arith) c.if-e-at.true

pub gather-g-requires : goal.gather-g-requires
gather-g-requires c = (omega arith, omega (arith, between-room _ _ _ _ _ c.requires _ c.get-e.ensures (omega arith) c.if-e-at-2.true))

pub overflow_add-result-then-e-at-2 : goal.overflow_add-result-then-e-at-2
overflow_add-result-then-e-at-2 c = omega (arith, between-room _ _ _ _ _ c.requires _ c.get-e.ensures (omega arith) c.if-e-at-2.true)

pub returns-then-e-at-2 : goal.returns-then-e-at-2
returns-then-e-at-2 c =
    between_group _ _ _ _ _ c.requires _ c.get-e.ensures (omega arith) c.if-e-at-2.true _ _ c.gather-g.ensures.0 c.gather-g.ensures.1

pub returns-then-at-self : goal.returns-then-at-self
returns-then-at-self c =
    let z : here c.args.at (drop c.args.edit (edits_of c.args.self.edits.now)) ≡ [] = elim c.if-edit-number.branch [
      | then-edit-number+else-e-at+else-e-at-2 w ↦ none_above _ _ _ _ _ c.requires _ w.get-e.ensures (omega arith) (omega arith)
      | else-edit-number w ↦ none_end _ _ _ _ _ c.requires (omega arith)
    ] in
    between_list _ _ _ _ _ c.requires z c.if-at-self.true

pub returns : goal.returns
returns c =
    let z : here c.args.at (drop c.args.edit (edits_of c.args.self.edits.now)) ≡ [] = elim c.if-edit-number.branch [
      | then-edit-number+else-e-at+else-e-at-2 w ↦ none_above _ _ _ _ _ c.requires _ w.get-e.ensures (omega arith) (omega arith)
      | else-edit-number w ↦ none_end _ _ _ _ _ c.requires (omega arith)
    ] in
    between-end _ _ _ _ _ c.requires z c.if-at-self.false
