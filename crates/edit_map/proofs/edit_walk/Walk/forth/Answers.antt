-- `edit_walk::Walk::forth` meets its contract.
-- Assumes nothing.
use Prim.Native.Nat.{◌+◌, ◌-◌, ◌≤◌}
use mathlib.Core.Logic.{inl, inr}
use native.Mathlib.Omega.{arith}
use lib.ListN.{length}
use Rattle.edit_order.proofs.EditSlots.{inside}
use Rattle.edit_map.proofs.EditMoves.{forth_turn, forth_fits, forth_pool, forth_on}
use Rattle.edit_map.proofs.edit_walk.Walk.forth.Goals as goal
use Rattle.edit_map.proofs.edit_walk.Walk.forth.Goals.{Then-f-e, else-e-eq0-via-then-e-eq0+else-f-e, else-e-eq0-via-else-e-eq0}

-- what the edit adds is in the pool
in_pool : (c : Then-f-e) → c.get-e.result.from + c.get-e.result.adds ≤ length c.args.self.pool.now
in_pool c = forth_fits _ _ _ _ c.requires (c.args.f.left - 1) (omega (arith, c.if-f-eq0.false)) _ c.get-e.ensures c.if-f-e.true

pub returns-then-f-eq0 : goal.returns-then-f-eq0
returns-then-f-eq0 c = forth_turn _ _ _ _ c.requires c.if-f-eq0.true

pub overflow_add-result-2 : goal.overflow_add-result-2
overflow_add-result-2 c = let a = c.args in omega (arith, inside a.self.edits.now a.f.edit (omega arith))

pub overflow_add-result : goal.overflow_add-result
overflow_add-result c = omega (arith, in_pool (goal.at.overflow_add-result c).Then-f-e)

pub offset_bounds-self-e : goal.offset_bounds-self-e
offset_bounds-self-e c = omega (arith, in_pool (goal.at.offset_bounds-self-e c).Then-f-e)

pub bounds-self-e : goal.bounds-self-e
bounds-self-e c = omega (arith, in_pool (goal.at.bounds-self-e c).Then-f-e)

pub returns-then-f-e : goal.returns-then-f-e
returns-then-f-e c = forth_pool _ _ _ _ c.requires (c.args.f.left - 1) (omega (arith, c.if-f-eq0.false)) _ c.get-e.ensures c.if-e-eq0.true c.if-f-e.true

pub returns : goal.returns
returns c =
    forth_on _ _ _ _ c.requires (c.args.f.left - 1) (omega (arith, c.if-f-eq0.false)) _ c.get-e.ensures
    (elim c.else-e-eq0.branch [ else-e-eq0-via-then-e-eq0+else-f-e w ↦ inr w.if-f-e.false | else-e-eq0-via-else-e-eq0 w ↦ inl w.if-e-eq0.false ])
