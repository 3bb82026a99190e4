-- `edit_walk::Walk::back` meets its contract.
-- Assumes nothing.
use Prim.Native.Nat.{◌+◌, ◌-◌, ◌≤◌}
use mathlib.Core.Logic.{inl, inr}
use native.Mathlib.Omega.{arith}
use lib.ListN.{length}
use Rattle.edit_order.proofs.EditSlots.{inside}
use Rattle.edit_map.proofs.EditMoves.{back-turn, back_fits, back_pool, back_on}
use Rattle.edit_map.proofs.edit_walk.Walk.back.Goals as goal
use Rattle.edit_map.proofs.edit_walk.Walk.back.Goals.{Then-b-e, else-e-ne0-via-then-e-ne0+else-b-e, else-e-ne0-via-else-e-ne0}

-- what the edit adds is in the pool
in_pool : (c : Then-b-e) → c.get-e.result.from + c.get-e.result.adds ≤ length c.args.self.pool.now
in_pool c = back_fits _ _ _ _ c.requires (c.args.b.left - 1) (omega (arith, c.if-b-eq0.false)) _ c.get-e.ensures c.if-b-e.true

pub returns-then-b-eq0 : goal.returns-then-b-eq0
returns-then-b-eq0 c = back-turn _ _ _ _ c.requires c.if-b-eq0.true

pub overflow_add-b : goal.overflow_add-b
overflow_add-b c = let a = c.args in omega (arith, inside a.self.edits.now (a.b.edit + (a.b.left - 1)) (omega arith))

pub overflow_add-result : goal.overflow_add-result
overflow_add-result c = omega (arith, in_pool (goal.at.overflow_add-result c).Then-b-e)

pub offset_bounds-self-e : goal.offset_bounds-self-e
offset_bounds-self-e c = omega (arith, in_pool (goal.at.offset_bounds-self-e c).Then-b-e)

pub bounds-self-e : goal.bounds-self-e
bounds-self-e c = omega (arith, in_pool (goal.at.bounds-self-e c).Then-b-e)

pub returns-then-b-e : goal.returns-then-b-e
returns-then-b-e c = back_pool _ _ _ _ c.requires (c.args.b.left - 1) (omega (arith, c.if-b-eq0.false)) _ c.get-e.ensures c.if-e-ne0.true c.if-b-e.true

pub returns : goal.returns
returns c =
    back_on _ _ _ _ c.requires (c.args.b.left - 1) (omega (arith, c.if-b-eq0.false)) _ c.get-e.ensures
    (elim c.else-e-ne0.branch [ else-e-ne0-via-then-e-ne0+else-b-e w ↦ inr w.if-b-e.false | else-e-ne0-via-else-e-ne0 w ↦ inl w.if-e-ne0.false ])
