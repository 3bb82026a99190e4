-- What was still to come is still to come. The measure is the steps that give no record.
use Rattle.std.proofs.Common.{◌≡◌}
use Rattle.edit_order.specs.EditSlots.{edits_of}
use Rattle.edit_map.specs.EditCursor.{steps}
use Rattle.edit_map.proofs.EditMoves.{Walking}
use Rattle.edit_map.proofs.edit_walk.RecordsIterator.next.Given as goal

abbrev pub invariant-loop-e : goal.invariant-loop-e
invariant-loop-e l = Walking l.walk.list.now l.walk.pool.now (edits_of l.walk.edits.now) l.initial.c l.c × (l.self ≡ l.initial.self)

abbrev pub decreases-loop-e : goal.decreases-loop-e
decreases-loop-e l = steps (edits_of l.walk.edits.now) l.c
