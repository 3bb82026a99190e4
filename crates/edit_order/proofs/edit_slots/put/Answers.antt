-- `edit_slots::put` meets its contract.
-- Assumes nothing.
use mathlib.Core.Path.{◌∙◌}
use native.Mathlib.Omega.{arith}
use Rattle.edit_order.proofs.EditSlots.{inside, put_is}
use Rattle.edit_order.proofs.edit_slots.put.Goals as goal

pub overflow_mul-i : goal.overflow_mul-i
overflow_mul-i c = omega (arith, inside _ _ c.requires)

pub write_at-requires : goal.write_at-requires
write_at-requires c = omega (arith, inside _ _ c.requires)

pub returns : goal.returns
returns c = c.write_at.ensures ∙ put_is _ _ _ c.requires
