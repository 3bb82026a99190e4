-- A turn counts one edit more of the group.
use Rattle.std.proofs.Common.{drop}
use Rattle.edit_order.specs.EditSlots.{edits_of}
use Rattle.edit_map.proofs.EditLeading.{Gathering}
use Rattle.edit_map.proofs.edit_walk.gather.Given as goal

abbrev pub invariant-loop-group : goal.invariant-loop-group
invariant-loop-group l = Gathering (drop l.i (edits_of l.edits)) l.at l.group-index l.g.size l.g.removes
