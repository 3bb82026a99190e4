-- The slots up to a place are written, and the rest take what all take from a state on.
use Rattle.std.proofs.Common.{◌≡◌, ◌-◌, ◌++◌, length, take}
use Rattle.edit_map.specs.AlignSteps.{pauses, aligns_from}
use Rattle.edit_map.proofs.infer.fill_alignments.Given as goal

abbrev pub invariant-loop-slot : goal.invariant-loop-slot
invariant-loop-slot l =
    take l.slot-index l.alignments ++ aligns_from l.list (length l.initial.alignments - l.slot-index) l.cur
    ≡ aligns_from l.list (length l.initial.alignments) l.fn.s

abbrev pub ghost-scan : goal.ghost-scan
ghost-scan a = pauses
