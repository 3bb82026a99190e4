-- The slots up to a place are written, and the records that are left fill the rest as all of them fill all.
use Rattle.std.proofs.Common.{◌≡◌, ◌-◌, ◌++◌, length, take}
use Rattle.tokenizer.specs.Slots.{slots_of}
use Rattle.edit_map.specs.Records.{left_of}
use Rattle.edit_map.proofs.edit_map.fill.Given as goal

abbrev pub invariant-loop-i : goal.invariant-loop-i
invariant-loop-i l =
    take l.i l.results ++ slots_of (length l.initial.results - l.i) (left_of l.records)
    ≡ slots_of (length l.initial.results) (left_of l.initial.records)
