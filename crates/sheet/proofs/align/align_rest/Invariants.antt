-- `align::align_rest` meets its contract: what is written, what is to come and what stays make the same slots.
-- Assumes nothing.
use Rattle.std.proofs.Common.{◌≡◌, ◌≤◌, ◌+◌, length}
use Rattle.tokenizer.specs.Bytes.{kind_in}
use Rattle.sheet.specs.Aligning.{aligns_from, filled}
use Rattle.sheet.proofs.align.align_rest.Given as goal

abbrev pub invariant-loop-slot : goal.invariant-loop-slot
invariant-loop-slot l =
    let aligns = aligns_from (kind_in l.text.kinds.now) l.text.bytes.now in
    (l.i ≤ length l.text.bytes.now)
    × (l.slot-index + length (aligns l.i) ≤ length l.slots)
    × (filled l.slot-index (aligns l.i) l.slots ≡ filled 0 (aligns l.initial.i) l.initial.slots)
