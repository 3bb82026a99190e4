-- After each row the rows that are left make of the slots what all of them make of the slots as they came.
-- Assumes nothing.
use Rattle.std.proofs.Common.{◌≡◌, ◌-◌, length}
use Rattle.tokenizer.specs.Bytes.{kind_in}
use Rattle.sheet.proofs.Placing.{Good, makes}
use Rattle.sheet.proofs.tables.raw_body.Given as goal

abbrev pub invariant-loop-x : goal.invariant-loop-x
invariant-loop-x l =
    Good (kind_in l.text.kinds.now) l.text.bytes.now l.stop l.x
    × (makes (kind_in l.text.kinds.now) l.text.bytes.now l.fn.w l.fn.slots ≡ makes (kind_in l.text.kinds.now) l.text.bytes.now l.x l.slots)

abbrev pub decreases-loop-x : goal.decreases-loop-x
decreases-loop-x l = length l.text.bytes.now - l.x.at
