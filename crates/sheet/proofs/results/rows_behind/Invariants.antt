-- The rows that are left make of the slots what all of them make of the slots as they came.
use Rattle.std.proofs.Common.{◌≡◌, ◌-◌}
use Rattle.tokenizer.specs.Bytes.{kind_in}
use Rattle.sheet.proofs.ResultBodies.{makes, Good}
use Rattle.sheet.proofs.results.rows_behind.Given as goal

abbrev pub invariant-loop-x : goal.invariant-loop-x
invariant-loop-x l =
    Good (kind_in l.text.kinds.now) l.text.bytes.now l.stop l.x
    × (makes (kind_in l.text.kinds.now) l.text.bytes.now l.stop l.fn.w l.fn.slots ≡ makes (kind_in l.text.kinds.now) l.text.bytes.now l.stop l.x l.slots)

abbrev pub decreases-loop-x : goal.decreases-loop-x
decreases-loop-x l = l.stop - l.x.at
