-- After each byte the answer for what is left is the answer for the whole.
use Rattle.std.proofs.Common.{◌≡◌, ◌≤◌, length, max}
use Rattle.tokenizer.specs.Bytes.{kind_in}
use Rattle.gfm_table.specs.Heads.{marked}
use Rattle.gfm_table.proofs.Passing.{line_from}
use Rattle.gfm_table.proofs.values.marked_from.Given as goal

abbrev pub invariant-loop-i : goal.invariant-loop-i
invariant-loop-i g l =
    let left = λ (i : _). marked (kind_in l.text.kinds.now) (line_from l.text.bytes.now i) in
    (l.i ≤ max l.at (length l.text.bytes.now)) × (left l.i ≡ left l.at)
