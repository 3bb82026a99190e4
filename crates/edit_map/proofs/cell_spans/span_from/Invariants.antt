-- The text goes on from where it began to the place, and the column stays narrow.
use Rattle.std.proofs.Common.{◌-◌, ◌+◌, ◌*◌, ◌≤◌, length}
use Rattle.tokenizer.specs.Bytes.{kind_in}
use Rattle.edit_map.proofs.Spans.{Goes}
use Rattle.edit_map.proofs.cell_spans.span_from.Given as goal

abbrev pub invariant-loop-x : goal.invariant-loop-x
invariant-loop-x l = Goes (kind_in l.text.kinds.now) l.text.bytes.now l.fn.from.at l.fn.from.column l.x.at l.x.column × (l.x.column ≤ 4 * l.x.at + 1) × (l.x.at ≤ length l.text.bytes.now)

abbrev pub decreases-loop-x : goal.decreases-loop-x
decreases-loop-x l = length l.text.bytes.now - l.x.at
