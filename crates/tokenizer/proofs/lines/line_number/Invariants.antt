-- At each byte the number is that of its line.
use Rattle.std.proofs.Common.{◌≡◌, ◌≤◌, ◌-◌}
use Rattle.tokenizer.specs.Lines.{line_number}
use Rattle.tokenizer.proofs.lines.line_number.Given as goal

abbrev pub invariant-loop-i : goal.invariant-loop-i
invariant-loop-i l = (l.i ≤ l.at) × (l.n ≡ line_number l.s l.i)

abbrev pub decreases-loop-i : goal.decreases-loop-i
decreases-loop-i l = l.at - l.i
