-- After each byte the line ends where it ended before.
use Rattle.std.proofs.Common.{◌≡◌, ◌+◌, ◌-◌, length, drop}
use Rattle.tokenizer.specs.Lines.{line_body}
use Rattle.tokenizer.proofs.text.Text.line_stop.Given as goal

abbrev pub invariant-loop-i : goal.invariant-loop-i
invariant-loop-i g l = l.i + length (line_body (drop l.i l.self.bytes.now)) ≡ l.initial.i + length (line_body (drop l.initial.i l.self.bytes.now))

abbrev pub decreases-loop-i : goal.decreases-loop-i
decreases-loop-i g l = length l.self.bytes.now - l.i
