-- After each byte the run ends where it ended before.
use Rattle.std.proofs.Common.{◌≡◌, ◌+◌, ◌-◌, length, drop}
use Rattle.tokenizer.specs.Bytes.{kind_number, kind_in}
use Rattle.tokenizer.specs.Lines.{line_body}
use Rattle.tokenizer.specs.Moves.{run_of}
use Rattle.tokenizer.proofs.text.Text.run_stop.Given as goal

abbrev pub invariant-loop-k : goal.invariant-loop-k
invariant-loop-k g l =
    let run = λ (i : _). length (run_of (kind_in l.self.kinds.now) (kind_number l.k) (line_body (drop i l.self.bytes.now))) in
    l.i + run l.i ≡ l.initial.i + run l.initial.i

abbrev pub decreases-loop-k : goal.decreases-loop-k
decreases-loop-k g l = length l.self.bytes.now - l.i
