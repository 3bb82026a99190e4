-- After each byte the run ends where it ended before.
use Rattle.std.proofs.Common.{◌≡◌, ◌-◌, length}
use Rattle.tokenizer.specs.Bytes.{kind_in}
use Rattle.tokenizer.specs.Moves.{Inside, run_of}
use Rattle.tokenizer.proofs.Ahead.{run_end}
use Rattle.tokenizer.proofs.moves.Sheet.run_end.Given as goal

abbrev pub invariant-loop-q : goal.invariant-loop-q
invariant-loop-q l = Inside l.self.bytes.now l.q × (run_end (run_of (kind_in l.self.kinds.now) l.k) l.self.bytes.now l.q ≡ run_end (run_of (kind_in l.self.kinds.now) l.k) l.self.bytes.now l.initial.q)

abbrev pub decreases-loop-q : goal.decreases-loop-q
decreases-loop-q l = length l.self.bytes.now - l.q.index
