-- After each byte the run ends where it ended before.
use Rattle.std.proofs.Common.{◌≡◌, ◌+◌, ◌≤◌, length, max}
use Rattle.tokenizer.specs.Bytes.{kind_in}
use Rattle.gfm_table.specs.Delimiters.{filler_run}
use Rattle.gfm_table.proofs.Passing.{line_from}
use Rattle.gfm_table.proofs.pieces.fillers_end.Given as goal

abbrev pub invariant-loop-i : goal.invariant-loop-i
invariant-loop-i g l =
    let run = λ (i : _). length (filler_run (kind_in l.text.kinds.now) (line_from l.text.bytes.now i)) in
    (l.i ≤ max l.at (length l.text.bytes.now)) × (l.i + run l.i ≡ l.at + run l.at)
