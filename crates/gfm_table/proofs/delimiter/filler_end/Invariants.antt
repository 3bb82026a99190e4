-- After each byte the run ends where it ended before. The measure is the bytes left.
use Rattle.std.proofs.Common.{◌≡◌, ◌-◌, length}
use Rattle.tokenizer.specs.Bytes.{kind_in}
use Rattle.tokenizer.specs.Moves.{Inside}
use Rattle.gfm_table.specs.Delimiters.{filler_run}
use Rattle.tokenizer.proofs.Ahead.{run_end}
use Rattle.gfm_table.proofs.delimiter.filler_end.Given as goal

abbrev pub invariant-loop-q : goal.invariant-loop-q
invariant-loop-q l =
    let end = run_end (filler_run (kind_in l.text.kinds.now)) l.text.bytes.now in
    Inside l.text.bytes.now l.q × (end l.q ≡ end l.initial.q)

abbrev pub decreases-loop-q : goal.decreases-loop-q
decreases-loop-q l = length l.text.bytes.now - l.q.index
