-- After each byte the run ends where it ended before.
use mathlib.Core.Path.{◌≡◌}
use Rattle.tokenizer.specs.Bytes.{kind_in}
use Rattle.tokenizer.specs.Lines.{indent}
use Rattle.tokenizer.specs.Moves.{Inside}
use Rattle.tokenizer.proofs.Ahead.{run_end}
use Rattle.gfm_table.specs.Places.{point_in}
use Rattle.gfm_table.proofs.rows.spaces_past.Given as goal

abbrev pub invariant-loop-i : goal.invariant-loop-i
invariant-loop-i l =
    let run = run_end (indent (kind_in l.text.kinds.now)) l.text.bytes.now in
    Inside l.text.bytes.now (point_in 0 l.i l.c) × (run (point_in 0 l.i l.c) ≡ run (point_in 0 l.fn.from.at l.fn.from.column))
