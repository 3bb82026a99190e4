-- After each byte, and after each escape, the run ends where it ended before. The measure is the bytes left.
use Prim.Native.Nat.{◌+◌, ◌-◌}
use mathlib.Core.Bool.{false}
use mathlib.Core.Path.{◌≡◌}
use lib.ListN.{length}
use Rattle.tokenizer.specs.Bytes.{kind_in}
use Rattle.gfm_table.specs.Machine.{data_run}
use Rattle.gfm_table.proofs.Passing.{line_from}
use Rattle.gfm_table.proofs.pieces.text_end.Given as goal

abbrev pub invariant-loop-i : goal.invariant-loop-i
invariant-loop-i g l =
    let run = λ (i : _). length (data_run (kind_in l.text.kinds.now) false (line_from l.text.bytes.now i)) in
    l.i + run l.i ≡ l.initial.i + run l.initial.i

abbrev pub decreases-loop-i : goal.decreases-loop-i
decreases-loop-i g l = length l.text.bytes.now - l.i
