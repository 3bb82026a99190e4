-- What is counted and what is to come make the same sum. The measure is the bytes left.
use Prim.Native.Nat.{◌+◌, ◌-◌}
use mathlib.Core.Path.{◌≡◌}
use lib.ListN.{length}
use Rattle.tokenizer.specs.Bytes.{kind_in}
use Rattle.gfm_table.proofs.Marks.{marks_left}
use Rattle.gfm_table.proofs.pieces.marks_from.Given as goal

abbrev pub invariant-loop-i : goal.invariant-loop-i
invariant-loop-i l =
    let left = marks_left (kind_in l.text.kinds.now) l.text.bytes.now in
    l.n + left l.i ≡ l.initial.n + left l.initial.i

abbrev pub decreases-loop-i : goal.decreases-loop-i
decreases-loop-i l = length l.text.bytes.now - l.i
