-- What is counted and what is to come make the same sums. The measure is the bytes left.
use Prim.Native.Nat.{◌+◌, ◌-◌}
use mathlib.Core.Path.{◌≡◌}
use lib.ListN.{length}
use Rattle.tokenizer.specs.Bytes.{kind_in}
use Rattle.gfm_table.proofs.Count.{begun}
use Rattle.gfm_table.proofs.HeadRows.{solid_from}
use Rattle.gfm_table.proofs.pieces.head_row.Given as goal

abbrev pub invariant-loop-i : goal.invariant-loop-i
invariant-loop-i l =
    let left = solid_from (kind_in l.text.kinds.now) l.text.bytes.now in
    (l.size + begun l.seen (left l.i) ≡ l.initial.size + begun l.initial.seen (left l.initial.i))
    × (l.size_b + length (left l.i) ≡ l.initial.size_b + length (left l.initial.i))

abbrev pub decreases-loop-i : goal.decreases-loop-i
decreases-loop-i l = length l.text.bytes.now - l.i
