-- After each value the count and what is left make the same answer. The measure is the bytes left.
use Prim.Native.Nat.{◌-◌, ◌≤◌}
use mathlib.Core.Path.{◌≡◌}
use lib.ListN.{length}
use Rattle.tokenizer.specs.Bytes.{kind_in}
use Rattle.tokenizer.specs.Moves.{Inside, rest_of}
use Rattle.gfm_table.specs.Delimiters.{rest_at}
use Rattle.gfm_table.proofs.delimiter.head_delimiter_cells.Given as goal

abbrev pub invariant-loop-e : goal.invariant-loop-e
invariant-loop-e l =
    let s = l.text.bytes.now in
    let left = rest_at (kind_in l.text.kinds.now) in
    Inside s l.q × (l.m ≤ l.q.index) × (left l.m l.q (rest_of s l.q) ≡ left l.initial.m l.initial.q (rest_of s l.initial.q))

abbrev pub decreases-loop-e : goal.decreases-loop-e
decreases-loop-e l = length l.text.bytes.now - l.q.index
