-- After each value the number and what is left make the same. The measure is the bytes left.
use Prim.Native.Nat.{◌-◌, ◌≤◌}
use mathlib.Core.Path.{◌≡◌}
use lib.ListN.{length}
use Rattle.tokenizer.specs.Bytes.{kind_in}
use Rattle.gfm_table.specs.Delimiters.{rest_count}
use Rattle.gfm_table.proofs.Passing.{line_from}
use Rattle.gfm_table.proofs.values.values_from.Given as goal

abbrev pub invariant-loop-e : goal.invariant-loop-e
invariant-loop-e l =
    let s = l.text.bytes.now in
    (l.i ≤ length s) × (l.n ≤ l.i) × (rest_count (kind_in l.text.kinds.now) l.n (line_from s l.i) ≡ rest_count (kind_in l.text.kinds.now) l.initial.n (line_from s l.initial.i))

abbrev pub decreases-loop-e : goal.decreases-loop-e
decreases-loop-e l = length l.text.bytes.now - l.i
