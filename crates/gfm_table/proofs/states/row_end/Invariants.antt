-- A paused state continues to the same end. The measure: each turn passes 64 pieces, of a byte at least.
use Prim.Native.Nat.{◌-◌}
use mathlib.Core.Path.{◌≡◌}
use lib.ListN.{length}
use Rattle.tokenizer.specs.Bytes.{kind_in}
use Rattle.gfm_table.specs.Machine.{Counted, whole}
use Rattle.gfm_table.proofs.states.row_end.Given as goal

abbrev pub invariant-loop-t : goal.invariant-loop-t
invariant-loop-t l = Counted l.text.bytes.now l.q × (whole (kind_in l.text.kinds.now) l.text.bytes.now l.q ≡ whole (kind_in l.text.kinds.now) l.text.bytes.now l.initial.q)

abbrev pub decreases-loop-t : goal.decreases-loop-t
decreases-loop-t l = length l.text.bytes.now - l.q.count
