-- `row_end` meets its contract: a paused state continues to the same end. The measure: each turn passes 64 pieces, of a byte at least.
-- Assumes nothing.
use mathlib.Core.Path.{◌∙◌}
use native.Mathlib.Omega.{arith}
use Rattle.gfm_table.proofs.Machine.{paused_whole, paused_count, ended-whole}
use Rattle.gfm_table.proofs.states.row_end.Goals as goal

pub loop-t-smaller : goal.loop-t-smaller
loop-t-smaller c =
    let h = rw c.in-Continue.is at c.row_break.ensures in
    let g = h.good in
    omega (arith, paused_count c.args.text.now.passes.reads _ _ _ 64 h, g.few, g.inside.within)

pub loop-t-preserved : goal.loop-t-preserved
loop-t-preserved c = let h = rw c.in-Continue.is at c.row_break.ensures in (h.good, paused_whole c.args.text.now.passes.reads _ _ _ 64 h ∙ c.loop-t.invariant.1)

pub returns-in-Break : goal.returns-in-Break
returns-in-Break c = ended-whole c.args.text.now.passes.reads _ _ _ 64 (rw c.in-Break.is at c.row_break.ensures) ∙ c.loop-t.invariant.1
