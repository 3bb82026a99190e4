-- `row` meets its contract: by what the whole of a row counts.
-- Assumes nothing.
use Rattle.gfm_table.proofs.Count.{row-whole}
use Rattle.gfm_table.proofs.states.row.Goals as goal

pub returns : goal.returns
returns c = rw (c.row_end.ensures, c.row_start.ensures) (row-whole c.args.text.now.passes.reads c.args.text.now.bytes.now c.args.p c.requires.flat)
