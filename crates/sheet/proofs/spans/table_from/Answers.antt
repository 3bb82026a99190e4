-- `spans::table_from` meets its contract.
-- Assumes nothing.
use Rattle.sheet.proofs.LastRow.{row_line, comes_of}
use Rattle.sheet.proofs.spans.table_from.Goals as goal

pub body_end-tail-requires : goal.body_end-tail-requires
body_end-tail-requires c = rw c.next-row.ensures (row_line _ _ _ _ _ c.in_ok-opening.ensures)

pub returns : goal.returns
returns c = comes_of _ _ _ _ _ c.in_ok-opening.ensures _ (rw c.next-row.ensures at c.body_end-tail.ensures)
