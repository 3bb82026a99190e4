-- `Point::over` meets its contract: the column is the one after the byte.
-- Assumes nothing.
use Rattle.tokenizer.specs.Points.{column_past}
use Rattle.tokenizer.proofs.event.Point.over.Goals as goal

pub returns : goal.returns
unfolding column_past
returns c = rw c.column_after.ensures
