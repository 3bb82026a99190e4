-- `event::column_after` meets its contract: a tab runs to the next stop, any other byte is one column.
-- Assumes nothing.
use borrow.Author.Tests.{eq-eqb, ne_eqb}
use Rattle.tokenizer.specs.Points.{column_after}
use Rattle.tokenizer.proofs.event.column_after.Goals as goal

pub returns-then-b-eq9 : goal.returns-then-b-eq9
unfolding column_after
returns-then-b-eq9 c = rw (eq-eqb _ _ c.if-b-eq9.true)

pub returns : goal.returns
unfolding column_after
returns c = rw (ne_eqb _ _ c.if-b-eq9.false)
