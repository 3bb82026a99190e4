-- `cell_spans::spaces_past` meets its contract.
-- Assumes nothing.
use mathlib.Core.Path.{refl}
use native.Mathlib.Omega.{arith}
use Rattle.tokenizer.specs.Lines.{indent}
use Rattle.tokenizer.specs.Points.{column_past}
use Rattle.tokenizer.proofs.Ahead.{past_last}
use Rattle.edit_map.proofs.cell_spans.spaces_past.Goals as goal

pub returns-then-text-at : goal.returns-then-text-at
unfolding indent column_past
returns-then-text-at c = rw (past_last c.args.text.now.bytes.now c.args.at (omega (arith, c.if-text-at.true))) (omega arith, refl)
