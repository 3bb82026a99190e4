-- `cell_spans::span` meets its contract.
-- Assumes nothing.
use native.Mathlib.Omega.{arith}
use Rattle.tokenizer.specs.Lines.{unindented}
use Rattle.tokenizer.proofs.Ahead.{past_last}
use Rattle.edit_map.proofs.Spans.{goes_none, goes_ends}
use Rattle.edit_map.proofs.cell_spans.span.Goals as goal

pub returns-then-text-from : goal.returns-then-text-from
unfolding unindented
returns-then-text-from c =
    let t = c.args.text.now in
    goes_ends t.passes.reads (goes_none t.passes.reads t.bytes.now c.args.from c.args.column) (rw (past_last t.bytes.now c.args.from (omega (arith, c.if-text-from.true))))
