-- `Sheet::space_end` meets its contract: the indent is the run of kind 1.
-- Assumes nothing.
use mathlib.Core.Path.{ap, sym, ◌∙◌}
use Rattle.tokenizer.specs.Bytes.{kind_in}
use Rattle.tokenizer.specs.Points.{past}
use Rattle.tokenizer.specs.Moves.{rest_of}
use Rattle.tokenizer.proofs.Runs.{indent_run}
use Rattle.tokenizer.proofs.moves.Sheet.space_end.Goals as goal

pub returns : goal.returns
returns c =
    let t = c.args.self.now in
    c.run_end.ensures ∙ ap (past c.args.p) (sym (indent_run (kind_in t.kinds.now) (rest_of t.bytes.now c.args.p)))
