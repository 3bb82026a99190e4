-- `Text::space_stop` meets its contract: the indent is the run of kind 1.
-- Assumes nothing.
use Prim.Native.Nat.{◌+◌}
use mathlib.Core.Path.{ap, sym, ◌∙◌}
use mathlib.Core.List.{List}
use Prim.Native.Nat.{ℕ}
use lib.ListN.{length, drop}
use Rattle.tokenizer.specs.Bytes.{kind_in}
use Rattle.tokenizer.specs.Lines.{line_body}
use Rattle.tokenizer.proofs.Runs.{indent_run}
use Rattle.tokenizer.proofs.text.Text.space_stop.Goals as goal

pub returns : goal.returns
returns g c =
    let t = c.args.self.now in
    c.run_stop.ensures ∙ ap (λ (l : List ℕ). c.args.at + length l) (sym (indent_run (kind_in t.kinds.now) (line_body (drop c.args.at t.bytes.now))))
