-- `head_delimiter_cell_after` meets its contract: the value's stretch is closed where whitespace leads to its end.
-- Assumes nothing.
use Prim.Native.Nat.{ℕ}
use mathlib.Core.Path.{◌≡◌, sym, ◌∙◌}
use mathlib.Core.Bool.{Bool, true, false}
use mathlib.Core.List.{List}
use Rattle.std.specs.Bool.{then_some}
use Rattle.tokenizer.specs.declared.event.Point.{Point}
use Rattle.tokenizer.specs.Bytes.{Reads}
use Rattle.tokenizer.specs.Points.{past}
use Rattle.tokenizer.specs.Lines.{is_empty, indent}
use Rattle.tokenizer.specs.Moves.{rest_of, Inside}
use Rattle.gfm_table.specs.Delimiters.{stretch, blank_at}
use Rattle.gfm_table.specs.declared.delimiter.Cell.TheVariants.{Value}
use Rattle.gfm_table.proofs.Delimiters.{blank_value, blank_bad}
use Rattle.gfm_table.proofs.delimiter.head_delimiter_cell_after.Goals as goal

closed : {kind : ℕ → ℕ} → Reads kind → (s : List ℕ) (p : Point) → Inside s p → (b : Bool) → b ≡ is_empty (stretch kind (rest_of s (past p (indent kind (rest_of s p)))))
    → then_some b (Value (past p (indent kind (rest_of s p)))) ≡ blank_at kind p (rest_of s p)
closed ok s p h true e = blank_value ok s p h (sym e)
closed ok s p h false e = blank_bad ok s p (sym e)

pub returns : goal.returns
returns c =
    let t = c.args.text.now in
    let e = c.space_end-e.ensures in
    c.then_some.ensures ∙ rw e (closed t.passes.reads t.bytes.now c.args.p c.requires c.stretch_ends.result (rw e at c.stretch_ends.ensures))
