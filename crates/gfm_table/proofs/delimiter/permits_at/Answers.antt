-- `permits_at` meets its contract: whitespace ends within 3 units where its bytes lead to the column 4 at most.
-- Assumes nothing.
use mathlib.Core.Path.{refl, ap, ◌∙◌}
use lib.ListN.{drop}
use Rattle.tokenizer.specs.declared.kinds.Kind.TheVariants.{Space}
use Rattle.tokenizer.specs.Bytes.{kind_in}
use Rattle.tokenizer.specs.Points.{column_past}
use Rattle.tokenizer.specs.Lines.{line_body}
use Rattle.tokenizer.specs.Spaces.{space_ends}
use Rattle.tokenizer.proofs.Ahead.{run_stops}
use Rattle.tokenizer.proofs.Runs.{indent_run}
use Rattle.tokenizer.proofs.SameKinds.{other_number}
use Rattle.tokenizer.proofs.Widths.{ends-within}
use Rattle.gfm_table.specs.Places.{point_in}
use Rattle.gfm_table.proofs.delimiter.permits_at.Goals as goal
use Rattle.gfm_table.proofs.delimiter.permits_at.Goals.{else-on-via-then-on+else-eq, else-on-via-else-on}

pub returns-then-eq : goal.returns-then-eq
returns-then-eq c =
    let t = c.args.text.now in
    rw c.if-on.true (c.space_ends.ensures ∙ ap (space_ends t.bytes.now 3) c.point.ensures ∙ ends-within t.passes.reads t.bytes.now 3 (point_in 1 c.args.at 1) refl)

pub returns : goal.returns
unfolding column_past
returns c =
    let t = c.args.text.now in
    elim c.else-on.branch [
      | else-on-via-then-on+else-eq w ↦
          let e = indent_run (kind_in t.kinds.now) (line_body (drop c.args.at t.bytes.now)) ∙ run_stops t.passes.reads 1 (drop c.args.at t.bytes.now) (λ x. other_number _ Space w.eq.ensures w.if-eq.false (w.kind_at.ensures ∙ x)) in
          rw (w.if-on.true, e)
      | else-on-via-else-on w ↦ rw w.if-on.false
    ]
