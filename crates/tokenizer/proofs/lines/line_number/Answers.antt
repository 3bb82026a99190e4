-- `lines::line_number` meets its contract: at each byte the number is that of its line.
-- Assumes nothing.
use mathlib.Core.Path.{◌≡◌, refl, ap, sym, ◌∙◌}
use native.Mathlib.Omega.{arith}
use Rattle.tokenizer.specs.Lines.{ends_within, line_number}
use Rattle.tokenizer.proofs.Starts.{ends_more, ends_same, ends-few}
use Rattle.tokenizer.proofs.lines.line_number.Goals as goal
use Rattle.tokenizer.proofs.lines.line_number.Goals.{then-ends_line, else-ends_line}

pub loop-i-init : goal.loop-i-init
unfolding ends_within
loop-i-init c = (omega arith, refl)

pub overflow_add-n : goal.overflow_add-n
overflow_add-n c = omega (arith, ends-few c.loop-i.i c.args.s.now)

pub loop-i-preserved : goal.loop-i-preserved
loop-i-preserved c =
    let l = c.loop-i in
    let s = c.args.s.now in
    let e = c.ends_line.ensures in
    elim c.if-ends_line.branch [
      | then-ends_line w ↦ (omega arith, omega (arith, ends_more s l.i (omega arith) (sym e ∙ w.if-ends_line.true)))
      | else-ends_line w ↦ (omega arith, omega (arith, ends_same s l.i (omega arith) (sym e ∙ w.if-ends_line.false)))
    ]

pub returns : goal.returns
returns c =
    let l = c.loop-i in
    let e : l.i ≡ c.args.at = omega arith in
    l.invariant.1 ∙ ap (line_number c.args.s.now) e
