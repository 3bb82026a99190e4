-- `spans::body_end` meets its contract: where the rows end from each line passed, they end from the first. The measure is the bytes left.
-- Assumes nothing.
use Rattle.std.proofs.Common.{arith, refl, sym, ◌∙◌}
use Rattle.sheet.proofs.From.{read-stop, read_none, read_some}
use Rattle.sheet.proofs.LastRow.{ends-last, ends-closed, ends_row}
use Rattle.sheet.proofs.spans.body_end.Goals as goal

pub overflow_cast-stop : goal.overflow_cast-stop
overflow_cast-stop c =
    let l = c.loop-n in
    omega (arith, read-stop _ l.row.line _ _ _ c.line_stop-e.ensures refl l.invariant.0, l.invariant.0.inside.short)

pub returns-in_default : goal.returns-in_default
returns-in_default c =
    let l = c.loop-n in
    let z = read_none _ l.row.line _ _ _ c.line_stop-e.ensures c.line_end.ensures c.in_default.is in
    l.invariant.1 _ (rw c.line_stop-e.ensures (ends-last _ _ l.row l.invariant.0 z))

pub returns-then-closes_at : goal.returns-then-closes_at
returns-then-closes_at c =
    let l = c.loop-n in
    let d = read_some _ l.row.line _ _ _ c.line_stop-e.ensures c.line_end.ensures _ l.invariant.0 c.in-Some.is in
    rw c.next-next.ensures (l.invariant.1 _ (ends-closed _ _ _ _ d _ c.line_stop-e.ensures (sym (rw c.next-next.ensures at c.closes_at.ensures) ∙ c.if-closes_at.true)))

pub loop-n-preserved : goal.loop-n-preserved
loop-n-preserved c =
    let l = c.loop-n in
    let d = read_some _ l.row.line _ _ _ c.line_stop-e.ensures c.line_end.ensures _ l.invariant.0 c.in-Some.is in
    rw c.next-next.ensures (d.at, λ r h. l.invariant.1 r (ends_row _ _ _ _ d (sym (rw c.next-next.ensures at c.closes_at.ensures) ∙ c.if-closes_at.false) r h))
