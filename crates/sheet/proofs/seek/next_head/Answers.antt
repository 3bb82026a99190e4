-- `seek::next_head` meets its contract: from each line tried the same tables come. The measure is the bytes left.
-- Assumes nothing.
use mathlib.Core.Path.{ap, sym, ◌∙◌}
use Rattle.tokenizer.specs.Bytes.{kind_in}
use Rattle.tokenizer.specs.declared.event.Point.{Point}
use Rattle.tokenizer.specs.Places.{lines_from}
use Rattle.tokenizer.specs.Points.{start_of}
use Rattle.gfm_table.specs.Delimiters.{positive}
use Rattle.sheet.specs.Walk.{heads}
use Rattle.sheet.specs.From.{columns_of}
use Rattle.sheet.proofs.From.{read_none, read_some, heads-last, heads-prose, columns-none, opened-here, not_given}
use Rattle.sheet.proofs.seek.next_head.Goals as goal

pub returns-in_err-d : goal.returns-in_err-d
returns-in_err-d c =
    let l = c.loop-d in
    let a = c.args in
    let ending = read_none _ l.head.line _ _ _ c.line_stop-e.ensures c.line_end.ensures c.in_err-d.was in
    rw c.from_residual.ensures (sym l.invariant.1 ∙ heads-last _ a.text.now.bytes.now (start_of l.head) a.on ending)

pub columns_at-requires : goal.columns_at-requires
columns_at-requires c =
    let l = c.loop-d in
    let h = (read_some _ l.head.line _ _ _ c.line_stop-e.ensures c.line_end.ensures _ l.invariant.0 c.in_ok-d.was).at.inside in
    (l.invariant.0.inside.within, h.within)

pub returns-in-Some : goal.returns-in-Some
returns-in-Some c =
    let l = c.loop-d in
    let d = read_some _ l.head.line _ _ _ c.line_stop-e.ensures c.line_end.ensures _ l.invariant.0 c.in_ok-d.was in
    opened-here _ _ _ _ l.head _ _ l.invariant.0 d.ended l.invariant.1 (ap (λ (p : Point). p.index) d.next) c.in-Some.ensures

pub loop-d-preserved : goal.loop-d-preserved
loop-d-preserved c =
    let l = c.loop-d in
    let a = c.args in
    let k = kind_in a.text.now.kinds.now in
    let s = a.text.now.bytes.now in
    let q = start_of l.head in
    let d = read_some _ l.head.line _ _ _ c.line_stop-e.ensures c.line_end.ensures _ l.invariant.0 c.in_ok-d.was in
    let y = not_given _ (sym c.in_default.is ∙ c.columns_at.ensures ∙ ap (λ (p : Point). positive (columns_of k s a.on l.head.at p.index)) d.next) in
    rw c.next-head.ensures (d.at, ap (λ (p : Point). heads k a.on (lines_from s p)) d.next ∙ sym (heads-prose _ s q a.on d.ended (columns-none _ s a.on q y)) ∙ l.invariant.1)
