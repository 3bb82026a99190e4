-- `results::rows_behind` meets its contract.
-- Assumes nothing.
use Rattle.std.proofs.Common.{arith, sym, ap, ◌∙◌, List}
use Rattle.tokenizer.specs.declared.event.Event.{Event}
use Rattle.tokenizer.specs.Bytes.{kind_in}
use Rattle.sheet.specs.declared.tables.Written.{Written}
use Rattle.sheet.proofs.ResultBodies.{goes, stops}
use Rattle.sheet.proofs.results.rows_behind.Goals as goal

pub result_row-x-requires : goal.result_row-x-requires
result_row-x-requires c =
    let l = c.loop-x in
    let t = c.args.text.now in
    let turn = goes (kind_in t.kinds.now) t.bytes.now c.args.stop l.x l.invariant.0 c.loop-x-test.true in
    rw (c.start.ensures, c.write_break-b.ensures.0) turn.row

pub loop-x-smaller : goal.loop-x-smaller
loop-x-smaller c =
    let l = c.loop-x in
    let t = c.args.text.now in
    let turn = goes (kind_in t.kinds.now) t.bytes.now c.args.stop l.x l.invariant.0 c.loop-x-test.true in
    rw (c.result_row-x.ensures.0, c.start.ensures, c.write_break-b.ensures.0) (omega (arith, turn.long))

pub loop-x-preserved : goal.loop-x-preserved
loop-x-preserved c =
    let l = c.loop-x in
    let t = c.args.text.now in
    let turn = goes (kind_in t.kinds.now) t.bytes.now c.args.stop l.x l.invariant.0 c.loop-x-test.true in
    rw (c.result_row-x.ensures.0, c.result_row-x.ensures.1, c.start.ensures, c.write_break-b.ensures.0, c.write_break-b.ensures.1) (turn.good, l.invariant.1 ∙ turn.more l.slots)

pub returns : goal.returns
returns c =
    let l = c.loop-x in
    let t = c.args.text.now in
    let e = l.invariant.1 ∙ stops (kind_in t.kinds.now) t.bytes.now c.args.stop l.x l.slots l.invariant.0 c.loop-x-test.false in
    (sym (ap (λ (z : Written × List Event). z.0) e), sym (ap (λ (z : Written × List Event). z.1) e))
