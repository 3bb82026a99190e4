-- `tables::raw_body` meets its contract.
-- Assumes nothing.
use Rattle.std.proofs.Common.{arith, sym, ap, ◌∙◌, List}
use Rattle.tokenizer.specs.declared.event.Event.{Event}
use Rattle.tokenizer.specs.Bytes.{kind_in}
use Rattle.sheet.specs.declared.tables.Written.{Written}
use Rattle.sheet.proofs.Placing.{goes, stops}
use Rattle.sheet.proofs.tables.raw_body.Goals as goal

pub raw_next-x-requires : goal.raw_next-x-requires
raw_next-x-requires c =
    let l = c.loop-x in
    let t = c.args.text.now in
    let turn = goes (kind_in t.kinds.now) t.bytes.now c.args.stop l.x l.invariant.0 c.loop-x-test.true in
    (l.invariant.0.0, turn.ended, turn.few)

pub loop-x-smaller : goal.loop-x-smaller
loop-x-smaller c =
    let l = c.loop-x in
    let t = c.args.text.now in
    let turn = goes (kind_in t.kinds.now) t.bytes.now c.args.stop l.x l.invariant.0 c.loop-x-test.true in
    rw c.raw_next-x.ensures.0 (omega (arith, turn.long, turn.good.0.inside.within))

pub loop-x-preserved : goal.loop-x-preserved
loop-x-preserved c =
    let l = c.loop-x in
    let t = c.args.text.now in
    let turn = goes (kind_in t.kinds.now) t.bytes.now c.args.stop l.x l.invariant.0 c.loop-x-test.true in
    rw (c.raw_next-x.ensures.0, c.raw_next-x.ensures.1) (turn.good, l.invariant.1 ∙ turn.more l.slots)

pub returns : goal.returns
returns c =
    let l = c.loop-x in
    let t = c.args.text.now in
    let m = l.invariant.1 ∙ stops (kind_in t.kinds.now) t.bytes.now c.args.stop l.x l.slots l.invariant.0 c.loop-x-test.false in
    (sym (ap (λ (w : Written × List Event). w.0) m), sym (ap (λ (w : Written × List Event). w.1) m))
