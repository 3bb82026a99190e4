-- `cell_spans::span_from` meets its contract.
-- Assumes nothing.
use native.Mathlib.Omega.{arith}
use Rattle.edit_map.proofs.Spans.{goes_next, goes_none, goes_ends, text-stops, last_kind}
use Rattle.edit_map.proofs.cell_spans.span_from.Goals as goal

pub loop-x-init : goal.loop-x-init
loop-x-init c = (goes_none c.args.text.now.passes.reads _ _ _, c.requires.1, c.requires.0)

pub spaces_past-t-requires : goal.spaces_past-t-requires
spaces_past-t-requires c = (c.loop-x.invariant.2, c.loop-x.invariant.1)

pub returns-in-End : goal.returns-in-End
returns-in-End c =
    let l = c.loop-x in
    let t = c.args.text.now in
    let k = last_kind _ c.in-End.is in
    goes_ends t.passes.reads l.invariant.0 (text-stops t.passes.reads _ l.x.at c.spaces_past-t.result.at c.spaces_past-t.ensures.0 _ c.kind_at.ensures k.0 k.1)

pub overflow_cast-at : goal.overflow_cast-at
overflow_cast-at c =
    let l = c.loop-x in
    let t = c.args.text.now in
    let h = goes_next t.passes.reads t.bytes.now c.args.from l.x c.spaces_past-t.result c.kind_at.result _ t.fits l.invariant c.spaces_past-t.ensures c.kind_at.ensures c.in_default.not-End c.in_default.not-Pipe c.text_end-at.ensures in
    record { fits = omega (arith, h.short, t.fits) }

pub overflow_add-x : goal.overflow_add-x
overflow_add-x c =
    let l = c.loop-x in
    let t = c.args.text.now in
    let h = goes_next t.passes.reads t.bytes.now c.args.from l.x c.spaces_past-t.result c.kind_at.result _ t.fits l.invariant c.spaces_past-t.ensures c.kind_at.ensures c.in_default.not-End c.in_default.not-Pipe c.text_end-at.ensures in
    record { fits = omega (arith, h.narrow, h.short, t.fits) }

pub loop-x-smaller : goal.loop-x-smaller
loop-x-smaller c =
    let l = c.loop-x in
    let t = c.args.text.now in
    let h = goes_next t.passes.reads t.bytes.now c.args.from l.x c.spaces_past-t.result c.kind_at.result _ t.fits l.invariant c.spaces_past-t.ensures c.kind_at.ensures c.in_default.not-End c.in_default.not-Pipe c.text_end-at.ensures in
    omega (arith, h.onward, h.short, c.spaces_past-t.ensures.0)

pub loop-x-preserved : goal.loop-x-preserved
loop-x-preserved c =
    let l = c.loop-x in
    let t = c.args.text.now in
    let h = goes_next t.passes.reads t.bytes.now c.args.from l.x c.spaces_past-t.result c.kind_at.result _ t.fits l.invariant c.spaces_past-t.ensures c.kind_at.ensures c.in_default.not-End c.in_default.not-Pipe c.text_end-at.ensures in
    (h.goes, h.narrow, h.short)
