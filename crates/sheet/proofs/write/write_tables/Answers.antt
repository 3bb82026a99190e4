-- `write::write_tables` meets its contract.
-- Assumes nothing.
use Rattle.std.proofs.Common.{arith}
use Rattle.tokenizer.specs.Bytes.{kind_in}
use Rattle.sheet.proofs.From.{start-line}
use Rattle.sheet.proofs.Tabling.{begins, known, k, raw-few, resolved-few, cells_are, aligned-few, tables-few, delimiter-within, goes, fewer, stops}
use Rattle.sheet.proofs.write.write_tables.Goals as goal

pub table_from-next-requires : goal.table_from-next-requires
table_from-next-requires c = rw c.first.ensures (start-line _ c.args.text.now.fits)

pub loop-next-init : goal.loop-next-init
loop-next-init c =
    let a = c.args in
    begins (kind_in a.text.now.kinds.now) a.text.now.bytes.now a.on a.raw.now a.results.now a.alignments.now _ (rw c.first.ensures at c.table_from-next.ensures)

pub raw_table-a-requires : goal.raw_table-a-requires
raw_table-a-requires c =
    let g = known _ _ _ c.loop-next.invariant.facts c.in-Some.is in
    let x = (k _ _ _ c.args.text.now.fits g).span in
    (x.at, x.ended, x.stop, raw-few _ _ _ c.args.text.now.fits g)

pub result_table-b-requires : goal.result_table-b-requires
result_table-b-requires c =
    let g = known _ _ _ c.loop-next.invariant.facts c.in-Some.is in
    let x = (k _ _ _ c.args.text.now.fits g).span in
    (x.at, x.ended, x.stop, resolved-few _ _ _ c.args.text.now.fits g)

pub align_from-requires : goal.align_from-requires
align_from-requires c =
    let g = known _ _ _ c.loop-next.invariant.facts c.in-Some.is in
    (delimiter-within _ _ _ c.args.text.now.fits g, cells_are _ _ _ c.args.text.now.fits g, aligned-few _ _ _ c.args.text.now.fits g)

pub overflow_add-counts : goal.overflow_add-counts
overflow_add-counts c = omega (arith, tables-few _ _ _ c.args.text.now.fits (known _ _ _ c.loop-next.invariant.facts c.in-Some.is))

pub overflow_add-counts-in-Some : goal.overflow_add-counts-in-Some
overflow_add-counts-in-Some c = omega (arith, aligned-few _ _ _ c.args.text.now.fits (known _ _ _ c.loop-next.invariant.facts c.in-Some.is))

pub table_from-next-requires-in-Some : goal.table_from-next-requires-in-Some
table_from-next-requires-in-Some c = (k _ _ _ c.args.text.now.fits (known _ _ _ c.loop-next.invariant.facts c.in-Some.is)).span.next

pub loop-next-smaller : goal.loop-next-smaller
loop-next-smaller c = omega (arith, fewer _ _ _ c.args.text.now.fits (known _ _ _ c.loop-next.invariant.facts c.in-Some.is))

pub loop-next-preserved : goal.loop-next-preserved
loop-next-preserved c =
    let l = c.loop-next in
    let g = known _ _ _ l.invariant.facts c.in-Some.is in
    rw (c.raw_table-a.ensures.0, c.raw_table-a.ensures.1, c.result_table-b.ensures.0, c.result_table-b.ensures.1, c.align_from.ensures)
    (goes _ _ _ c.args.text.now.fits g c.args.raw.now c.args.results.now l.raw l.results c.args.alignments.now l.alignments _ l.invariant.told c.table_from-next-in-Some.ensures)

pub returns : goal.returns
returns c =
    let l = c.loop-next in
    stops _ _ _ c.args.raw.now c.args.results.now l.raw l.results c.args.alignments.now l.alignments l.counts l.invariant.left (known _ _ _ l.invariant.facts c.in_default.is) l.invariant.told
