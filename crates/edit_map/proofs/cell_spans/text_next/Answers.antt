-- `cell_spans::text_next` meets its contract.
-- Assumes nothing.
use mathlib.Core.Path.{sym}
use Rattle.tokenizer.specs.declared.kinds.Kind.TheVariants.{End, Pipe}
use Rattle.gfm_table.proofs.KindsAhead.{apart_kinds}
use Rattle.edit_map.proofs.Spans.{last_kind, text-stops, text_comes}
use Rattle.edit_map.proofs.cell_spans.text_next.Goals as goal

pub returns-in-End : goal.returns-in-End
returns-in-End g c =
    let t = c.args.text.now in
    let k = last_kind _ c.in-End.is in
    sym (text-stops t.passes.reads t.bytes.now c.args.end c.space_stop.result c.space_stop.ensures _ c.kind_at.ensures k.0 k.1)

pub returns-in_default : goal.returns-in_default
returns-in_default g c =
    let t = c.args.text.now in
    let k = c.kind_at.result in
    sym (text_comes t.passes.reads t.bytes.now c.args.end c.space_stop.result c.space_stop.ensures _ c.kind_at.ensures (apart_kinds k End c.in_default.not-End) (apart_kinds k Pipe c.in_default.not-Pipe))
