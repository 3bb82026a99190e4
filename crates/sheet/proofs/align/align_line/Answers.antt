-- `align::align_line` meets its contract.
-- Assumes nothing.
use Rattle.gfm_table.proofs.ValuePlaces.{start-within}
use Rattle.sheet.proofs.Aligning.{aligns_start}
use Rattle.sheet.proofs.align.align_line.Goals as goal

pub align_rest-requires : goal.align_rest-requires
align_rest-requires c =
    let a = c.args in
    let t = a.text.now in
    rw (c.values_start.ensures, aligns_start t.passes.reads t.bytes.now a.at) (start-within t.passes.reads t.bytes.now a.at c.requires.0, c.requires.1)

pub returns : goal.returns
returns c =
    let a = c.args in
    let t = a.text.now in
    rw (c.align_rest.ensures, c.values_start.ensures, aligns_start t.passes.reads t.bytes.now a.at)
