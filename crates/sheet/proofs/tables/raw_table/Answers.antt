-- `tables::raw_table` meets its contract.
-- Assumes nothing.
use Rattle.std.proofs.Common.{sym, ◌∙◌}
use Rattle.tokenizer.specs.Bytes.{kind_in}
use Rattle.tokenizer.specs.Points.{start_of}
use Rattle.tokenizer.specs.Moves.{after}
use Rattle.tokenizer.proofs.Ends.{after-inside}
use Rattle.sheet.proofs.Placing.{at-end, table-end, table-made, table-few, table-stop}
use Rattle.sheet.proofs.tables.raw_table.Goals as goal

pub raw_body-requires : goal.raw_body-requires
raw_body-requires c =
    let a = c.args in
    let k = kind_in a.text.now.kinds.now in
    let s = a.text.now.bytes.now in
    let p = start_of a.from in
    rw c.raw_head-h.ensures.0 (at-end s (after s p) _ (after-inside s p c.requires.1 c.requires.0.inside), c.requires.2 ∙ sym (table-stop k s p a.to), (table-few k s p a.to c.requires.3).1)

pub returns : goal.returns
returns c =
    let a = c.args in
    let k = kind_in a.text.now.kinds.now in
    let s = a.text.now.bytes.now in
    let p = start_of a.from in (
      rw (c.raw_body.ensures.0, c.raw_head-h.ensures.0) (table-end k s p a.to),
      rw (c.raw_body.ensures.1, c.raw_head-h.ensures.0, c.raw_head-h.ensures.1) (table-made k s p a.to a.slots.now),
    )
