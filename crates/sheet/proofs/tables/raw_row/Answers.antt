-- `tables::raw_row` meets its contract.
-- Assumes nothing.
use Rattle.std.proofs.Common.{ap, ◌∙◌}
use Rattle.tokenizer.specs.Bytes.{kind_in}
use Rattle.tokenizer.specs.Points.{start_of}
use Rattle.tokenizer.specs.Places.{end_of}
use Rattle.gfm_table.specs.Stream.{name_of}
use Rattle.sheet.specs.From.{here}
use Rattle.sheet.specs.Placing.{written_at}
use Rattle.sheet.proofs.Placing.{row-few, row_slot_lem, row_made}
use Rattle.sheet.proofs.tables.raw_row.Goals as goal

pub write_exit-requires : goal.write_exit-requires
write_exit-requires g c =
    let t = c.args.text.now in
    rw (c.of.ensures, c.write_row-r.ensures.0) (row-few (kind_in t.kinds.now) t.bytes.now g.R.RowKind.part (start_of c.args.from) c.args.to c.requires.1).2

pub returns : goal.returns
returns g c =
    let a = c.args in
    let t = a.text.now in
    let k = kind_in t.kinds.now in
    let p = start_of a.from in
    let n = c.row_name-name.ensures ∙ ap name_of c.part.ensures in (
      rw (c.write_exit.ensures.0, c.of.ensures, c.write_row-r.ensures.0) (ap (written_at (end_of (here t.bytes.now p))) (row_slot_lem k t.bytes.now g.R.RowKind.part p a.to)),
      rw (c.write_exit.ensures.1, c.of.ensures, c.write_row-r.ensures.0, c.write_row-r.ensures.1, c.put.ensures, c.enter.ensures, c.point.ensures, n) (row_made k t.bytes.now g.R.RowKind.part p a.to a.slots.now),
    )
