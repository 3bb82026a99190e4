-- `results::result_row` meets its contract.
-- Assumes nothing.
use Rattle.std.proofs.Common.{ap, ◌∙◌}
use Rattle.tokenizer.specs.Bytes.{kind_in}
use Rattle.tokenizer.specs.Points.{start_of}
use Rattle.gfm_table.specs.Stream.{name_of}
use Rattle.sheet.proofs.ResultRows.{row_said}
use Rattle.sheet.proofs.results.result_row.Goals as goal

pub returns : goal.returns
returns g c =
    let a = c.args in
    let t = a.text.now in
    let said = row_said (kind_in t.kinds.now) t.bytes.now g.R.RowKind.part (start_of a.from) a.to a.slots.now in
    let n = c.row_name-name.ensures ∙ ap name_of c.part.ensures in (
      rw (c.write_exit.ensures.0, c.of.ensures, c.write_cells-r.ensures.0) said.0,
      rw (c.write_exit.ensures.1, c.of.ensures, c.write_cells-r.ensures.0, c.write_cells-r.ensures.1, c.put.ensures, c.enter.ensures, c.point.ensures, n) said.1,
    )
