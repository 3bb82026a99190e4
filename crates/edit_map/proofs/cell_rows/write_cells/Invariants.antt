-- What the rest of the row makes of the slots, from where it is read, is what the whole row makes of them as they came.
use Rattle.std.proofs.Common.{◌≡◌, ◌-◌, length}
use Rattle.tokenizer.specs.Bytes.{kind_in}
use Rattle.tokenizer.specs.Points.{start_of}
use Rattle.edit_map.specs.CellRows.{cells_end, cells_wrote}
use Rattle.edit_map.proofs.CellRows.{makes, Good}
use Rattle.edit_map.proofs.cell_rows.write_cells.Given as goal

abbrev pub invariant-loop-x : goal.invariant-loop-x
invariant-loop-x g l =
    let t = l.text in
    let kind = kind_in t.kinds.now in
    let part = g.R.RowKind.part in
    Good t.passes.reads t.bytes.now part l.from.line l.w
    × ((cells_end kind t.bytes.now part (start_of l.fn.from) l.to, cells_wrote kind t.bytes.now part (start_of l.fn.from) l.to l.fn.slots) ≡ makes t.passes.reads t.bytes.now part l.from.line l.w l.slots)

abbrev pub decreases-loop-x : goal.decreases-loop-x
decreases-loop-x g l = length l.text.bytes.now - l.w.at
