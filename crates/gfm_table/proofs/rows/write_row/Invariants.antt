-- After each piece the rest of the row makes of the slots what all of it made of them.
use Rattle.std.proofs.Common.{◌≡◌, ◌≤◌, ◌+◌, ◌*◌, ◌-◌, length}
use Rattle.tokenizer.specs.Bytes.{kind_in}
use Rattle.tokenizer.specs.Points.{start_of}
use Rattle.tokenizer.specs.Moves.{Inside}
use Rattle.gfm_table.specs.Places.{point_in, row_end, row_wrote}
use Rattle.gfm_table.proofs.rows.write_row.Given as goal

abbrev pub invariant-loop-piece : goal.invariant-loop-piece
invariant-loop-piece g l =
    let kind = kind_in l.text.kinds.now in
    let s = l.text.bytes.now in
    let t = g.R.RowKind.part in
    Inside s (point_in l.from.line l.x.at l.x.column)
    × (l.x.slot ≤ 4294967296 + 2 * l.x.at)
    × (row_end kind s t (point_in l.from.line l.x.at l.x.column) l.x.slot ≡ row_end kind s t (start_of l.fn.from) l.to)
    × (row_wrote kind s t (point_in l.from.line l.x.at l.x.column) l.x.slot l.slots ≡ row_wrote kind s t (start_of l.fn.from) l.to l.initial.slots)

abbrev pub decreases-loop-piece : goal.decreases-loop-piece
decreases-loop-piece g l = length l.text.bytes.now - l.x.at
