-- `tables::raw_next` meets its contract.
-- Assumes nothing.
use Rattle.std.proofs.Common.{ap}
use Rattle.tokenizer.specs.Bytes.{kind_in}
use Rattle.tokenizer.specs.Places.{end_of}
use Rattle.tokenizer.specs.Moves.{after}
use Rattle.tokenizer.proofs.Ends.{after-inside}
use Rattle.sheet.specs.From.{here}
use Rattle.sheet.specs.Placing.{point_at, written_at}
use Rattle.sheet.proofs.Placing.{next-few, next_slot, next-made}
use Rattle.sheet.proofs.tables.raw_next.Goals as goal

pub raw_row-requires : goal.raw_row-requires
raw_row-requires g c =
    let a = c.args in
    let t = a.text.now in
    rw (c.start.ensures, c.write_break-b.ensures.0) (after-inside t.bytes.now (point_at a.w) c.requires.1 c.requires.0.inside, (next-few (kind_in t.kinds.now) t.bytes.now g.R.RowKind.part a.w c.requires.2).1)

pub returns : goal.returns
returns g c =
    let a = c.args in
    let k = kind_in a.text.now.kinds.now in
    let s = a.text.now.bytes.now in
    let t = g.R.RowKind.part in (
      rw (c.raw_row.ensures.0, c.start.ensures, c.write_break-b.ensures.0) (ap (written_at (end_of (here s (after s (point_at a.w))))) (next_slot k s t a.w)),
      rw (c.raw_row.ensures.1, c.start.ensures, c.write_break-b.ensures.0, c.write_break-b.ensures.1) (next-made k s t a.w a.slots.now),
    )
