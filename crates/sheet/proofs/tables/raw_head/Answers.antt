-- `tables::raw_head` meets its contract.
-- Assumes nothing.
use Rattle.std.proofs.Common.{sym, ◌∙◌}
use Rattle.tokenizer.specs.Bytes.{kind_in}
use Rattle.tokenizer.specs.Points.{start_of}
use Rattle.sheet.proofs.Placing.{head_few, head-end, head-made, at-end}
use Rattle.sheet.proofs.Stops.{stop-end}
use Rattle.sheet.proofs.tables.raw_head.Goals as goal

pub raw_next-d-requires : goal.raw_next-d-requires
raw_next-d-requires c =
    let s = c.args.text.now.bytes.now in
    let p = start_of c.args.from in
    rw c.raw_row-h.ensures.0 (at-end s p _ c.requires.0.inside, (λ e. c.requires.1 (sym (stop-end s p) ∙ e)), (head_few (kind_in c.args.text.now.kinds.now) s p c.args.to c.requires.2).2)

pub write_exit-requires : goal.write_exit-requires
write_exit-requires c =
    let t = c.args.text.now in
    rw (c.raw_next-d.ensures.0, c.raw_row-h.ensures.0) (head_few (kind_in t.kinds.now) t.bytes.now (start_of c.args.from) c.args.to c.requires.2).3

pub returns : goal.returns
returns c =
    let a = c.args in
    let k = kind_in a.text.now.kinds.now in
    let s = a.text.now.bytes.now in
    let p = start_of a.from in (
      rw (c.write_exit.ensures.0, c.raw_next-d.ensures.0, c.raw_row-h.ensures.0) (head-end k s p a.to),
      rw (c.write_exit.ensures.1, c.raw_next-d.ensures.0, c.raw_next-d.ensures.1, c.raw_row-h.ensures.0, c.raw_row-h.ensures.1, c.put.ensures, c.enter.ensures, c.point.ensures) (head-made k s p a.to a.slots.now),
    )
