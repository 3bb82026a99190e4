-- `results::result_head` meets its contract.
-- Assumes nothing.
use Rattle.std.proofs.Common.{arith}
use Rattle.tokenizer.specs.Bytes.{kind_in}
use Rattle.tokenizer.specs.Points.{start_of}
use Rattle.sheet.proofs.ResultRows.{head_small, head_break, head-marks, head_said}
use Rattle.sheet.proofs.results.result_head.Goals as goal

pub write_break-b-requires : goal.write_break-b-requires
write_break-b-requires c =
    let t = c.args.text.now in
    rw c.result_row-h.ensures.0 (head_break (kind_in t.kinds.now) t.bytes.now (start_of c.args.from) c.args.to c.requires.0 c.requires.1 c.requires.2)

pub result_row-d-requires : goal.result_row-d-requires
result_row-d-requires c =
    let t = c.args.text.now in
    let h = head-marks (kind_in t.kinds.now) t.bytes.now (start_of c.args.from) c.args.to c.requires.0 c.requires.1 c.requires.2 in
    rw (c.start.ensures, c.write_break-b.ensures.0, c.result_row-h.ensures.0) h

pub write_exit-requires : goal.write_exit-requires
write_exit-requires c =
    let t = c.args.text.now in
    rw (c.result_row-d.ensures.0, c.start.ensures, c.write_break-b.ensures.0, c.result_row-h.ensures.0)
    (omega (arith, head_small (kind_in t.kinds.now) t.bytes.now (start_of c.args.from) c.args.to c.requires.0 c.requires.1 c.requires.2))

pub returns : goal.returns
returns c =
    let t = c.args.text.now in
    let said = head_said (kind_in t.kinds.now) t.bytes.now (start_of c.args.from) c.args.to c.args.slots.now in (
      rw (c.write_exit.ensures.0, c.result_row-d.ensures.0, c.start.ensures, c.write_break-b.ensures.0, c.result_row-h.ensures.0) said.0,
      rw (
        c.write_exit.ensures.1,
        c.result_row-d.ensures.0,
        c.result_row-d.ensures.1,
        c.start.ensures,
        c.write_break-b.ensures.0,
        c.write_break-b.ensures.1,
        c.result_row-h.ensures.0,
        c.result_row-h.ensures.1,
        c.put-2.ensures,
        c.enter-2.ensures,
        c.point-2.ensures,
        c.put.ensures,
        c.enter.ensures,
        c.point.ensures,
      ) said.1,
    )
