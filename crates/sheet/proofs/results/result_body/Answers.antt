-- `results::result_body` meets its contract.
-- Assumes nothing.
use Rattle.std.proofs.Common.{arith}
use Rattle.tokenizer.specs.Bytes.{kind_in}
use Rattle.sheet.proofs.ResultBodies.{none_said, first-few, others-few, last-few, body_said}
use Rattle.sheet.proofs.results.result_body.Goals as goal

pub returns-then-stop-w : goal.returns-then-stop-w
returns-then-stop-w c =
    let a = c.args in
    let t = a.text.now in
    rw (c.write_exit.ensures.0, c.write_exit.ensures.1) (none_said (kind_in t.kinds.now) t.bytes.now a.stop a.w c.requires.0 c.requires.1 c.requires.2 c.if-stop-w.true a.slots.now)

pub result_row-first-requires : goal.result_row-first-requires
result_row-first-requires c =
    let a = c.args in
    let t = a.text.now in
    rw (c.start.ensures, c.write_break-b.ensures.0) (first-few (kind_in t.kinds.now) t.bytes.now a.stop a.w c.requires.0 c.requires.1 c.requires.2 c.if-stop-w.false)

pub rows_behind-last-requires : goal.rows_behind-last-requires
rows_behind-last-requires c =
    let a = c.args in
    let t = a.text.now in
    rw (c.result_row-first.ensures.0, c.start.ensures, c.write_break-b.ensures.0) (others-few (kind_in t.kinds.now) t.bytes.now a.stop a.w c.requires.0 c.requires.1 c.requires.2 c.if-stop-w.false)

pub write_exit-end-requires : goal.write_exit-end-requires
write_exit-end-requires c =
    let a = c.args in
    let t = a.text.now in
    rw (c.rows_behind-last.ensures.0, c.result_row-first.ensures.0, c.start.ensures, c.write_break-b.ensures.0)
    (omega (arith, last-few (kind_in t.kinds.now) t.bytes.now a.stop a.w c.requires.0 c.requires.1 c.requires.2 c.if-stop-w.false))

pub write_exit-requires-2 : goal.write_exit-requires-2
write_exit-requires-2 c =
    let a = c.args in
    let t = a.text.now in
    rw (c.write_exit-end.ensures.0, c.rows_behind-last.ensures.0, c.result_row-first.ensures.0, c.start.ensures, c.write_break-b.ensures.0)
    (last-few (kind_in t.kinds.now) t.bytes.now a.stop a.w c.requires.0 c.requires.1 c.requires.2 c.if-stop-w.false)

pub returns : goal.returns
returns c =
    let a = c.args in
    let t = a.text.now in
    let said = body_said (kind_in t.kinds.now) t.bytes.now a.stop a.w c.requires.0 c.requires.1 c.requires.2 c.if-stop-w.false a.slots.now in (
      rw (c.write_exit-2.ensures.0, c.write_exit-end.ensures.0, c.rows_behind-last.ensures.0, c.result_row-first.ensures.0, c.start.ensures, c.write_break-b.ensures.0) said.0,
      rw (
        c.write_exit-2.ensures.1,
        c.write_exit-end.ensures.0,
        c.write_exit-end.ensures.1,
        c.rows_behind-last.ensures.0,
        c.rows_behind-last.ensures.1,
        c.result_row-first.ensures.0,
        c.result_row-first.ensures.1,
        c.start.ensures,
        c.put.ensures,
        c.enter.ensures,
        c.point.ensures,
        c.write_break-b.ensures.0,
        c.write_break-b.ensures.1,
      ) said.1,
    )
