-- `results::result_table` meets its contract.
-- Assumes nothing.
use Rattle.std.proofs.Common.{◌∙◌}
use Rattle.tokenizer.specs.Bytes.{kind_in}
use Rattle.tokenizer.specs.Points.{start_of}
use Rattle.tokenizer.specs.Moves.{after}
use Rattle.tokenizer.proofs.Ends.{after-inside}
use Rattle.sheet.proofs.Placing.{at-end}
use Rattle.sheet.proofs.ResultBodies.{table-few, table_said, table-stop}
use Rattle.sheet.proofs.results.result_table.Goals as goal

pub result_body-requires : goal.result_body-requires
result_body-requires c =
    let a = c.args in
    let k = kind_in a.text.now.kinds.now in
    let s = a.text.now.bytes.now in
    let p = start_of a.from in
    rw c.result_head-h.ensures.0 (at-end s (after s p) _ (after-inside s p c.requires.1 c.requires.0.inside), c.requires.2 ∙ table-stop k s p a.to, (table-few k s p a.to c.requires.3).1)

pub returns : goal.returns
returns c =
    let t = c.args.text.now in
    let said = table_said (kind_in t.kinds.now) t.bytes.now (start_of c.args.from) c.args.to c.args.slots.now in (
      rw (c.result_body.ensures.0, c.result_head-h.ensures.0) said.0,
      rw (c.result_body.ensures.1, c.result_head-h.ensures.0, c.result_head-h.ensures.1) said.1,
    )
