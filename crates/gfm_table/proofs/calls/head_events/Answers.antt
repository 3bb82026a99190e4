-- `calls::head_events` meets its contract.
-- Assumes nothing.
use native.Mathlib.Omega.{arith}
use Rattle.tokenizer.specs.Bytes.{kind_in}
use Rattle.tokenizer.specs.Moves.{rest_of}
use Rattle.gfm_table.proofs.Plans.{delimiter-few, rest-few}
use Rattle.gfm_table.proofs.calls.head_events.Goals as goal

pub overflow_add-result : goal.overflow_add-result
overflow_add-result c =
    let t = c.args.text.now in
    let d = c.args.o.delimiter in
    record { fits = omega (arith, c.marks_from.ensures, c.requires.1, delimiter-few (kind_in t.kinds.now) (rest_of t.bytes.now d), rest-few t.bytes.now d c.requires.0) }
