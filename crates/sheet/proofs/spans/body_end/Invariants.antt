-- `spans::body_end` meets its contract: where the rows end from each line passed, they end from the first. The measure is the bytes left.
-- Assumes nothing.
use Rattle.std.proofs.Common.{◌-◌, length}
use Rattle.tokenizer.specs.Bytes.{kind_in}
use Rattle.tokenizer.specs.Points.{start_of}
use Rattle.sheet.specs.declared.spans.Tail.{Tail}
use Rattle.sheet.specs.From.{AtLine}
use Rattle.sheet.specs.Spans.{EndsBody}
use Rattle.sheet.proofs.spans.body_end.Given as goal

abbrev pub invariant-loop-n : goal.invariant-loop-n
invariant-loop-n l =
    let ends = EndsBody (kind_in l.text.kinds.now) l.text.bytes.now in
    AtLine l.text.bytes.now (start_of l.row) × ((r : Tail) → ends (start_of l.row) r → ends (start_of l.fn.from) r)

abbrev pub decreases-loop-n : goal.decreases-loop-n
decreases-loop-n l = length l.text.bytes.now - l.row.at
