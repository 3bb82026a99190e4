-- `seek::next_head` meets its contract: from each line tried the same tables come. The measure is the bytes left.
-- Assumes nothing.
use Rattle.std.proofs.Common.{◌≡◌, length, ◌-◌}
use Rattle.tokenizer.specs.Bytes.{kind_in}
use Rattle.tokenizer.specs.Places.{lines_from}
use Rattle.tokenizer.specs.Points.{start_of}
use Rattle.sheet.specs.Walk.{heads}
use Rattle.sheet.specs.From.{AtLine}
use Rattle.sheet.proofs.seek.next_head.Given as goal

abbrev pub invariant-loop-d : goal.invariant-loop-d
invariant-loop-d l =
    let s = l.text.bytes.now in
    let tables = heads (kind_in l.text.kinds.now) l.on in
    AtLine s (start_of l.head) × (tables (lines_from s (start_of l.head)) ≡ tables (lines_from s (start_of l.fn.from)))

abbrev pub decreases-loop-d : goal.decreases-loop-d
decreases-loop-d l = length l.text.bytes.now - l.head.at
