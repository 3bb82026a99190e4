-- Before each table some tables are left, and of the slots as they are these make what all tables make of the slots as they came. Each turn writes one table.
-- Assumes nothing.
use Rattle.std.proofs.Common.{◌-◌, length}
use Rattle.tokenizer.specs.Bytes.{kind_in}
use Rattle.sheet.specs.Walk.{tables}
use Rattle.sheet.proofs.Tabling.{Left}
use Rattle.sheet.proofs.write.write_tables.Given as goal

abbrev pub invariant-loop-next : goal.invariant-loop-next
invariant-loop-next l = Left (kind_in l.text.kinds.now) l.text.bytes.now l.on l.fn.raw l.fn.results l.fn.alignments l.next l.counts l.raw l.results l.alignments

abbrev pub decreases-loop-next : goal.decreases-loop-next
decreases-loop-next l = length (tables (kind_in l.text.kinds.now) l.on l.text.bytes.now) - l.counts.tables
