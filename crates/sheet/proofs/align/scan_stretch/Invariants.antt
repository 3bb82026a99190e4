-- `align::scan_stretch` meets its contract: after each byte the ends of the rest, added, are those of the stretch.
-- Assumes nothing.
use Rattle.std.proofs.Common.{◌≡◌, ◌≤◌, length, ◌-◌, Some}
use Rattle.tokenizer.specs.declared.kinds.Kind.TheVariants.{Space}
use Rattle.tokenizer.specs.Bytes.{kind_in}
use Rattle.gfm_table.specs.Delimiters.{stretch}
use Rattle.sheet.specs.Aligning.{line_from, end_numbers, ends_past}
use Rattle.sheet.proofs.align.scan_stretch.Given as goal

abbrev pub invariant-loop-e : goal.invariant-loop-e
invariant-loop-e l =
    (l.e.end ≤ length l.text.bytes.now)
    × (ends_past (kind_in l.text.kinds.now) (end_numbers l.e) (stretch (kind_in l.text.kinds.now) (line_from l.text.bytes.now l.e.end)) ≡ ends_past (kind_in l.text.kinds.now) (end_numbers l.initial.e) (stretch (kind_in l.text.kinds.now) (line_from l.text.bytes.now l.initial.e.end)))
    × (l.e.first ≡ Some Space → ⊥)

abbrev pub decreases-loop-e : goal.decreases-loop-e
decreases-loop-e l = length l.text.bytes.now - l.e.end
