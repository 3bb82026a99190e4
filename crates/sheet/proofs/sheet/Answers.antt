-- `sheet` meets its contract.
-- Assumes nothing.
use mathlib.Core.Path.{refl}
use Rattle.sheet.proofs.Sheets.{right}
use Rattle.sheet.proofs.sheet.Goals as goal

pub returns : goal.returns
returns c =
    let a = c.args in
    let d = c.read_tables-answer.ensures in
    let h = right a.sheet.now a.kinds.now a.code_indented a.raw.now a.results.now a.alignments.now in
    rw (c.clear_from.ensures, c.clear_from-2.ensures, c.clear_from-3.ensures, c.unwrap_or-kept.ensures, d.raw, d.results, d.alignments, d.told) (refl, (h.events, (h.results, h.aligned)))
