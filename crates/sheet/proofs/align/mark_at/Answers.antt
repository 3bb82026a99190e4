-- `align::mark_at` meets its contract.
-- Assumes nothing.
use Rattle.std.proofs.Common.{rules}
use mathlib.Core.Path.{refl}
use Rattle.tokenizer.specs.Bytes.{kind_in}
use Rattle.sheet.specs.Aligning.{line_from}
use Rattle.sheet.proofs.Aligning.{marked_by}
use Rattle.sheet.proofs.align.mark_at.Goals as goal

pub returns : goal.returns
returns c =
    let a = c.args in
    let t = a.text.now in
    marked_by (kind_in t.kinds.now) (line_from t.bytes.now a.at) a.at _ _ c.scan_stretch-e.ensures.0 c.scan_stretch-e.ensures.1 refl (search rules)
