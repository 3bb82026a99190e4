-- `seek::columns_at` meets its contract: a line of another kind than a delimiter row's has no values.
-- Assumes nothing.
use mathlib.Core.Logic.{◌⊎◌, inl, inr, ⊎_elim}
use mathlib.Core.Bool.{false≢true}
use mathlib.Core.Path.{◌≡◌, ap, sym, ◌∙◌}
use native.Mathlib.Omega.{arith}
use Rattle.tokenizer.specs.Bytes.{kind_number}
use Rattle.gfm_table.specs.Delimiters.{positive}
use Rattle.gfm_table.proofs.ValuePlaces.{count_other}
use Rattle.sheet.proofs.From.{columns_zero}
use Rattle.sheet.proofs.seek.columns_at.Goals as goal
use Rattle.sheet.proofs.seek.columns_at.Goals.{in-Other, in_default}

-- by its first byte
pub returns-then-matches : goal.returns-then-matches
returns-then-matches c =
    let a = c.args in
    let t = a.text.now in
    let k = kind_number c.kind_at.result in
    let n : (k ≡ 0) ⊎ (k ≡ 2) =
    elim c.match-matches.branch [ in-Other w ↦ ⊎_elim (λ z. inl (ap kind_number z)) (λ z. inr (ap kind_number z)) w.in-Other.is | in_default w ↦ absurd (false≢true (sym w.matches-is ∙ c.if-matches.true)) ] in
    ap positive (columns_zero t.passes.reads t.bytes.now a.on a.at a.d (count_other t.passes.reads t.bytes.now a.d k c.kind_at.ensures (λ z. omega arith) (λ z. omega arith) (λ z. omega arith) (λ z. omega arith)))
