-- `values::values_row` meets its contract.
-- Assumes nothing.
use Prim.Native.Nat.{ℕ}
use mathlib.Core.Path.{◌≡◌, ap, ◌∙◌}
use mathlib.Core.Bool.{Bool, true, false}
use mathlib.Core.List.{List}
use Rattle.std.specs.Prelude.{Some}
use Rattle.std.specs.Bool.{then_some}
use Rattle.tokenizer.specs.Bytes.{Reads, kind_in}
use Rattle.gfm_table.specs.Heads.{marked}
use Rattle.gfm_table.specs.Delimiters.{positive, rest_count, value_count}
use Rattle.gfm_table.proofs.Passing.{line_from}
use Rattle.gfm_table.proofs.ValuePlaces.{row_count, start-within, start-count, count-marked, count_unmarked, none_counted}
use Rattle.gfm_table.proofs.values.values_row.Goals as goal

pub values_from-requires : goal.values_from-requires
values_from-requires c =
    let t = c.args.text.now in
    rw c.values_start.ensures (start-within t.passes.reads t.bytes.now c.args.at c.requires)

pub returns-in_err-n : goal.returns-in_err-n
returns-in_err-n c =
    let t = c.args.text.now in
    c.from_residual.ensures ∙ none_counted t.passes.reads t.bytes.now c.args.at (rw c.values_start.ensures at c.in_err-n.ensures)

-- of a line that has a colon or a divider its values are told, and of no other
told : {kind : ℕ → ℕ} (ok : Reads kind) (u : List ℕ) (n : ℕ) (b : Bool) → Some n ≡ positive (row_count ok u) → b ≡ marked kind u → then_some b n ≡ positive (value_count kind u)
told ok u n true h m = h ∙ ap positive (count-marked ok u m)
told ok u n false h m = ap positive (count_unmarked ok u m)

pub returns : goal.returns
returns c =
    let t = c.args.text.now in
    let k = kind_in t.kinds.now in
    c.then_some.ensures
    ∙ told t.passes.reads (line_from t.bytes.now c.args.at) _ _
    (c.in_ok-n.ensures
    ∙ ap (λ (i : _). positive (rest_count k 0 (line_from t.bytes.now i))) c.values_start.ensures
    ∙ ap positive (start-count t.passes.reads t.bytes.now c.args.at))
    c.marked_from.ensures
