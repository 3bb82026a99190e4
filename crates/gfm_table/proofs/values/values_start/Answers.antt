-- `values::values_start` meets its contract: nothing stands before a leading divider.
-- Assumes nothing.
use mathlib.Core.Path.{◌∙◌}
use native.Mathlib.Omega.{arith}
use Rattle.tokenizer.specs.declared.kinds.Kind.TheVariants.{Pipe}
use Rattle.tokenizer.proofs.SameKinds.{same_front, other_number}
use Rattle.gfm_table.proofs.ValuePlaces.{start-led, start_plain}
use Rattle.gfm_table.proofs.values.values_start.Goals as goal

pub returns-then-eq : goal.returns-then-eq
returns-then-eq g c =
    let t = c.args.text.now in
    let f = same_front t.passes.reads t.bytes.now c.space_stop-a.result _ Pipe c.kind_at.ensures c.eq.ensures c.if-eq.true (λ z. omega arith) in
    start-led t.passes.reads t.bytes.now c.args.at 0 _ c.space_stop-a.ensures f

pub returns : goal.returns
returns g c =
    let t = c.args.text.now in
    start_plain t.passes.reads t.bytes.now c.args.at 0 _ c.space_stop-a.ensures (λ z. other_number _ Pipe c.eq.ensures c.if-eq.false (c.kind_at.ensures ∙ z))
