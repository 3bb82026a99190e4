-- `values::colon_end` meets its contract.
-- Assumes nothing.
use native.Mathlib.Omega.{arith}
use mathlib.Core.Path.{◌∙◌}
use Rattle.tokenizer.specs.declared.kinds.Kind.TheVariants.{Colon}
use Rattle.tokenizer.proofs.SameKinds.{same_front, other_number}
use Rattle.gfm_table.proofs.ValuePlaces.{colon-one, colon-none}
use Rattle.gfm_table.proofs.values.colon_end.Goals as goal

pub returns-then-eq : goal.returns-then-eq
returns-then-eq g c =
    let t = c.args.text.now in
    let f = same_front t.passes.reads t.bytes.now c.args.at _ Colon c.kind_at.ensures c.eq.ensures c.if-eq.true (λ z. omega arith) in
    omega (arith, colon-one t.passes.reads t.bytes.now c.args.at f)

pub returns : goal.returns
returns g c =
    let t = c.args.text.now in
    omega (arith, colon-none t.passes.reads t.bytes.now c.args.at (λ z. other_number _ Colon c.eq.ensures c.if-eq.false (c.kind_at.ensures ∙ z)))
