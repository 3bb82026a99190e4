-- `values::values_from` meets its contract: after each value the number and what is left make the same. The measure is the bytes left.
-- Assumes nothing.
use mathlib.Core.Path.{refl, ap, sym, ◌∙◌}
use native.Mathlib.Omega.{arith}
use Rattle.tokenizer.specs.declared.kinds.Kind.TheVariants.{End, Pipe}
use Rattle.tokenizer.proofs.Ahead.{goes}
use Rattle.tokenizer.proofs.SameKinds.{another, no_other}
use Rattle.gfm_table.specs.Delimiters.{positive}
use Rattle.gfm_table.proofs.ValuePlaces.{end_none, end-some, count-more, count-last, count-empty, count_bad, count_zero, some_number}
use Rattle.gfm_table.proofs.values.values_from.Goals as goal
use Rattle.gfm_table.proofs.values.values_from.Goals.{then-n-eq0-via-then-n-eq0, then-n-eq0-via-else-n-eq0+then-ne-2}

pub returns-then-ne : goal.returns-then-ne
returns-then-ne c =
    let t = c.args.text.now in
    let l = c.loop-e in
    let v = end-some t.passes.reads t.bytes.now l.i _ (sym c.in-Some.is ∙ c.value_end.ensures) in
    let e = count-last t.passes.reads t.bytes.now l.i l.n _ v (λ z. another _ Pipe c.ne.ensures c.if-ne.true (c.kind_at.ensures ∙ z)) ∙ l.invariant.2 in
    some_number _ (λ z. omega arith) ∙ ap positive e

pub loop-e-preserved : goal.loop-e-preserved
loop-e-preserved c =
    let t = c.args.text.now in
    let l = c.loop-e in
    let v = end-some t.passes.reads t.bytes.now l.i _ (sym c.in-Some.is ∙ c.value_end.ensures) in
    let f = goes t.passes.reads t.bytes.now c.in-Some.e 3 (sym (no_other _ Pipe c.ne.ensures c.if-ne.false) ∙ c.kind_at.ensures) (λ z. omega arith) in
    (omega (arith, f.below), omega (arith, l.invariant.1, v.1), count-more t.passes.reads t.bytes.now l.i l.n _ v f ∙ l.invariant.2)

pub returns-then-n-eq0 : goal.returns-then-n-eq0
returns-then-n-eq0 c =
    let t = c.args.text.now in
    let l = c.loop-e in
    let v = end_none t.passes.reads t.bytes.now l.i (sym c.in_default.is ∙ c.value_end.ensures) in
    elim c.then-n-eq0.branch [
      | then-n-eq0-via-then-n-eq0 w ↦ ap positive (count_zero t.passes.reads t.bytes.now l.i l.n _ refl v w.if-n-eq0.true ∙ l.invariant.2)
      | then-n-eq0-via-else-n-eq0+then-ne-2 w ↦
          ap positive (count_bad t.passes.reads t.bytes.now l.i l.n _ w.space_stop.ensures v (λ z. another _ End w.ne-else-n-eq0.ensures w.if-ne-2.true (w.kind_at-else-n-eq0.ensures ∙ z)) ∙ l.invariant.2)
    ]

pub returns : goal.returns
returns c =
    let t = c.args.text.now in
    let l = c.loop-e in
    let e = sym c.kind_at-else-n-eq0.ensures ∙ no_other _ End c.ne-else-n-eq0.ensures c.if-ne-2.false in
    some_number l.n c.if-n-eq0.false ∙ ap positive (count-empty t.passes.reads t.bytes.now l.i l.n _ c.space_stop.ensures e ∙ l.invariant.2)
