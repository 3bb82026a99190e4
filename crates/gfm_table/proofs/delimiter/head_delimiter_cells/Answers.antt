-- `head_delimiter_cells` meets its contract: after each value the count and what is left make the same answer. The measure is the bytes left.
-- Assumes nothing.
use mathlib.Core.Path.{ap, sym, ◌∙◌}
use native.Mathlib.Omega.{arith}
use Rattle.std.specs.Prelude.{Some}
use Rattle.tokenizer.specs.declared.kinds.Kind.TheVariants.{Pipe}
use Rattle.tokenizer.proofs.Ahead.{goes, over_inside}
use Rattle.tokenizer.proofs.SameKinds.{same_front, other_number, another, no_other}
use Rattle.gfm_table.proofs.Stretches.{rest_bad, empty-more, empty-last, value_inside, value_later, value_more, value_last}
use Rattle.gfm_table.proofs.delimiter.head_delimiter_cells.Goals as goal

pub returns-in_err-e : goal.returns-in_err-e
returns-in_err-e c =
    let l = c.loop-e in
    c.from_residual.ensures ∙ rest_bad c.args.text.now.passes.reads _ l.q l.m (sym c.in_err-e.was ∙ c.head_delimiter_value_before.ensures) ∙ l.invariant.2

pub returns-then-eq : goal.returns-then-eq
returns-then-eq c =
    let t = c.args.text.now in
    let l = c.loop-e in
    let v = sym (c.in_ok-e.was ∙ ap Some c.in-Empty.is) ∙ c.head_delimiter_value_before.ensures in
    let f = same_front t.passes.reads t.bytes.now c.in-Empty.e.index _ Pipe c.ahead.ensures c.eq.ensures c.if-eq.true (λ z. omega arith) in
    empty-more t.passes.reads _ l.q l.m _ v f ∙ l.invariant.2

pub returns-in-Empty : goal.returns-in-Empty
returns-in-Empty c =
    let l = c.loop-e in
    let v = sym (c.in_ok-e.was ∙ ap Some c.in-Empty.is) ∙ c.head_delimiter_value_before.ensures in
    empty-last c.args.text.now.passes.reads _ l.q l.m _ v (λ z. other_number _ Pipe c.eq.ensures c.if-eq.false (c.ahead.ensures ∙ z)) ∙ l.invariant.2

pub returns-then-ne : goal.returns-then-ne
returns-then-ne c =
    let l = c.loop-e in
    let v = sym (c.in_ok-e.was ∙ ap Some c.in-Value.is) ∙ c.head_delimiter_value_before.ensures in
    value_last c.args.text.now.passes.reads _ l.q l.m _ v (λ z. another _ Pipe c.ne.ensures c.if-ne.true (c.ahead-in-Value.ensures ∙ z)) ∙ l.invariant.2

pub over-q-requires : goal.over-q-requires
over-q-requires c =
    let t = c.args.text.now in
    let l = c.loop-e in
    let v = sym (c.in_ok-e.was ∙ ap Some c.in-Value.is) ∙ c.head_delimiter_value_before.ensures in
    let f = goes t.passes.reads t.bytes.now c.in-Value.e.index 3 (sym (no_other _ Pipe c.ne.ensures c.if-ne.false) ∙ c.ahead-in-Value.ensures) (λ z. omega arith) in
    (value_inside t.passes.reads _ l.q l.m _ v l.invariant.0, f.below)

pub loop-e-smaller : goal.loop-e-smaller
loop-e-smaller c =
    let t = c.args.text.now in
    let l = c.loop-e in
    let v = sym (c.in_ok-e.was ∙ ap Some c.in-Value.is) ∙ c.head_delimiter_value_before.ensures in
    let f = goes t.passes.reads t.bytes.now c.in-Value.e.index 3 (sym (no_other _ Pipe c.ne.ensures c.if-ne.false) ∙ c.ahead-in-Value.ensures) (λ z. omega arith) in
    rw c.over-q.ensures (omega (arith, value_later t.passes.reads _ l.q l.m _ v, f.below))

pub loop-e-preserved : goal.loop-e-preserved
loop-e-preserved c =
    let t = c.args.text.now in
    let l = c.loop-e in
    let v = sym (c.in_ok-e.was ∙ ap Some c.in-Value.is) ∙ c.head_delimiter_value_before.ensures in
    let f = goes t.passes.reads t.bytes.now c.in-Value.e.index 3 (sym (no_other _ Pipe c.ne.ensures c.if-ne.false) ∙ c.ahead-in-Value.ensures) (λ z. omega arith) in
    rw c.over-q.ensures
    (over_inside _ _ 3 f (value_inside t.passes.reads _ l.q l.m _ v l.invariant.0), omega (arith, l.invariant.1, value_later t.passes.reads _ l.q l.m _ v), value_more t.passes.reads _ l.q l.m _ v f ∙ l.invariant.2)
