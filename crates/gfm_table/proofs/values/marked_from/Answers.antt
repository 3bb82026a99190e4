-- `values::marked_from` meets its contract: a colon or a divider is found, or the line ends.
-- Assumes nothing.
use mathlib.Core.Logic.{⊎_elim}
use mathlib.Core.Path.{ap, sym, ◌∙◌}
use native.Mathlib.Omega.{arith}
use borrow.Author.Tests.{ne_eqb}
use lib.ListN.{drop}
use Rattle.tokenizer.specs.declared.kinds.Kind.TheVariants.{Pipe, Colon}
use Rattle.tokenizer.specs.Bytes.{kind_number, kind_in}
use Rattle.tokenizer.proofs.Ahead.{past_last}
use Rattle.gfm_table.specs.Heads.{marked}
use Rattle.gfm_table.proofs.KindsAhead.{front, front_at, apart_kinds}
use Rattle.gfm_table.proofs.Stretches.{unmarked, marked-at}
use Rattle.gfm_table.proofs.values.marked_from.Goals as goal

pub returns-in-Pipe : goal.returns-in-Pipe
returns-in-Pipe g c =
    let t = c.args.text.now in
    let l = c.loop-i in
    ⊎_elim
    (λ e. sym (marked-at t.passes.reads _ l.i 3 (front_at t.passes.reads t.bytes.now l.i c.kind_at.result c.kind_at.ensures Pipe e (λ z. omega arith))) ∙ l.invariant.1)
    (λ e. sym (marked-at t.passes.reads _ l.i 6 (front_at t.passes.reads t.bytes.now l.i c.kind_at.result c.kind_at.ensures Colon e (λ z. omega arith))) ∙ l.invariant.1)
    c.in-Pipe.is

pub loop-i-preserved : goal.loop-i-preserved
loop-i-preserved g c =
    let t = c.args.text.now in
    let l = c.loop-i in
    let o = c.in_default in
    let m = marked-at t.passes.reads _ l.i _ (front t.passes.reads t.bytes.now l.i c.kind_at.result c.kind_at.ensures o.not-End) in
    (omega arith, sym (rw (ne_eqb _ 3 (apart_kinds c.kind_at.result Pipe o.not-Pipe), ne_eqb _ 6 (apart_kinds c.kind_at.result Colon o.not-Colon)) at m) ∙ l.invariant.1)

pub returns-in-End : goal.returns-in-End
returns-in-End g c =
    let t = c.args.text.now in
    let l = c.loop-i in
    unmarked t.passes.reads (drop l.i t.bytes.now) (sym c.kind_at.ensures ∙ ap kind_number c.in-End.is) ∙ l.invariant.1

pub returns-after-loop-i : goal.returns-after-loop-i
unfolding marked
returns-after-loop-i g c =
    let t = c.args.text.now in
    let l = c.loop-i in
    sym (ap (marked (kind_in t.kinds.now)) (past_last t.bytes.now l.i c.loop-i-test.false)) ∙ l.invariant.1
