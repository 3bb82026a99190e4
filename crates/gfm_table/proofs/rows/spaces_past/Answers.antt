-- `rows::spaces_past` meets its contract: after each byte the run ends where it ended before.
-- Assumes nothing.
use mathlib.Core.Path.{◌≡◌, ap, sym, ◌∙◌}
use mathlib.Core.List.{[]}
use native.Mathlib.Omega.{arith}
use lib.ListN.{drop}
use Rattle.tokenizer.specs.declared.event.Point.{Point}
use Rattle.tokenizer.specs.declared.kinds.Kind.TheVariants.{Space}
use Rattle.tokenizer.specs.Bytes.{kind_in}
use Rattle.tokenizer.specs.Points.{column_past}
use Rattle.tokenizer.specs.Lines.{line_body, indent}
use Rattle.tokenizer.proofs.SameKinds.{another, no_other}
use Rattle.tokenizer.proofs.Ahead.{goes, end_none, end_over, over_inside, run_stops, past_last}
use Rattle.tokenizer.proofs.Runs.{indent_run, space_on}
use Rattle.gfm_table.specs.Places.{point_in}
use Rattle.gfm_table.proofs.rows.spaces_past.Goals as goal

pub returns-then-ne : goal.returns-then-ne
returns-then-ne c =
    let l = c.loop-i in
    let t = c.args.text.now in
    let kind = kind_in t.kinds.now in
    let q = point_in 0 l.i l.c in
    let n : indent kind (line_body (drop l.i t.bytes.now)) ≡ [] = indent_run kind (line_body (drop l.i t.bytes.now)) ∙ run_stops t.passes.reads 1 (drop l.i t.bytes.now) (λ z. another _ Space c.ne.ensures c.if-ne.true (c.kind_at.ensures ∙ z)) in
    let e = sym (end_none (indent kind) t.bytes.now q l.invariant.0 n) ∙ l.invariant.1 in
    (ap (λ (p : Point). p.index) e, ap (λ (p : Point). p.column) e)

pub loop-i-preserved : goal.loop-i-preserved
unfolding column_past
loop-i-preserved c =
    let l = c.loop-i in
    let t = c.args.text.now in
    let kind = kind_in t.kinds.now in
    let f = goes t.passes.reads t.bytes.now l.i 1 (sym (no_other _ Space c.ne.ensures c.if-ne.false) ∙ c.kind_at.ensures) (λ z. omega arith) in
    let q = point_in 0 l.i l.c in
    rw c.column_after-c.ensures (over_inside _ q _ f l.invariant.0, end_over _ q _ f (indent kind) (indent kind) (space_on kind) ∙ l.invariant.1)

pub returns : goal.returns
unfolding indent
returns c =
    let l = c.loop-i in
    let t = c.args.text.now in
    let kind = kind_in t.kinds.now in
    let q = point_in 0 l.i l.c in
    let n : indent kind (line_body (drop l.i t.bytes.now)) ≡ [] = ap (indent kind) (past_last t.bytes.now l.i c.loop-i-test.false) in
    let e = sym (end_none (indent kind) t.bytes.now q l.invariant.0 n) ∙ l.invariant.1 in
    let m = l.invariant.0 in
    (omega (arith, ap (λ (p : Point). p.index) e, m.within), ap (λ (p : Point). p.column) e)
