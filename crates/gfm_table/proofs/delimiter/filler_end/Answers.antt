-- `filler_end` meets its contract: after each byte the run ends where it ended before.
-- Assumes nothing.
use mathlib.Core.Path.{sym, ◌∙◌}
use lib.ListN.{drop}
use Rattle.tokenizer.specs.declared.kinds.Kind.TheVariants.{Colon}
use Rattle.tokenizer.specs.Bytes.{kind_in}
use Rattle.tokenizer.proofs.Ahead.{end_none, end_over, over_inside}
use Rattle.gfm_table.specs.Delimiters.{filler_run}
use Rattle.gfm_table.proofs.KindsAhead.{front, apart_kinds, stop_kind, far_kind}
use Rattle.gfm_table.proofs.Fillers.{filler_on, fillers_stop}
use Rattle.gfm_table.proofs.delimiter.filler_end.Goals as goal

pub loop-q-preserved : goal.loop-q-preserved
loop-q-preserved c =
    let t = c.args.text.now in
    let l = c.loop-q in
    let k = c.ahead.result in
    let o = c.in_default in
    let run = filler_run (kind_in t.kinds.now) in
    let f = front t.passes.reads t.bytes.now l.q.index k c.ahead.ensures o.not-End in
    rw c.over-q.ensures (
      over_inside _ l.q _ f l.invariant.0,
      end_over _ l.q _ f run run (λ b u e. filler_on (kind_in t.kinds.now) b u (rw e (far_kind k o.not-Space o.not-End o.not-Pipe)) (λ z. apart_kinds k Colon o.not-Colon (sym e ∙ z))) ∙ l.invariant.1,
    )

pub returns-in-Space : goal.returns-in-Space
returns-in-Space c =
    let t = c.args.text.now in
    let l = c.loop-q in
    sym (end_none (filler_run (kind_in t.kinds.now)) _ l.q l.invariant.0 (fillers_stop t.passes.reads (drop l.q.index t.bytes.now) (rw (← c.ahead.ensures) (stop_kind c.ahead.result c.in-Space.is))))
    ∙ l.invariant.1
