-- `pieces::fillers_end` meets its contract: after each byte the run ends where it ended before.
-- Assumes nothing.
use mathlib.Core.Path.{ap}
use native.Mathlib.Omega.{arith}
use lib.ListN.{length, drop}
use Rattle.tokenizer.specs.declared.kinds.Kind.TheVariants.{Colon}
use Rattle.tokenizer.specs.Bytes.{kind_in}
use Rattle.tokenizer.proofs.Ahead.{past_last}
use Rattle.gfm_table.specs.Delimiters.{filler_run}
use Rattle.gfm_table.proofs.KindsAhead.{front, apart_kinds, stop_kind, far_kind}
use Rattle.gfm_table.proofs.Fillers.{fillers_stop}
use Rattle.gfm_table.proofs.Marks.{fillers_more}
use Rattle.gfm_table.proofs.pieces.fillers_end.Goals as goal

pub returns-in-Space : goal.returns-in-Space
returns-in-Space g c =
    let t = c.args.text.now in
    let e = ap length (fillers_stop t.passes.reads (drop c.loop-i.i t.bytes.now) (rw (← c.kind_at.ensures) (stop_kind c.kind_at.result c.in-Space.is))) in
    omega (arith, e, c.loop-i.invariant.1)

pub loop-i-preserved : goal.loop-i-preserved
loop-i-preserved g c =
    let t = c.args.text.now in
    let o = c.in_default in
    let f = front t.passes.reads t.bytes.now c.loop-i.i c.kind_at.result c.kind_at.ensures o.not-End in
    let e = fillers_more t.passes.reads t.bytes.now c.loop-i.i _ f (far_kind c.kind_at.result o.not-Space o.not-End o.not-Pipe) (apart_kinds c.kind_at.result Colon o.not-Colon) in
    (omega arith, omega (arith, e, c.loop-i.invariant.1))

pub returns : goal.returns
unfolding filler_run
returns g c =
    let t = c.args.text.now in
    let e = ap length (ap (filler_run (kind_in t.kinds.now)) (past_last t.bytes.now c.loop-i.i c.loop-i-test.false)) in
    omega (arith, e, c.loop-i.invariant.1, c.max.ensures)
