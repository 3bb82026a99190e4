-- `Sheet::run_end` meets its contract: after each byte the run ends where it ended before. The measure is the bytes left.
-- Assumes nothing.
use mathlib.Core.Path.{sym, ◌∙◌}
use native.Mathlib.Omega.{arith}
use Rattle.tokenizer.specs.Bytes.{kind_in}
use Rattle.tokenizer.specs.Moves.{run_of}
use Rattle.tokenizer.proofs.SameKinds.{tagged}
use Rattle.tokenizer.proofs.Ahead.{goes, end_none, end_over, over_inside, run_stops}
use Rattle.tokenizer.proofs.Runs.{run_on}
use Rattle.tokenizer.proofs.moves.Sheet.run_end.Goals as goal

pub over-q-requires : goal.over-q-requires
over-q-requires c =
    let t = c.args.self.now in
    let f = goes t.passes.reads t.bytes.now c.loop-q.q.index c.args.k (omega (arith, tagged c.ahead.result)) c.requires.1 in
    (c.loop-q.invariant.0, f.below)

pub loop-q-smaller : goal.loop-q-smaller
loop-q-smaller c =
    let t = c.args.self.now in
    let f = goes t.passes.reads t.bytes.now c.loop-q.q.index c.args.k (omega (arith, tagged c.ahead.result)) c.requires.1 in
    rw c.over-q.ensures (omega arith)

pub loop-q-preserved : goal.loop-q-preserved
loop-q-preserved c =
    let t = c.args.self.now in
    let l = c.loop-q in
    let k = c.args.k in
    let run = run_of (kind_in t.kinds.now) k in
    let f = goes t.passes.reads t.bytes.now l.q.index k (omega (arith, tagged c.ahead.result)) c.requires.1 in
    rw c.over-q.ensures (over_inside _ l.q k f l.invariant.0, end_over _ l.q k f run run (run_on (kind_in t.kinds.now) k) ∙ l.invariant.1)

pub returns : goal.returns
returns c =
    let t = c.args.self.now in
    let l = c.loop-q in
    let k = c.args.k in
    sym (end_none (run_of (kind_in t.kinds.now) k) _ l.q l.invariant.0 (run_stops t.passes.reads k _ (λ z. c.loop-q-test.false (omega (arith, tagged c.ahead.result)))))
    ∙ l.invariant.1
