-- `Text::run_stop` meets its contract: after each byte the run ends where it ended before.
-- Assumes nothing.
use mathlib.Core.Path.{ap, sym, ◌∙◌}
use native.Mathlib.Omega.{arith}
use lib.ListN.{length}
use Rattle.tokenizer.specs.Bytes.{kind_in, kind_number}
use Rattle.tokenizer.specs.Moves.{run_of}
use Rattle.tokenizer.proofs.SameKinds.{same_number, other_number}
use Rattle.tokenizer.proofs.Ahead.{Front, goes, run_stops}
use Rattle.tokenizer.proofs.Runs.{run_on}
use Rattle.tokenizer.proofs.text.Text.run_stop.Goals as goal
use Rattle.tokenizer.proofs.text.Text.run_stop.Goals.{In-loop-k}

front : (g : _) (c : In-loop-k g) → Front (kind_in c.args.self.now.kinds.now) c.args.self.now.bytes.now c.loop-k.i (kind_number c.kind_at.result)
front g c = goes c.args.self.now.passes.reads _ _ _ c.kind_at.ensures (λ z. c.requires (sym (same_number _ c.args.k c.eq.ensures c.loop-k-test.true) ∙ z))

pub overflow_add-i : goal.overflow_add-i
overflow_add-i g c = omega (arith, (front g c).below)

pub loop-k-smaller : goal.loop-k-smaller
loop-k-smaller g c = omega (arith, (front g c).below)

pub loop-k-preserved : goal.loop-k-preserved
loop-k-preserved g c =
    let f = front g c in
    let run = run_of (kind_in c.args.self.now.kinds.now) (kind_number c.args.k) in
    let e = ap length (ap run f.line ∙ run_on (kind_in c.args.self.now.kinds.now) (kind_number c.args.k) _ _ (f.is ∙ same_number _ c.args.k c.eq.ensures c.loop-k-test.true)) in
    omega (arith, e, c.loop-k.invariant)

pub returns : goal.returns
returns g c =
    let e = ap length (run_stops c.args.self.now.passes.reads _ _ (λ z. other_number _ c.args.k c.eq.ensures c.loop-k-test.false (c.kind_at.ensures ∙ z))) in
    omega (arith, e, c.loop-k.invariant)
