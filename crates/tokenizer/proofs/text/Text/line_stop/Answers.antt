-- `Text::line_stop` meets its contract: after each byte the line ends where it ended before.
-- Assumes nothing.
use mathlib.Core.Path.{ap, sym, ◌∙◌}
use native.Mathlib.Omega.{arith}
use lib.ListN.{length}
use Rattle.tokenizer.specs.declared.kinds.Kind.TheVariants.{End}
use Rattle.tokenizer.proofs.SameKinds.{another, no_other}
use Rattle.tokenizer.proofs.Ahead.{goes, ends}
use Rattle.tokenizer.proofs.text.Text.line_stop.Goals as goal

pub loop-i-preserved : goal.loop-i-preserved
loop-i-preserved g c =
    let f = goes c.args.self.now.passes.reads c.args.self.now.bytes.now c.loop-i.i _ c.kind_at.ensures (another _ End c.ne.ensures c.loop-i-test.true) in
    omega (arith, ap length f.line, c.loop-i.invariant)

pub returns : goal.returns
returns g c =
    let e = ap length (ends c.args.self.now.passes.reads _ (sym c.kind_at.ensures ∙ no_other _ End c.ne.ensures c.loop-i-test.false)) in
    omega (arith, e, c.loop-i.invariant)
