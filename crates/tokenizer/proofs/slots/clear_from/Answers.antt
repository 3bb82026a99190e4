-- `slots::clear_from` meets its contract.
-- Assumes nothing.
use mathlib.Core.Path.{sym, ◌∙◌}
use native.Mathlib.Omega.{arith}
use Rattle.tokenizer.proofs.Blanks.{cleared_none, cleared_one}
use Rattle.tokenizer.proofs.slots.clear_from.Goals as goal

pub loop-i-preserved : goal.loop-i-preserved
loop-i-preserved g c = let l = c.loop-i in sym (cleared_one c.args.blank l.i l.slots (omega arith)) ∙ l.invariant

pub returns : goal.returns
returns g c = let l = c.loop-i in sym (cleared_none c.args.blank l.i l.slots (omega arith)) ∙ l.invariant
