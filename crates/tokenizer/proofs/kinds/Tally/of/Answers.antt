-- `Tally::of` meets its contract: what is found and what the entries that are left add make the tally.
-- Assumes nothing.
use mathlib.Core.Path.{sym, ◌∙◌}
use native.Mathlib.Omega.{arith}
use lib.ListN.{get_or}
use Rattle.tokenizer.proofs.KindTables.{tally-more, tally_done, few-more}
use Rattle.tokenizer.proofs.kinds.Tally.of.Goals as goal

pub loop-b-preserved : goal.loop-b-preserved
loop-b-preserved c =
    let l = c.loop-b in
    let t = c.args.kinds.now in
    rw c.step-t.ensures (few-more l.t l.b (get_or t l.b 0) l.invariant.0, tally-more l.t l.b t (omega arith) ∙ l.invariant.1)

pub returns : goal.returns
returns c = let l = c.loop-b in sym (tally_done l.t l.b c.args.kinds.now (omega arith)) ∙ l.invariant.1
